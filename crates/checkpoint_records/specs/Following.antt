-- Which parts may stand behind the head of a book, from the first on, whether or not the book is whole.
use Rattle.std.specs.Prelude.{◌≡◌, ℕ, ◌-◌, ◌≤◌, List, [], ◌∷◌, map, flat_map, sum_by}
use Rattle.std.specs.List.{AllByRecursion}
use Rattle.owned_lists.specs.declared.commands.Command.{Command}
use Rattle.checkpoint_records.specs.Books.{discards}
use Rattle.checkpoint_records.specs.Rules.{AreRising}
use Rattle.checkpoint_records.specs.Parts.{IsSessionHead, AreEntries, ArePending}
use Rattle.checkpoint_records.specs.Spelling.{Part, Begins, Holds, Pends}
use Rattle.checkpoint_records.specs.declared.head.Format.TheVariants.{Single, Several}
use Rattle.checkpoint_records.specs.declared.head.Head.{Head}
use Rattle.checkpoint_records.specs.declared.session_heads.SessionHead.{SessionHead}
use Rattle.checkpoint_records.specs.declared.records.Entry.{Entry}

-- Their order

-- what is yet to come: so many sessions, so many entries of the session that has begun, and so many pending commands
pub record Due : Type 0 where
  pub sessions : ℕ
  pub entries : ℕ
  pub pending : ℕ

-- what a head states; in the first format a session has begun with it
abbrev pub due_behind : Head → Due
due_behind head = elim head.format [
  | Single ↦ record { sessions = 0; entries = head.count; pending = head.pending }
  | Several ↦ record { sessions = head.count; entries = 0; pending = head.pending }
]

abbrev pub nothing_due : Due
nothing_due = record { sessions = 0; entries = 0; pending = 0 }

-- the next session comes behind all entries of the one before it, and a pending command behind all sessions
abbrev pub MayCome : Due → Part → Type 0
MayCome due (Begins head) = (due.entries ≡ 0) × (1 ≤ due.sessions)
MayCome due (Holds entry) = 1 ≤ due.entries
MayCome due (Pends command) = (due.entries ≡ 0) × (due.sessions ≡ 0) × (1 ≤ due.pending)

abbrev pub due_after : Due → Part → Due
due_after due (Begins head) = record { sessions = due.sessions - 1; entries = head.count; pending = due.pending }
due_after due (Holds entry) = record { sessions = due.sessions; entries = due.entries - 1; pending = due.pending }
due_after due (Pends command) = record { sessions = due.sessions; entries = due.entries; pending = due.pending - 1 }

-- each part may come where it stands
abbrev pub AreInOrder : Due → List Part → Type 0
AreInOrder due [] = Unit {0}
AreInOrder due (part ∷ parts) = MayCome due part × AreInOrder (due_after due part) parts

-- what is yet to come behind them
abbrev pub left_due : Due → List Part → Due
left_due due [] = due
left_due due (part ∷ parts) = left_due (due_after due part) parts

-- What they hold

abbrev pub head_in : Part → List SessionHead
head_in (Begins head) = head ∷ []
head_in (Holds entry) = []
head_in (Pends command) = []

abbrev pub entry_in : Part → List Entry
entry_in (Begins head) = []
entry_in (Holds entry) = entry ∷ []
entry_in (Pends command) = []

abbrev pub command_in : Part → List Command
command_in (Begins head) = []
command_in (Holds entry) = []
command_in (Pends command) = command ∷ []

abbrev pub heads_among : List Part → List SessionHead
heads_among parts = flat_map head_in parts

abbrev pub entries_among : List Part → List Entry
entries_among parts = flat_map entry_in parts

abbrev pub commands_among : List Part → List Command
commands_among parts = flat_map command_in parts

-- The parts stand in the order that the head states, and keep the rules of a book together: the names of the sessions rise, their heads
-- don't state more than 128 entries, and entries and pending commands are as in one book.
pub record AreParts (head : Head) (parts : List Part) : Type 0 where
  pub in_order : AreInOrder (due_behind head) parts
  pub heads : AllByRecursion IsSessionHead (heads_among parts)
  pub rising : AreRising (map (λ begun. begun.name) (heads_among parts))
  pub few : sum_by (λ begun. begun.count) (heads_among parts) ≤ 128
  pub entries : AreEntries head.epoch (entries_among parts)
  pub pending : ArePending (discards (entries_among parts)) (commands_among parts)
