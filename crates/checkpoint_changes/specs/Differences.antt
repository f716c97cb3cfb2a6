-- What the parts of a delta of two books do.
use Rattle.std.specs.Prelude.{◌≡◌, ℕ, ◌+◌, ◌==◌, List, [], ◌∷◌, ◌++◌, Some, length, map, flat_map, if◌then◌else◌}
use Rattle.std.specs.List.{AllByRecursion}
use Rattle.std.specs.Str.{bytes_eq}
use Rattle.owned_lists.specs.declared.commands.Command.{Command}
use Rattle.checkpoint_records.specs.Books.{entries_of, sessions}
use Rattle.checkpoint_records.specs.declared.head.Format.TheVariants.{Several}
use Rattle.checkpoint_records.specs.declared.records.Book.{Book}
use Rattle.checkpoint_records.specs.declared.records.Entry.{Entry}
use Rattle.checkpoint_records.specs.declared.records.Named.{Named}
use Rattle.checkpoint_changes.specs.Changes.{IsChange, apply}
use Rattle.checkpoint_changes.specs.Plain.{KeepsOrder, epoch_in, equal_command, equal_entry, missing_from, pended_in, put_in, removed_in, unpended_in}
use Rattle.checkpoint_changes.specs.declared.changes.Change.{Change}
use Rattle.checkpoint_changes.specs.declared.changes.Change.TheVariants.{Epoch, Pend, Put, Remove, Unpend}

-- Of a session's old entries each stays that is the next of the new ones; the others go.
abbrev pub gone : List Entry → List Entry → List Change
gone [] new = []
gone (e ∷ old) [] = Remove e.id ∷ gone old []
gone (e ∷ old) (f ∷ new) = if bytes_eq e.id f.id then gone old new else Remove e.id ∷ gone old (f ∷ new)

abbrev pub changed_entry : List ℕ → Entry → Entry → List Change
changed_entry name e f = if equal_entry e f then [] else (Put name f ∷ [])

-- What stays is put anew where it isn't equal, and what is then left of the new entries comes.
abbrev pub placed : List ℕ → List Entry → List Entry → List Change
placed name [] new = map (λ entry. Put name entry) new
placed name (e ∷ old) [] = []
placed name (e ∷ old) (f ∷ new) = if bytes_eq e.id f.id then changed_entry name e f ++ placed name old new else placed name old (f ∷ new)

-- what goes from sessions that become others, and what comes into sessions that were others
abbrev pub all_gone : List Named → List Named → List Change
all_gone old new = flat_map (λ session. gone session.entries (entries_of session.name new)) old

abbrev pub all_placed : List Named → List Named → List Change
all_placed old new = flat_map (λ session. placed session.name (entries_of session.name old) session.entries) new

-- Of the old pending commands each stays that is the next of the new ones, n of which stand in front so far; the others go, each from the
-- place behind those that stay, and what is then left of the new ones comes.
abbrev pub pending_changes : ℕ → List Command → List Command → List Change
pending_changes n [] new = map (λ command. Pend command) new
pending_changes n (c ∷ old) [] = Unpend n ∷ pending_changes n old []
pending_changes n (c ∷ old) (d ∷ new) = if equal_command c d then pending_changes (n + 1) old new else (Unpend n ∷ pending_changes n old (d ∷ new))

-- The delta of two books, in this order: the epoch where it differs, what goes from the sessions, what comes into them, and the pending
-- commands.
abbrev pub delta_between : Book → Book → List Change
delta_between old new =
    (if old.epoch == new.epoch then [] else (Epoch new.epoch ∷ []))
    ++ (all_gone (sessions old) (sessions new) ++ (all_placed (sessions old) (sessions new) ++ pending_changes 0 old.pending new.pending))

-- These changes make the new pending commands of the old ones, and change nothing else.
pub record TurnsPending (old new : List Command) (delta : List Change) : Type 0 where
  pub is : delta ≡ pending_changes 0 old new
  pub leads : (book : Book) → book.pending ≡ old → apply book delta ≡ Some (record book { pending = new })
  pub changes : AllByRecursion (IsChange Several) delta
  pub epoch : flat_map epoch_in delta ≡ []
  pub removed : flat_map removed_in delta ≡ []
  pub put : flat_map put_in delta ≡ []
  pub unpended : KeepsOrder equal_command old new → length (flat_map unpended_in delta) ≡ length (missing_from equal_command new old)
  pub pended : KeepsOrder equal_command old new → flat_map pended_in delta ≡ missing_from equal_command old new
