-- The parts of a book, as far as they are read.
use Rattle.std.specs.Prelude.{◌≡◌, ℕ, ◌+◌, ◌≤◌, ◌<◌, ◌^◌, false, List, [], ◌∷◌, ◌++◌, length}
use Rattle.std.specs.List.{AllByRecursion, IsDistinct, list_any}
use Rattle.std.specs.Str.{bytes_eq}
use Rattle.owned_lists.specs.declared.commands.Command.{Command}
use Rattle.checkpoint_records.specs.Books.{default_name, entries_in, names_of, same_command, stored}
use Rattle.ice_values.specs.Properties.{IsArray8, IsListed, IsProperty}
use Rattle.checkpoint_records.specs.Rules.{ids_of, in_turn, AreRising, IsEntry, IsCommand, IsName, IsStored}
use Rattle.checkpoint_records.specs.Spelling.{count_in}
use Rattle.checkpoint_records.specs.declared.records.Entry.{Entry}
use Rattle.checkpoint_records.specs.declared.records.Named.{Named}
use Rattle.checkpoint_records.specs.declared.head.Format.{Format}
use Rattle.checkpoint_records.specs.declared.head.Format.TheVariants.{Single, Several}
use Rattle.checkpoint_records.specs.declared.head.Head.{Head}
use Rattle.checkpoint_records.specs.declared.session_heads.SessionHead.{SessionHead}

-- how many entries a head may state in the first format, and how many sessions in the second
abbrev pub count_limit : Format → ℕ
count_limit Single = 128
count_limit Several = 8

-- what a head may state
pub record IsHead (head : Head) : Type 0 where
  pub epoch : head.epoch < 2 ^ 32
  pub count : head.count ≤ count_limit head.format
  pub pending : head.pending ≤ 320

-- what the head of a session may state
pub record IsSessionHead (head : SessionHead) : Type 0 where
  pub called : IsName head.name
  pub some : 1 ≤ head.count
  pub few : head.count ≤ 128

-- entries that keep the rules
pub record AreEntries (epoch : ℕ) (entries : List Entry) : Type 0 where
  pub each : AllByRecursion (IsEntry epoch) entries
  pub ids_differ : IsDistinct bytes_eq (ids_of entries)

-- entries that keep the rules behind those of the sessions before them
abbrev pub AreEntriesBehind : ℕ → List Named → List Entry → Type 0
AreEntriesBehind epoch before entries = AreEntries epoch (entries_in before ++ entries)

-- pending commands that keep the rules beside the commands that the entries name
pub record ArePending (named : List Command) (pending : List Command) : Type 0 where
  pub each : AllByRecursion IsCommand pending
  pub commands_differ : IsDistinct same_command pending
  pub none_named : AllByRecursion (λ command. list_any (same_command command) named ≡ false) pending

-- in the first format there is one session, `default`
abbrev pub MayHold : Format → List Named → Type 0
MayHold Single all = all ≡ stored default_name (entries_in all) []
MayHold Several all = Unit {0}

-- sessions that keep the rules behind a head of this format, epoch and count
pub record AreSessions (head : Head) (all : List Named) : Type 0 where
  pub stored : AllByRecursion IsStored all
  pub rising : AreRising (names_of all)
  pub few_entries : length (entries_in all) ≤ 128
  pub entries : AreEntries head.epoch (entries_in all)
  pub held : MayHold head.format all
  pub few : count_in head.format all ≤ head.count

-- the head of a session may stand behind these sessions
pub record MayBegin (before : List Named) (head : SessionHead) : Type 0 where
  pub rising : AreRising (names_of before ++ head.name ∷ [])
  pub few : length (entries_in before) + head.count ≤ 128

-- what has a spelling
pub record HasEntrySpelling (entry : Entry) : Type 0 where
  pub id : IsArray8 entry.id
  pub table : IsListed IsProperty entry.table

pub record HasSessionSpelling (session : Named) : Type 0 where
  pub called : IsArray8 session.name
  pub count : length session.entries < 2 ^ 32
  pub each : AllByRecursion HasEntrySpelling session.entries

pub record HasCommandSpelling (command : Command) : Type 0 where
  pub words : IsListed IsArray8 command.words
  pub directory : IsArray8 command.directory
  pub environment : IsListed IsArray8 (in_turn command.environment)
