-- Laws of the store.
use Rattle.std.specs.Prelude.{List, Option, Result, [], length, ℕ, ◌≡◌}
use Rattle.checkpoint_records.specs.declared.records.Book.{Book}
use Rattle.checkpoint_slots.specs.Recovery.{Recovers}
use Rattle.checkpoint_slots.specs.Turns.{SteadyFile, SteadyStands}
use Rattle.checkpoint_slots.specs.declared.turn.Current.{Current}
use Rattle.checkpoint_slots.specs.Layout.{store_size}

-- a file stands for one book, or is damaged at one place
abbrev pub FilesRecoverToOne : Type 0
FilesRecoverToOne = (file : List ℕ) (one two : Result Book ℕ) → Recovers file one → Recovers file two → one ≡ two

-- a turn stands for its book over a file of which no byte is in doubt
abbrev pub SettledStoresStand : Type 0
SettledStoresStand = (current : Option Current) (book : Book) (file : List ℕ) → length file ≡ store_size → SteadyFile current book file → SteadyStands current book file []
