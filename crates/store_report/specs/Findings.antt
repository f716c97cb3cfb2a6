-- What the bytes of a store's file stand for.
use Rattle.std.specs.Prelude.{◌≡◌, ◌≢◌, ℕ, List, length, Ok, Err}
use Rattle.checkpoint_records.specs.Books.{default_name}
use Rattle.checkpoint_records.specs.Rules.{KeepsRules}
use Rattle.checkpoint_slots.specs.Recovery.{Recovers}
use Rattle.store_report.specs.declared.finding.Finding.{Finding}
use Rattle.store_report.specs.declared.finding.Finding.TheVariants.{Opens, Damaged, WrongSize}
use Rattle.checkpoint_slots.specs.Layout.{store_size}

-- The size first, and then the book or the place of the damage, as a session finds it.
abbrev pub StandsFor : List ℕ → Finding → Type 0
StandsFor file (Opens book) = (length file ≡ store_size) × Recovers file (Ok book)
StandsFor file (Damaged at) = (length file ≡ store_size) × Recovers file (Err at)
StandsFor file (WrongSize size) = (size ≡ length file) × (size ≢ store_size)

-- A book that opens keeps the rules of books, and the session is chosen in it that is called where no name is said.
abbrev pub OpensByRules : Finding → Type 0
OpensByRules (Opens book) = KeepsRules book × (book.name ≡ default_name)
OpensByRules (Damaged at) = Unit {0}
OpensByRules (WrongSize size) = Unit {0}
