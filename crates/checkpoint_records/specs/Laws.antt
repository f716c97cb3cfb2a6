-- Laws of books and their bytes.
use Rattle.std.specs.Prelude.{◌≡◌, ℕ, ◌<◌, ◌^◌, List, Result, Ok}
use Rattle.checkpoint_records.specs.Books.{choose, default_name, sessions}
use Rattle.checkpoint_records.specs.Rules.{IsName, KeepsRules}
use Rattle.checkpoint_records.specs.Spelling.{book_bytes}
use Rattle.checkpoint_records.specs.Damage.{StandFor}
use Rattle.checkpoint_records.specs.declared.records.Book.{Book}

-- The bytes of a book that keeps the rules, in which `default` is chosen, stand for it, and for nothing else.
abbrev pub BooksReadBack : Type 0
BooksReadBack = (book : Book) → KeepsRules book → book.epoch < 2 ^ 32 → book.name ≡ default_name → StandFor (book_bytes book) (Ok book) × ((answer : Result Book ℕ) → StandFor (book_bytes book) answer → answer ≡ Ok book)

-- No bytes stand for two books, nor for a book and a place of damage, nor for two places.
abbrev pub BytesStandForOne : Type 0
BytesStandForOne = (bytes : List ℕ) (first second : Result Book ℕ) → StandFor bytes first → StandFor bytes second → first ≡ second

-- Whichever session is chosen, the sessions of a book are the same,
abbrev pub ChoicesKeepSessions : Type 0
ChoicesKeepSessions = (name : List ℕ) (book : Book) → KeepsRules book → sessions (choose name book) ≡ sessions book

-- the book keeps the rules,
abbrev pub ChoicesKeepRules : Type 0
ChoicesKeepRules = (name : List ℕ) (book : Book) → IsName name → KeepsRules book → KeepsRules (choose name book)

-- and choosing the first session again gives the first book.
abbrev pub ChoicesAreUndone : Type 0
ChoicesAreUndone = (name : List ℕ) (book : Book) → KeepsRules book → choose book.name (choose name book) ≡ book
