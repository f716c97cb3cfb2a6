-- The shelf: books that were kept as logins to sessions began. Those of a session stand in it with the newest first, and each has a number
-- that no other has. What a further book leaves of it.
use Rattle.std.specs.Prelude.{◌≡◌, ◌<◌, ◌+◌, ◌^◌, ◌≤◌, ℕ, Bool, not, ◌&&◌, List, [], ◌∷◌, ◌++◌, filter, take, max, Result, Ok, Err}
use Rattle.std.specs.Str.{bytes_eq}
use Rattle.std.specs.Cmp.Lexicographic.{pointwise}
use Rattle.checkpoint_records.specs.Books.{entries_of, sessions}
use Rattle.checkpoint_records.specs.declared.records.Book.{Book}
use Rattle.checkpoint_records.specs.declared.records.Entry.{Entry}
use Rattle.checkpoint_changes.specs.Plain.{equal_entry}
use Rattle.kept_books.specs.declared.shelves.Kept.{Kept}
use Rattle.kept_books.specs.declared.shelves.KeepRefusal.{KeepRefusal}
use Rattle.kept_books.specs.declared.shelves.KeepRefusal.TheVariants.{NoNumber, NoMemory}

-- the entries that a session has in a book
abbrev pub entries_at : List ℕ → Book → List Entry
entries_at name book = entries_of name (sessions book)

-- a session has equal entries in both books, in the same order
abbrev pub same_for : List ℕ → Book → Book → Bool
same_for name first second = pointwise equal_entry (entries_at name first) (entries_at name second)

-- what is kept of a session, and what is kept of the others
abbrev pub of_session : List ℕ → List Kept → List Kept
of_session name shelf = filter (λ kept. bytes_eq name kept.session) shelf

abbrev pub not_of : List ℕ → List Kept → List Kept
not_of name shelf = filter (λ kept. not (bytes_eq name kept.session)) shelf

-- it is kept of the session, and that has other entries in it than in the book
abbrev pub differs : List ℕ → Book → Kept → Bool
differs name book kept = bytes_eq name kept.session && not (same_for name kept.book book)

-- what stays of the session beside the book: the newest four with other entries
abbrev pub left_beside : List ℕ → Book → List Kept → List Kept
left_beside name book shelf = take 4 (filter (differs name book) shelf)

-- the greatest number on the shelf, and the greatest epoch, 0 where nothing is kept
abbrev pub top_number : List Kept → ℕ
top_number [] = 0
top_number (kept ∷ shelf) = max kept.number (top_number shelf)

abbrev pub top_epoch : List Kept → ℕ
top_epoch [] = 0
top_epoch (kept ∷ shelf) = max kept.book.epoch (top_epoch shelf)

-- the book with the next number
abbrev pub newly_kept : List ℕ → Book → List Kept → Kept
newly_kept name book shelf = record { number = top_number shelf + 1; session = name; book = book }

-- the shelf where a login to the session keeps the book
abbrev pub kept_again : List ℕ → Book → List Kept → List Kept
kept_again name book shelf = newly_kept name book shelf ∷ (left_beside name book shelf ++ not_of name shelf)

-- It is kept, where there is a number for it; want of memory has no cause on the shelf.
abbrev pub Keeps : List ℕ → Book → List Kept → Result (List Kept) KeepRefusal → Type 0
Keeps name book shelf (Ok next) = (top_number shelf + 1 < 2 ^ 64) × (next ≡ kept_again name book shelf)
Keeps name book shelf (Err NoNumber) = 2 ^ 64 ≤ top_number shelf + 1
Keeps name book shelf (Err NoMemory) = Unit {0}
