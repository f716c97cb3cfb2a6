-- Laws of the shelf, of all books.
use Rattle.std.specs.Prelude.{◌≡◌, ◌≢◌, ◌<◌, ◌≤◌, ℕ, List, ◌∷◌, ◌++◌, length, take, filter}
use Rattle.checkpoint_records.specs.declared.records.Book.{Book}
use Rattle.kept_books.specs.Shelves.{differs, kept_again, left_beside, newly_kept, not_of, of_session, top_epoch, top_number}
use Rattle.kept_books.specs.declared.shelves.Kept.{Kept}

-- Of the session the new one is first, and behind it are the newest four with other entries: so what goes has equal entries, or is the sixth.
abbrev pub WhatGoesWasEqualOrSixth : Type 0
WhatGoesWasEqualOrSixth =
    (name : List ℕ) (book : Book) (shelf : List Kept) → (of_session name (kept_again name book shelf) ≡ newly_kept name book shelf ∷ take 4 (filter (differs name book) shelf))
    × (length (of_session name (kept_again name book shelf)) ≤ 5)

-- what is kept of other sessions stays as it was, in its order
abbrev pub OtherSessionsAreKept : Type 0
OtherSessionsAreKept =
    (name : List ℕ) (book : Book) (shelf : List Kept) → (not_of name (kept_again name book shelf) ≡ not_of name shelf)
    × ((other : List ℕ) → other ≢ name → of_session other (kept_again name book shelf) ≡ of_session other shelf)

-- no other has the new one's number, or a greater one
abbrev pub TheNewestIsFirst : Type 0
TheNewestIsFirst = (name : List ℕ) (book : Book) (shelf : List Kept) → top_number (left_beside name book shelf ++ not_of name shelf) < (newly_kept name book shelf).number

-- Where no epoch on the shelf is above the book's, that is so afterwards.
abbrev pub EpochsAreKept : Type 0
EpochsAreKept = (name : List ℕ) (book : Book) (shelf : List Kept) → top_epoch shelf ≤ book.epoch → top_epoch (kept_again name book shelf) ≡ book.epoch

-- The same book once more changes nothing but its number.
abbrev pub AgainKeepsTheSame : Type 0
AgainKeepsTheSame =
    (name : List ℕ) (book : Book) (shelf : List Kept) → (left_beside name book (kept_again name book shelf) ≡ left_beside name book shelf)
    × (not_of name (kept_again name book shelf) ≡ not_of name shelf)
