-- The books that a session writes, each against the one before it.
use Rattle.std.specs.Prelude.{◌≡◌, List, [], ◌∷◌, ◌++◌}
use Rattle.std.specs.List.{flat_map}
use Rattle.checkpoint_changes.specs.Plain.{KeepOrder}
use Rattle.checkpoint_records.specs.Rules.{KeepsRules}
use Rattle.checkpoint_records.specs.declared.records.Book.{Book}
use Rattle.session_model.specs.declared.events.Act.{Act}
use Rattle.session_model.specs.declared.events.Act.TheVariants.{Blame, Commit, Finish, Print, Say, Shut, Start, Unset}
use Rattle.session_model.specs.declared.events.SessionEvent.{SessionEvent}
use Rattle.session_model.specs.Moves.{History, Opened, Opening, all_acts}
use Rattle.session_model.specs.Readings as of
use Rattle.session_model.specs.Rules.{opened, taken}

-- what an act writes
abbrev pub book_of : Act → List Book
book_of (Commit book) = book ∷ []
book_of (Say conn message) = []
book_of (Blame conn error) = []
book_of (Unset conn) = []
book_of (Shut conn) = []
book_of (Start reason command) = []
book_of (Print text) = []
book_of Finish = []

-- the books that are written, in their order
abbrev pub books_of : List Act → List Book
books_of acts = flat_map book_of acts

-- A book is of the same session as the one before it, has the other sessions as they were, and keeps the order of that one where both keep
-- the rules.
pub record Follows (before book : Book) : Type 0 where
  pub name : book.name ≡ before.name
  pub others : book.others ≡ before.others
  pub order : KeepsRules before → KeepsRules book → KeepOrder before book

-- each of these books does
abbrev pub InOrder : Book → List Book → Type 0
InOrder before [] = Unit {0}
InOrder before (book ∷ books) = Follows before book × InOrder book books

-- the book that stands once these are written
abbrev pub last_of : Book → List Book → Book
last_of before [] = before
last_of before (book ∷ books) = last_of book books

-- A later history of the session has these acts more, whose books are in order, from its book to that of the later one.
pub record GoesOn (h later : History) : Type 0 where
  pub acts : List Act
  pub are : all_acts later ≡ all_acts h ++ acts
  pub in_order : InOrder (of.book h) (books_of acts)
  pub last : last_of (of.book h) (books_of acts) ≡ of.book later

abbrev pub BooksKeepOrder : Type 0
BooksKeepOrder = (event : SessionEvent) (h : History) → GoesOn h (taken event h)

abbrev pub OpeningsKeepOrder : Type 0
OpeningsKeepOrder = (opening : Opening) → GoesOn (Opened opening) (opened opening)
