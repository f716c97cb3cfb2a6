-- Rounds that were agreed, told by the marks of a session, and the books that were written for them.
use Rattle.std.specs.Prelude.{◌≡◌, ◌<◌, ℕ, Bool, true, false, List, ◌∷◌, ◌++◌}
use Rattle.std.specs.List.{AllByRecursion}
use Rattle.checkpoint_records.specs.declared.records.Book.{Book}
use Rattle.round_agreement.specs.declared.wanted.Wanted.{Wanted}
use Rattle.session_model.specs.declared.events.SessionEvent.{SessionEvent}
use Rattle.session_model.specs.Laws.{Always}
use Rattle.session_model.specs.Moves.{Agreed, Began, Cancelled, Committed, History, Move, Opened, Opening, Over, onto, ◌▷◌}
use Rattle.session_model.specs.Readings as of
use Rattle.session_model.specs.Rules.{opened, run}
use Rattle.session_model.specs.Waits.{is_global}

-- a round begins or ends with this move
abbrev pub is_turn : Move → Bool
is_turn (Began conns wanted) = true
is_turn Over = true
is_turn Cancelled = true
is_turn Agreed = true
is_turn m = false

-- no round begins or ends with these moves
abbrev pub TurnNone : List Move → Type 0
TurnNone moves = AllByRecursion (λ m. is_turn m ≡ false) moves

-- Among these moves a round of all clients began, and the next turn of a round was that it was agreed.
pub record HasAgreed (moves : List Move) : Type 0 where
  pub front : List Move
  pub conns : List ℕ
  pub wanted : Wanted
  pub between : List Move
  pub rest : List Move
  pub parts : front ++ Began conns wanted ∷ between ++ Agreed ∷ rest ≡ moves
  pub global : is_global wanted ≡ true
  pub one_round : TurnNone between

-- Where the mark of the agreed rounds stands above that of the rounds that had begun before these moves, a round of all clients began
-- among them and was agreed. This holds of each history.
abbrev pub AgreedRoundsBeganSince : Type 0
AgreedRoundsBeganSince = (h : History) (moves : List Move) → (of.marks h).begun < (of.marks (onto h moves)).agreed → HasAgreed moves

-- the last move wrote a book
abbrev pub has_just_written : History → Bool
has_just_written (Committed book ▷ h) = true
has_just_written h = false

-- directly before each agreement a book was written
abbrev pub WritesBooks : History → Type 0
WritesBooks (Opened opening) = Unit {0}
WritesBooks (Agreed ▷ h) = (has_just_written h ≡ true) × WritesBooks h
WritesBooks (m ▷ h) = WritesBooks h

abbrev pub AgreementsAreWritten : Type 0
AgreementsAreWritten = Always WritesBooks

-- Among these moves a round of all clients began, and the next turn of a round was that its book was written and it was agreed.
pub record HasSaved (moves : List Move) : Type 0 where
  pub front : List Move
  pub conns : List ℕ
  pub wanted : Wanted
  pub between : List Move
  pub book : Book
  pub rest : List Move
  pub parts : front ++ Began conns wanted ∷ between ++ Committed book ∷ Agreed ∷ rest ≡ moves
  pub global : is_global wanted ≡ true
  pub one_round : TurnNone between

-- Where the mark of the agreed rounds stands above that of the rounds that had begun before these moves of a run, a round of all clients
-- began among them, its book was written, and it was agreed.
abbrev pub MarkedSavesAreWritten : Type 0
MarkedSavesAreWritten =
    (opening : Opening) (events : List SessionEvent) (h : History) (moves : List Move) → onto h moves ≡ run (opened opening) events → (of.marks h).begun < (of.marks (onto h moves)).agreed → HasSaved moves
