-- What a crash leaves, counted: the checkpoints of a script in their order, and which of them may stand once so many deeds are done.
use Rattle.std.specs.Prelude.{ℕ, zero, suc, ◌+◌, ◌≤◌, List, [], ◌∷◌, length, Ok}
use Rattle.sm_world.specs.Effects.{Deed}
use Rattle.checkpoint_records.specs.declared.records.Book.{Book}
use Rattle.checkpoint_slots.specs.Recovery.{Recovers}
use Rattle.session_engine.specs.Acts.{Kind, Shown, Saved, Hidden, books_in, kind_of}
use Rattle.session_engine.specs.Saved.{IsSaved}
use Rattle.session_engine.specs.Standing.{as_stored}
use Rattle.session_engine.specs.declared.acts.Act.{Act}

-- the checkpoint at a place, where the opened book stands at 0 and the committed ones behind it; past the end the last one
abbrev pub book_at : Book → List Book → ℕ → Book
book_at opening books zero = opening
book_at opening [] (suc n) = opening
book_at opening (book ∷ books) (suc n) = book_at book books n

abbrev pub until_by : Kind → (ℕ → ℕ) → ℕ → ℕ
until_by (Shown deed) rest zero = 0
until_by (Shown deed) rest (suc n) = rest n
until_by (Saved book) rest n = 1 + rest n
until_by Hidden rest n = rest n

-- how many commits stand before the deed with this number, where deeds count from 0; all of them where there are no more deeds
abbrev pub until : List Act → ℕ → ℕ
until [] n = 0
until (act ∷ acts) n = until_by (kind_of act) (λ k. until acts k) n

-- how many commits stand before the last of so many deeds; 0 where there is none
abbrev pub before_last : List Act → ℕ → ℕ
before_last acts zero = 0
before_last acts (suc n) = until acts n

-- The file recovers to one of the checkpoints: at least as new as the last one decided before the last of so many deeds done, and no newer
-- than the last one decided before the first deed that is missing.
pub record IsPlaced (opening : Book) (acts : List Act) (done : ℕ) (file : List ℕ) : Type 0 where
  pub place : ℕ
  pub at_least : before_last acts done ≤ place
  pub at_most : place ≤ until acts done
  pub recovers : Recovers file (Ok (as_stored (book_at opening (books_in acts) place)))

-- what was said without counting, counted
abbrev pub SavedIsPlaced : Type 0
SavedIsPlaced = (opening : Book) (acts : List Act) (done : List Deed) (file : List ℕ) → IsSaved opening acts done file → IsPlaced opening acts (length done) file
