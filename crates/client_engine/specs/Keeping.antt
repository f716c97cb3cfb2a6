-- What a client's keeper does about a piece, where it may fail.
use Rattle.std.specs.Prelude.{◌≡◌, ℕ, true, List, [], ◌++◌, Option, None, Some, Result, Ok, Err}
use Rattle.ice_framing.specs.Frames.{Standing}
use Rattle.client_engine.specs.Driving.{Run, Step, piece_taken}
use Rattle.client_engine.specs.Places.{is_listening}
use Rattle.client_engine.specs.declared.hearing.Heard.{Heard}
use Rattle.client_engine.specs.declared.place.Talk.{Talk}

-- why a call did nothing more
abbrev pub fault_in : {A F : Type 0} → Result A F → Option F
fault_in (Ok x) = None
fault_in (Err fault) = Some fault

-- The keeper stands where the run does, and as long as it takes parts it holds what the stream has left.
pub record IsRun {K : Type 0} (talk_of : K → Talk) (run : Run K) (at : K) (splitter : Standing) : Type 0 where
  pub keeper : at ≡ run.keeper
  pub feeds : is_listening (talk_of at).place ≡ true → splitter ≡ run.standing

-- What follows is said of what was done, from a desk to a desk, of a list of entries: all of them, or those before a fault.

-- What is done one after the other is done: everything up to a fault, and nothing behind it.
pub record Composes {E D F : Type 0} (carries : D → D → List E → Option F → Type 0) : Type 0 where
  pub none : (d : D) → carries d d [] None
  pub more : (a b c : D) (xs ys : List E) (fault : Option F) → carries a b xs None → carries b c ys fault → carries a c (xs ++ ys) fault
  pub cut : (a b : D) (xs ys : List E) (fault : F) → carries a b xs (Some fault) → carries a b (xs ++ ys) (Some fault)

-- For something that came from without the step was made, and so the keeper is then.
pub record Takes {K E D F A : Type 0} (carries : D → D → List E → Option F → Type 0) (old new : D) (step : A → Step K E) (after : K) (fault : Option F) : Type 0 where
  pub said : A
  pub does : carries old new (step said).line fault
  pub next : fault ≡ None → after ≡ (step said).next

-- The parts were taken that a piece completes.
pub record TakesPiece {K R E D F : Type 0} (carries : D → D → List E → Option F → Type 0) (unasked : R) (talk_of : K → Talk) (reacts : K → Heard → R → Step K E) (old new : D) (run : Run K) (bytes : List ℕ) (after : K) (splitter : Standing) (fault : Option F) : Type 0 where
  pub replies : List R
  pub does : carries old new (piece_taken unasked talk_of reacts run bytes replies).line fault
  pub next : fault ≡ None → IsRun talk_of (piece_taken unasked talk_of reacts run bytes replies).next after splitter
