-- Laws of the script: it doesn't depend on how a stream comes in pieces, and a run has one end at most.
use Rattle.std.specs.Prelude.{◌≡◌, ◌≢◌, ℕ, List, ◌++◌, length, Some, Result, Err}
use Rattle.sm_world.specs.declared.effects.Effect.{Effect}
use Rattle.ice_cookie.specs.declared.cookies.Cookie.{Cookie}
use Rattle.ice_framing.specs.Frames.{fed}
use Rattle.ice_framing.specs.Parts.{parts_at}
use Rattle.client_machine.specs.declared.saves.SaveAnswer.{SaveAnswer}
use Rattle.client_machine.specs.declared.saves.SaveAsk.{SaveAsk}
use Rattle.client_engine.specs.Driving.{Run, both, piece_taken}
use Rattle.client_callbacks.specs.Answers.{Replies, unasked}
use Rattle.client_callbacks.specs.Doing.{Desk}
use Rattle.client_callbacks.specs.Running.{Joins}
use Rattle.client_callbacks.specs.Script.{Keeper, reacts, talk_of}
use Rattle.client_callbacks.specs.declared.ends.ClientEnd.{ClientEnd}
use Rattle.client_callbacks.specs.declared.ends.JoinFault.{JoinFault}
use Rattle.client_callbacks.specs.declared.ends.JoinFault.TheVariants.{NoMemory}

-- A piece brings what its two parts bring, one after the other, where the callbacks say the same at each part of the stream.
abbrev pub PiecesMakeNoDifference : Type 0
PiecesMakeNoDifference = (run : Run Keeper) (xs ys : List ℕ) (rs qs : List Replies) → length rs ≡ length (parts_at (fed run.standing xs)) → piece_taken unasked talk_of reacts run (xs ++ ys) (rs ++ qs) ≡ both (piece_taken unasked talk_of reacts run xs rs) (piece_taken unasked talk_of reacts (piece_taken unasked talk_of reacts run xs rs).next ys qs)

module _ {S D C : Type 0} (answers : S → SaveAsk → SaveAnswer → S → Type 0) (gives : D → List (List ℕ) → D → Type 0) (hears : C → C → Type 0) where
  -- Each callback says one thing in each state, and is left in one.
  pub record SayOne : Type 0 where
    pub answer : (save : S) (ask : SaveAsk) (a b : SaveAnswer) (f g : S) → answers save ask a f → answers save ask b g → (a ≡ b) × (f ≡ g)
    pub reasons : (die : D) (a b : List (List ℕ)) (f g : D) → gives die a f → gives die b g → (a ≡ b) × (f ≡ g)
    pub told : (cancelled f g : C) → hears cancelled f → hears cancelled g → f ≡ g

  -- One run, of a peer that tells its effects, has one end at most, unless memory was wanting.
  abbrev pub HasOneEnd : Type 0
  HasOneEnd = SayOne → (cookie : Cookie) (previous : List ℕ) (saves turns : ℕ) (old new : Desk S D C) (before : List Effect) (one other : Result ClientEnd JoinFault) → old.told ≡ Some before → Joins answers gives hears cookie previous saves turns old new one → Joins answers gives hears cookie previous saves turns old new other → one ≢ Err NoMemory → other ≢ Err NoMemory → one ≡ other
