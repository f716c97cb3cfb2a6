-- Neither the end of a save that failed, nor a close, says that a save succeeded.
use Rattle.std.proofs.Common.{◌≡◌, ◌≢◌, ℕ, Bool, true, false, List, [], slice_index, Option, None, Some, Ok, Err, refl, ap, arith}
use Rattle.std.specs.Prelude.{cond}
use Rattle.client_engine.specs.Answering.{answered_at, as_message, closes}
use Rattle.client_engine.specs.Driving.{Run}
use Rattle.client_engine.specs.Messages.{spelled}
use Rattle.client_engine.specs.Places.{id_at}
use Rattle.client_engine.specs.declared.place.Place.{Place}
use Rattle.client_engine.specs.declared.place.Place.TheVariants.{Opening, Speaking, Stopped}
use Rattle.client_machine.specs.Asking.{may_ask, requested}
use Rattle.client_machine.specs.declared.phase.ClientPhase.{ClientPhase}
use Rattle.client_machine.specs.declared.requests.AskRefusal.TheVariants.{WrongPhase}
use Rattle.client_machine.specs.declared.requests.Request.TheVariants.{Done}
use Rattle.outer_agent.specs.Script.{Keeper, bytes_asked, closing_with}
use Rattle.nested_session.specs.Nesting.{closed_for, ended_for}
use Rattle.nested_session.specs.Nests.{success}

-- the third byte says whether it succeeded, and the second which message it is
pub third_other : (bytes : List ℕ) → slice_index bytes 2 ≡ 0 → bytes ≢ success
third_other bytes is = λ same. absurd (differs (slice_index bytes 2) is (ap (λ (xs : List ℕ). slice_index xs 2) same))
  where
    differs : (x : ℕ) → x ≡ 0 → x ≡ 1 → ⊥
    differs x is same = omega (arith, is, same)

second_other : (bytes : List ℕ) (minor : ℕ) → slice_index bytes 1 ≡ minor → minor ≢ 8 → bytes ≢ success
second_other bytes minor is other = λ same. absurd (other (differs (slice_index bytes 1) is (ap (λ (xs : List ℕ). slice_index xs 1) same)))
  where
    differs : (x : ℕ) → x ≡ minor → x ≡ 8 → minor ≡ 8
    differs x is same = omega (arith, is, same)

none_other : [] ≢ success
none_other = third_other [] refl

failed_by : (b : Bool) (phase : ClientPhase) → slice_index (bytes_asked (as_message (cond b (Ok (requested (Done false))) (Err (WrongPhase phase))))) 2 ≡ 0
failed_by true phase = refl
failed_by false phase = refl

failed_at : (place : Place) → slice_index (bytes_asked (answered_at (Done false) place)) 2 ≡ 0
failed_at (Opening opener previous) = refl
failed_at (Speaking joined c) = failed_by (may_ask (Done false) c) c.phase
failed_at Stopped = refl

pub failure_other : (run : Option (Run Keeper)) → (ended_for false run).line ≢ success
failure_other None = none_other
failure_other (Some run) = third_other (bytes_asked (answered_at (Done false) run.keeper.talk.place)) (failed_at run.keeper.talk.place)

close_with_other : (keeper : Keeper) (id : Option (List ℕ)) → (closing_with keeper id).line ≢ success
close_with_other keeper None = none_other
close_with_other keeper (Some id) = second_other (spelled (closes [])) 11 refl (λ same. omega (arith, same))

pub close_other : (run : Option (Run Keeper)) → (closed_for run).line ≢ success
close_other None = none_other
close_other (Some run) = close_with_other run.keeper (id_at run.keeper.talk.place)
