-- A client that has stopped stays so, and what its calls do one after another.
use Rattle.std.proofs.Common.{◌≡◌, ℕ, Bool, true, false, List, Option, None, Some, refl}
use Rattle.client_machine.specs.declared.saves.SaveAnswer.{SaveAnswer}
use Rattle.client_machine.specs.declared.saves.SaveAsk.{SaveAsk}
use Rattle.client_machine.specs.declared.saves.Stage.{Stage}
use Rattle.client_engine.specs.Answering.{after_answer, after_owed, stage_again}
use Rattle.client_engine.specs.Driving.{StaysStopped}
use Rattle.client_engine.specs.Keeping.{Composes}
use Rattle.client_engine.specs.Places.{is_listening}
use Rattle.client_engine.specs.declared.hearing.Cue.{Cue}
use Rattle.client_engine.specs.declared.hearing.Cue.TheVariants.{Nothing, Registered, Save, Cancelled, Complete, Die, Properties, Refused, Malformed}
use Rattle.client_engine.proofs.Driven.{in_parts, still_at}
use Rattle.client_callbacks.specs.Answers.{Replies, unasked}
use Rattle.client_callbacks.specs.Doing.{CarriesOut}
use Rattle.client_callbacks.specs.Laws.{PiecesMakeNoDifference}
use Rattle.client_callbacks.specs.Script.{Keeper, answered_again, completed, cued, on_client, owes, reacts, talk_of}
use Rattle.client_callbacks.proofs.DoingLaws.{carries_cut, carries_more, carries_none}

abbrev IsStopped : Keeper → Type 0
IsStopped keeper = is_listening keeper.talk.place ≡ false

stopped_again : (keeper : Keeper) (ask : SaveAsk) (answer : SaveAnswer) (stage : Option Stage) → IsStopped keeper → IsStopped (answered_again keeper ask answer stage).next
stopped_again keeper ask answer None deaf = deaf
stopped_again keeper ask answer (Some stage) deaf = still_at (after_answer answer) keeper.talk.place deaf

stopped_completed : (keeper : Keeper) (test : Bool) → IsStopped keeper → IsStopped (completed keeper test).next
stopped_completed keeper true deaf = refl
stopped_completed keeper false deaf = deaf

stopped_cued : (keeper : Keeper) (r : Replies) (cue : Cue) → IsStopped keeper → IsStopped (cued keeper r cue).next
stopped_cued keeper r Nothing deaf = deaf
stopped_cued keeper r (Registered id) deaf = deaf
stopped_cued keeper r (Save ask) deaf = stopped_again (on_client (after_answer r.first) keeper) ask r.again (stage_again ask.stage) (still_at (after_answer r.first) keeper.talk.place deaf)
stopped_cued keeper r Cancelled deaf = still_at (after_owed (owes keeper)) keeper.talk.place deaf
stopped_cued keeper r Complete deaf = stopped_completed keeper _ deaf
stopped_cued keeper r Die deaf = refl
stopped_cued keeper r (Properties list) deaf = deaf
stopped_cued keeper r (Refused class) deaf = deaf
stopped_cued keeper r (Malformed at) deaf = deaf

abbrev StaysIn : Type 0
StaysIn = StaysStopped unasked talk_of reacts

pub stays_stopped : StaysIn
stays_stopped = record {
  still = λ keeper r deaf. refl;
  stops = λ keeper heard r deaf. stopped_cued (record keeper { talk = heard.next }) r heard.cue deaf;
}

pub no_difference : PiecesMakeNoDifference
no_difference run xs ys rs qs same = in_parts unasked talk_of reacts stays_stopped run xs ys rs qs same

module _ {S D C : Type 0} (answers : S → SaveAsk → SaveAnswer → S → Type 0) (gives : D → List (List ℕ) → D → Type 0) (hears : C → C → Type 0) where
  pub composes : Composes (CarriesOut answers gives hears)
  composes = record { none = carries_none answers gives hears; more = carries_more answers gives hears; cut = carries_cut answers gives hears }
