-- A client that has stopped stays so, and what its calls do one after another.
use Rattle.std.proofs.Common.{◌≡◌, ℕ, false, List, ◌++◌, Option, None, Some, Result, Ok, Err, refl}
use Rattle.owned_lists.specs.declared.failures.NoMemory.{NoMemory}
use Rattle.client_machine.specs.Phases.{is_owing}
use Rattle.client_machine.specs.declared.saves.SaveAnswer.{SaveAnswer}
use Rattle.client_machine.specs.declared.saves.SaveAsk.{SaveAsk}
use Rattle.client_machine.specs.declared.saves.Stage.{Stage}
use Rattle.client_engine.specs.Answering.{after_answer, after_owed}
use Rattle.client_engine.specs.Driving.{Run, StaysStopped, Step}
use Rattle.client_engine.specs.Keeping.{Composes, Takes as TakesStep, TakesPiece as TakesPieceOf, fault_in}
use Rattle.client_engine.specs.Places.{is_listening, phase_at}
use Rattle.client_engine.specs.declared.hearing.Cue.{Cue}
use Rattle.client_engine.specs.declared.hearing.Cue.TheVariants.{Nothing, Registered, Save, Cancelled, Complete, Die, Properties, Refused, Malformed}
use Rattle.client_engine.proofs.Driven.{in_parts, still_at}
use Rattle.named_joiner.specs.Doing.{Carries, Desk, Tries, TriesPiece, keeper_of}
use Rattle.named_joiner.specs.Laws.{PiecesMakeNoDifference}
use Rattle.named_joiner.specs.Script.{Entry, Keeper, Replies, answered, answered_again, cued, died, next_stage, reacts, talk_of, unasked}
use Rattle.named_joiner.specs.declared.callbacks.NamedAsk.{NamedAsk}
use Rattle.named_joiner.specs.declared.progress.Progress.{Progress}
use Rattle.named_joiner.proofs.DoingLaws.{begins_cut, begins_more, does_more, does_none}

abbrev IsStopped : Keeper → Type 0
IsStopped keeper = is_listening keeper.talk.place ≡ false

stopped_answered : (keeper : Keeper) (ask : SaveAsk) (answer : Option SaveAnswer) → IsStopped keeper → IsStopped (answered keeper ask answer).next
stopped_answered keeper ask None deaf = refl
stopped_answered keeper ask (Some answer) deaf = still_at (after_answer answer) keeper.talk.place deaf

stopped_again : (keeper : Keeper) (ask : SaveAsk) (answer : Option SaveAnswer) (stage : Option Stage) → IsStopped keeper → IsStopped (answered_again keeper ask answer stage).next
stopped_again keeper ask answer None deaf = deaf
stopped_again keeper ask answer (Some stage) deaf = stopped_answered keeper (record ask { stage = stage }) answer deaf

stopped_died : (keeper : Keeper) (reasons : Option (List (List ℕ))) → IsStopped (died keeper reasons).next
stopped_died keeper None = refl
stopped_died keeper (Some reasons) = refl

stopped_cued : (keeper : Keeper) (r : Replies) (cue : Cue) → IsStopped keeper → IsStopped (cued keeper r cue).next
stopped_cued keeper r Nothing deaf = deaf
stopped_cued keeper r (Registered id) deaf = deaf
stopped_cued keeper r (Save ask) deaf = stopped_again (answered keeper ask r.first).next ask r.again (next_stage r.first ask.stage) (stopped_answered keeper ask r.first deaf)
stopped_cued keeper r Cancelled deaf = still_at (after_owed (is_owing (phase_at keeper.talk.place))) keeper.talk.place deaf
stopped_cued keeper r Complete deaf = deaf
stopped_cued keeper r Die deaf = stopped_died keeper r.reasons
stopped_cued keeper r (Properties list) deaf = deaf
stopped_cued keeper r (Refused class) deaf = deaf
stopped_cued keeper r (Malformed at) deaf = deaf

pub stays_stopped : StaysStopped unasked talk_of reacts
stays_stopped = record {
  still = λ keeper r deaf. refl;
  stops = λ keeper heard r deaf. stopped_cued (record keeper { talk = heard.next }) r heard.cue deaf;
}

pub no_difference : PiecesMakeNoDifference
no_difference run xs ys rs qs same = in_parts unasked talk_of reacts stays_stopped run xs ys rs qs same

module _ {S D : Type 0} (answers : S → NamedAsk → Option SaveAnswer → S → Type 0) (gives : D → Option (List (List ℕ)) → D → Type 0) where
  abbrev CarriesIn : Desk S D → Desk S D → List Entry → Option NoMemory → Type 0
  CarriesIn old new line fault = Carries answers gives old new line fault

  carries_more : (a b c : Desk S D) (xs ys : List Entry) (fault : Option NoMemory) → CarriesIn a b xs None → CarriesIn b c ys fault → CarriesIn a c (xs ++ ys) fault
  carries_more a b c xs ys None one two = does_more answers gives a b c xs ys one two
  carries_more a b c xs ys (Some e) one two = begins_more answers gives a.callbacks b.callbacks c.callbacks xs ys one.follows two

  pub composes : Composes (Carries answers gives)
  composes = record { none = does_none answers gives; more = carries_more; cut = λ a b xs ys e one. begins_cut answers gives a.callbacks b.callbacks xs ys one }

  -- a step, as any keeper's is told
  pub step_told : (result : Result (Unit {0}) NoMemory) (old new : Desk S D) (step : Replies → Step Keeper Entry) (after : Keeper) → Tries answers gives result old new step after → TakesStep (Carries answers gives) old new step after (fault_in result)
  step_told (Ok x) old new step after takes = record { said = takes.said; does = takes.does; next = λ e. takes.next }
  step_told (Err e) old new step after breaks = record { said = breaks.said; does = breaks.begins; next = λ e. absurd cc }

  -- and a piece
  pub piece_told : (result : Result (Unit {0}) NoMemory) (old new : Desk S D) (run : Run Keeper) (piece : List ℕ) (after : Progress) → TakesPieceOf (Carries answers gives) unasked talk_of reacts old new run piece (keeper_of after) after.core.splitter (fault_in result) → TriesPiece answers gives result old new run piece after
  piece_told (Ok x) old new run piece after takes = record { replies = takes.replies; does = takes.does; next = takes.next refl }
  piece_told (Err e) old new run piece after takes = record { replies = takes.replies; begins = takes.does }
