-- What a keeper does about a part of its manager's stream, and that one who takes nothing more stays so.
use Rattle.std.proofs.Common.{◌≡◌, ℕ, Bool, true, false, ◌&&◌, cond, List, [], ◌++◌, Option, None, Some, refl, sym, ◌∙◌, ap, append_assoc, append-nil}
use Rattle.owned_lists.specs.declared.failures.NoMemory.{NoMemory}
use Rattle.client_machine.specs.Asking.{after_asked}
use Rattle.client_machine.specs.Phases.{ClientState, is_owing}
use Rattle.client_machine.specs.Saves.{step_request}
use Rattle.client_machine.specs.declared.requests.Request.{Request}
use Rattle.client_machine.specs.declared.requests.Request.TheVariants.{Close as AskClose}
use Rattle.client_machine.specs.declared.saves.SaveAsk.{SaveAsk}
use Rattle.client_machine.specs.declared.saves.Stage.{Stage}
use Rattle.client_machine.specs.declared.saves.Stage.TheVariants.{First, Second, Talking, TalkingTwo}
use Rattle.client_machine.specs.declared.saves.Step.TheVariants.{Done, Talked}
use Rattle.client_engine.specs.Answering.{after_answer, after_owed, changed, is_closing, may_ask_at, stopped}
use Rattle.client_engine.specs.Driving.{StaysStopped}
use Rattle.client_engine.specs.Keeping.{Composes}
use Rattle.client_engine.specs.Places.{is_listening}
use Rattle.client_engine.specs.declared.hearing.Cue.{Cue}
use Rattle.client_engine.specs.declared.hearing.Cue.TheVariants.{Nothing, Registered, Save, Cancelled, Complete, Die, Properties, Refused, Malformed}
use Rattle.client_engine.specs.declared.place.Talk.{Talk}
use Rattle.client_engine.proofs.Driven.{still_at}
use Rattle.program_keeper.specs.Doing.{Carries}
use Rattle.program_keeper.specs.Programs.{agreed, begun, is_joined, is_leaving, opened, talked}
use Rattle.program_keeper.specs.Script.{Keeper, cancelled, closing, ending, finishing, first_step, heeded, is_idle, is_talking, knows, leaving, moving, owing, passing, phase_of, pinging, reacts, requests, restarting, saved, says_step, settled, talk_of, talking, ticked}
use Rattle.program_keeper.specs.Talking.{turn_taken}
use Rattle.program_keeper.specs.declared.acts.KeeperAct.{KeeperAct}
use Rattle.program_keeper.specs.declared.program.Life.{Life}
use Rattle.program_keeper.specs.declared.program.Life.TheVariants.{Here, Starting, Gone}
use Rattle.program_keeper.specs.declared.talk.Move.{Move}
use Rattle.program_keeper.specs.declared.talk.Move.TheVariants.{Agree, Refuse, Close, Show, Wait}

-- ---- acts one after another

carries_more : (a b c xs ys : List KeeperAct) (fault : Option NoMemory) → Carries a b xs None → Carries b c ys fault → Carries a c (xs ++ ys) fault
carries_more a b c xs ys None one two = two ∙ (ap (λ (acts : List KeeperAct). acts ++ ys) one ∙ append_assoc a xs ys)
carries_more a b c xs ys (Some e) one two = tt

pub composes : Composes Carries
composes = record { none = λ acts. sym (append-nil acts); more = carries_more; cut = λ a b xs ys e one. tt }

-- ---- one that has stopped stays so

abbrev pub IsStopped : Keeper → Type 0
IsStopped keeper = is_listening keeper.talk.place ≡ false

still_request : (closes : Bool) (change : ClientState → ClientState) (talk : Talk) → is_listening talk.place ≡ false → is_listening (cond closes (stopped talk) (changed change talk)).place ≡ false
still_request true change talk deaf = refl
still_request false change talk deaf = still_at change talk.place deaf

stopped_requests : (request : Request) (keeper : Keeper) → IsStopped keeper → IsStopped (requests request keeper).next
stopped_requests request keeper deaf = still_request (is_closing request && may_ask_at request keeper.talk.place) (after_asked request) keeper.talk deaf

stopped_finishing : (cancel : Bool) (keeper : Keeper) → IsStopped keeper → IsStopped (finishing cancel keeper).next
stopped_finishing cancel keeper deaf = stopped_requests (step_request (Done true)) (says_step (Talked cancel) keeper).next (stopped_requests (step_request (Talked cancel)) keeper deaf)

stopped_closing : (joined : Bool) (keeper : Keeper) → is_joined keeper.program.stay ≡ joined → IsStopped keeper → IsStopped (closing keeper).next
stopped_closing true keeper is deaf = rw is (stopped_requests (AskClose []) keeper deaf)
stopped_closing false keeper is deaf = rw is deaf

stopped_leaving : (keeper : Keeper) → IsStopped keeper → IsStopped (leaving keeper).next
stopped_leaving keeper deaf = stopped_closing (is_joined keeper.program.stay) keeper refl deaf

stopped_moving : (move : Move) (keeper : Keeper) → IsStopped keeper → IsStopped (moving move keeper).next
stopped_moving Agree keeper deaf = stopped_finishing false (knows (agreed keeper.program) keeper) deaf
stopped_moving Refuse keeper deaf = stopped_finishing true keeper deaf
stopped_moving (Close number) keeper deaf = deaf
stopped_moving (Show number) keeper deaf = deaf
stopped_moving Wait keeper deaf = deaf

stopped_talking : (life : Life) (keeper : Keeper) → IsStopped keeper → IsStopped (talking life keeper).next
stopped_talking Here keeper deaf = stopped_moving (turn_taken keeper.program.windows keeper.program.talk).move (knows (talked keeper.program) keeper) deaf
stopped_talking Starting keeper deaf = deaf
stopped_talking Gone keeper deaf = stopped_moving Agree keeper deaf

settled_by : (talks leaves : Bool) (keeper : Keeper) → is_talking keeper ≡ talks → is_leaving keeper.program (is_idle keeper) ≡ leaves → IsStopped keeper → IsStopped (settled keeper).next
settled_by true leaves keeper talks_so leaves_so deaf = rw talks_so (stopped_talking keeper.program.life keeper deaf)
settled_by false true keeper talks_so leaves_so deaf = rw (talks_so, leaves_so) (stopped_leaving keeper deaf)
settled_by false false keeper talks_so leaves_so deaf = rw (talks_so, leaves_so) deaf

pub stopped_settled : (keeper : Keeper) → IsStopped keeper → IsStopped (settled keeper).next
stopped_settled keeper deaf = settled_by (is_talking keeper) (is_leaving keeper.program (is_idle keeper)) keeper refl refl deaf

stopped_saved : (ask : SaveAsk) (stage : Stage) (keeper : Keeper) → IsStopped keeper → IsStopped (saved ask stage keeper).next
stopped_saved ask First keeper deaf = still_at (after_answer (record { set = keeper.set; step = first_step ask })) keeper.talk.place deaf
stopped_saved ask Second keeper deaf = still_at (after_answer (record { set = keeper.set; step = Done true })) keeper.talk.place deaf
stopped_saved ask Talking keeper deaf = stopped_settled (knows (begun keeper.program) keeper) deaf
stopped_saved ask TalkingTwo keeper deaf = stopped_settled (knows (begun keeper.program) keeper) deaf

stopped_cancelled : (keeper : Keeper) → IsStopped keeper → IsStopped (cancelled keeper).next
stopped_cancelled keeper deaf = stopped_settled (restarting (owing keeper).next).next (still_at (after_owed (is_owing (phase_of keeper))) keeper.talk.place deaf)

stopped_heeded : (keeper : Keeper) (cue : Cue) → IsStopped keeper → IsStopped (heeded keeper cue).next
stopped_heeded keeper Nothing deaf = deaf
stopped_heeded keeper (Registered id) deaf = stopped_settled keeper deaf
stopped_heeded keeper (Save ask) deaf = stopped_saved ask ask.stage keeper deaf
stopped_heeded keeper Cancelled deaf = stopped_cancelled keeper deaf
stopped_heeded keeper Complete deaf = stopped_settled (knows (opened keeper.program) keeper) deaf
stopped_heeded keeper Die deaf = stopped_settled (ending keeper).next deaf
stopped_heeded keeper (Properties list) deaf = deaf
stopped_heeded keeper (Refused class) deaf = deaf
stopped_heeded keeper (Malformed at) deaf = deaf

pub stays_stopped : StaysStopped tt talk_of reacts
stays_stopped = record {
  still = λ keeper r deaf. refl;
  stops = λ keeper heard r deaf. stopped_heeded (record keeper { talk = heard.next }) heard.cue deaf;
}

pub stopped_ticked : (elapsed : ℕ) (answered : Bool) (keeper : Keeper) → IsStopped keeper → IsStopped (ticked elapsed answered keeper).next
stopped_ticked elapsed answered keeper deaf = stopped_settled (passing elapsed answered (pinging elapsed keeper).next).next deaf
