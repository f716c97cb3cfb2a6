-- Behind all that is done about what came, no SaveYourself waits for the keeper.
use Rattle.std.proofs.Common.{◌≡◌, ℕ, Bool, true, false, ◌&&◌, ◌||◌, cond, List, [], refl, ◌∙◌, ap}
use Rattle.std.proofs.lemmas.Bool.{and_parts, false≢true}
use Rattle.ice_values.specs.declared.saves.Dialog.TheVariants.{Normal}
use Rattle.ice_values.specs.declared.saves.SaveKind.{SaveKind}
use Rattle.ice_values.specs.declared.saves.SaveStyle.{SaveStyle}
use Rattle.ice_values.specs.declared.saves.SaveStyle.TheVariants.{Any}
use Rattle.ice_setup.specs.declared.opener.Joined.{Joined as HasJoined}
use Rattle.client_machine.specs.Asking.{after_asked, may_ask}
use Rattle.client_machine.specs.Laws.{stage_phase}
use Rattle.client_machine.specs.Phases.{ClientState, is_interacting, is_owing}
use Rattle.client_machine.specs.Saves.{allows, may_cancel}
use Rattle.client_machine.specs.declared.phase.ClientPhase.{ClientPhase}
use Rattle.client_machine.specs.declared.phase.ClientPhase.TheVariants.{Interacting, InteractingTwo, Owing, Saving, SavingTwo, WantsTwo}
use Rattle.client_machine.specs.declared.requests.Request.TheVariants.{Close as AskClose, Done as AskDone, InteractDone as AskTalked}
use Rattle.client_machine.specs.declared.saves.SaveAsk.{SaveAsk}
use Rattle.client_machine.specs.declared.saves.Stage.{Stage}
use Rattle.client_machine.specs.declared.saves.Stage.TheVariants.{First, Second, Talking, TalkingTwo}
use Rattle.client_machine.specs.declared.saves.Step.TheVariants.{Done, Interact}
use Rattle.client_engine.specs.Answering.{after_answer, after_owed}
use Rattle.client_engine.specs.Places.{on_client, phase_at}
use Rattle.client_engine.specs.Speaking.{MayAnswer}
use Rattle.client_engine.specs.declared.hearing.Cue.TheVariants.{Nothing, Registered, Save, Cancelled, Complete, Die, Properties, Refused, Malformed}
use Rattle.client_engine.specs.declared.place.Place.{Place}
use Rattle.client_engine.specs.declared.place.Place.TheVariants.{Opening, Speaking, Stopped}
use Rattle.program_keeper.specs.Due.{SavesAreAnswered, happened, is_answered, noted}
use Rattle.program_keeper.specs.Due.Came.{Cued, Shown, HasEnded, HasFailed, Passed}
use Rattle.program_keeper.specs.Programs.{begun, is_joined, is_leaving, talked}
use Rattle.program_keeper.specs.Script.{Keeper, closing, first_step, is_any, is_idle, is_talking, knows, moving, phase_of, requests, settled, talking}
use Rattle.program_keeper.specs.Talking.{turn_taken}
use Rattle.program_keeper.specs.declared.program.Life.{Life}
use Rattle.program_keeper.specs.declared.program.Life.TheVariants.{Here, Starting, Gone}
use Rattle.program_keeper.specs.declared.talk.Move.{Move}
use Rattle.program_keeper.specs.declared.talk.Move.TheVariants.{Agree, Refuse, Close, Show, Wait}

abbrev IsAnswered : Keeper → Type 0
IsAnswered keeper = is_answered (phase_of keeper) ≡ true

-- ---- the end of a talk

finished_phase : (phase : ClientPhase) (id : List ℕ) (asked : SaveAsk) (cancel may : Bool) → may_cancel asked.shutdown cancel ≡ may → is_interacting phase ≡ true → is_answered (after_asked (AskDone true) (after_asked (AskTalked cancel) (record { phase = phase; id = id; asked = asked }))).phase ≡ true
finished_phase Interacting id asked cancel true may token = rw may refl
finished_phase Interacting id asked cancel false may token = rw may refl
finished_phase InteractingTwo id asked cancel true may token = rw may refl
finished_phase InteractingTwo id asked cancel false may token = rw may refl
finished_phase phase id asked cancel b may token = absurd (false≢true token)

finished_place : (place : Place) (cancel : Bool) → is_interacting (phase_at place) ≡ true → is_answered (phase_at (on_client (after_asked (AskDone true)) (on_client (after_asked (AskTalked cancel)) place))) ≡ true
finished_place (Opening opener previous) cancel token = refl
finished_place (Speaking joined client) cancel token = finished_phase client.phase client.id client.asked cancel (may_cancel client.asked.shutdown cancel) refl token
finished_place Stopped cancel token = refl

answered_moving : (move : Move) (keeper : Keeper) → is_talking keeper ≡ true → IsAnswered keeper → IsAnswered (moving move keeper).next
answered_moving Agree keeper token before = finished_place keeper.talk.place false token
answered_moving Refuse keeper token before = finished_place keeper.talk.place true token
answered_moving (Close number) keeper token before = before
answered_moving (Show number) keeper token before = before
answered_moving Wait keeper token before = before

answered_talking : (life : Life) (keeper : Keeper) → is_talking keeper ≡ true → IsAnswered keeper → IsAnswered (talking life keeper).next
answered_talking Here keeper token before = answered_moving (turn_taken keeper.program.windows keeper.program.talk).move (knows (talked keeper.program) keeper) token before
answered_talking Starting keeper token before = before
answered_talking Gone keeper token before = answered_moving Agree keeper token before

-- ---- one that leaves

closed_client : (joined : HasJoined) (client : ClientState) (keeper : Keeper) (may : Bool) → may_ask (AskClose []) client ≡ may → keeper.talk.place ≡ Speaking joined client → is_answered client.phase ≡ true → IsAnswered (requests (AskClose []) keeper).next
closed_client joined client keeper true may at before = rw (at, may) refl
closed_client joined client keeper false may at before = rw (at, may) before

closed_place : (place : Place) (keeper : Keeper) → keeper.talk.place ≡ place → is_answered (phase_at place) ≡ true → IsAnswered (requests (AskClose []) keeper).next
closed_place (Opening opener previous) keeper at before = rw at refl
closed_place (Speaking joined client) keeper at before = closed_client joined client keeper (may_ask (AskClose []) client) refl at before
closed_place Stopped keeper at before = rw at refl

answered_closing : (joined : Bool) (keeper : Keeper) → is_joined keeper.program.stay ≡ joined → IsAnswered keeper → IsAnswered (closing keeper).next
answered_closing true keeper is before = rw is (closed_place keeper.talk.place keeper refl before)
answered_closing false keeper is before = rw is before

settled_by : (talks leaves : Bool) (keeper : Keeper) → is_talking keeper ≡ talks → is_leaving keeper.program (is_idle keeper) ≡ leaves → IsAnswered keeper → IsAnswered (settled keeper).next
settled_by true leaves keeper talks_so leaves_so before = rw talks_so (answered_talking keeper.program.life keeper talks_so before)
settled_by false true keeper talks_so leaves_so before = rw (talks_so, leaves_so) (answered_closing (is_joined keeper.program.stay) keeper refl before)
settled_by false false keeper talks_so leaves_so before = rw (talks_so, leaves_so) before

answered_settled : (keeper : Keeper) → IsAnswered keeper → IsAnswered (settled keeper).next
answered_settled keeper before = settled_by (is_talking keeper) (is_leaving keeper.program (is_idle keeper)) keeper refl refl before

-- ---- a save

any_allows : (style : SaveStyle) → is_any style ≡ true → allows style Normal ≡ true
any_allows Any is = refl
any_allows style is = absurd (false≢true is)

-- what a client answers that saves in the first phase
first_answered : (client : ClientState) (ask : SaveAsk) (talks : Bool) → (ask.shutdown && is_any ask.style) ≡ talks → client.phase ≡ Saving → client.asked.style ≡ ask.style → is_answered (after_answer (record { set = []; step = cond talks (Interact Normal) (Done true) }) client).phase ≡ true
first_answered client ask true is phase style = rw phase (rw (ap (λ (s : SaveStyle). allows s Normal) style ∙ any_allows ask.style (and_parts ask.shutdown (is_any ask.style) is).1) refl)
first_answered client ask false is phase style = rw phase refl

first_place : (place : Place) (ask : SaveAsk) → ask.stage ≡ First → MayAnswer ask place → is_answered (phase_at (on_client (after_answer (record { set = []; step = first_step ask })) place)) ≡ true
first_place (Speaking joined client) ask first may = first_answered client ask (ask.shutdown && is_any ask.style) refl (may.phase ∙ ap stage_phase first) may.style
first_place (Opening opener previous) ask first may = absurd may
first_place Stopped ask first may = absurd may

second_place : (place : Place) (ask : SaveAsk) → ask.stage ≡ Second → MayAnswer ask place → is_answered (phase_at (on_client (after_answer (record { set = []; step = Done true })) place)) ≡ true
second_place (Speaking joined client) ask second may = let phase : client.phase ≡ SavingTwo = may.phase ∙ ap stage_phase second in rw phase refl
second_place (Opening opener previous) ask second may = absurd may
second_place Stopped ask second may = absurd may

-- one who has the token is asked by nobody
talking_place : (place : Place) (ask : SaveAsk) (phase : ClientPhase) → stage_phase ask.stage ≡ phase → is_answered phase ≡ true → MayAnswer ask place → is_answered (phase_at place) ≡ true
talking_place (Speaking joined client) ask phase stage holds may = ap is_answered (may.phase ∙ stage) ∙ holds
talking_place (Opening opener previous) ask phase stage holds may = absurd may
talking_place Stopped ask phase stage holds may = absurd may

answered_save : (stage : Stage) (kind : SaveKind) (shutdown : Bool) (style : SaveStyle) (fast : Bool) (keeper : Keeper)
    → (let ask : SaveAsk = record { stage = stage; kind = kind; shutdown = shutdown; style = style; fast = fast } in MayAnswer ask keeper.talk.place → IsAnswered (happened (Cued (Save ask)) keeper).next)
answered_save First kind shutdown style fast keeper may =
    let ask : SaveAsk = record { stage = First; kind = kind; shutdown = shutdown; style = style; fast = fast } in first_place keeper.talk.place ask refl may
answered_save Second kind shutdown style fast keeper may =
    let ask : SaveAsk = record { stage = Second; kind = kind; shutdown = shutdown; style = style; fast = fast } in second_place keeper.talk.place ask refl may
answered_save Talking kind shutdown style fast keeper may =
    let ask : SaveAsk = record { stage = Talking; kind = kind; shutdown = shutdown; style = style; fast = fast } in
    answered_settled (knows (begun keeper.program) keeper) (talking_place keeper.talk.place ask Interacting refl refl may)
answered_save TalkingTwo kind shutdown style fast keeper may =
    let ask : SaveAsk = record { stage = TalkingTwo; kind = kind; shutdown = shutdown; style = style; fast = fast } in
    answered_settled (knows (begun keeper.program) keeper) (talking_place keeper.talk.place ask InteractingTwo refl refl may)

-- ---- a save that was cancelled

owed_phase : (phase : ClientPhase) (id : List ℕ) (asked : SaveAsk) → (is_answered phase || is_owing phase) ≡ true → is_answered (after_owed (is_owing phase) (record { phase = phase; id = id; asked = asked })).phase ≡ true
owed_phase Owing id asked may = refl
owed_phase Saving id asked may = absurd (false≢true may)
owed_phase SavingTwo id asked may = absurd (false≢true may)
owed_phase WantsTwo id asked may = absurd (false≢true may)
owed_phase phase id asked may = refl

owed_place : (place : Place) → (is_answered (phase_at place) || is_owing (phase_at place)) ≡ true → is_answered (phase_at (on_client (after_owed (is_owing (phase_at place))) place)) ≡ true
owed_place (Opening opener previous) may = refl
owed_place (Speaking joined client) may = owed_phase client.phase client.id client.asked may
owed_place Stopped may = refl

pub saves_are_answered : SavesAreAnswered
saves_are_answered (Cued Nothing) keeper may = may
saves_are_answered (Cued (Registered id)) keeper may = answered_settled keeper may
saves_are_answered (Cued (Save ask)) keeper may = answered_save ask.stage ask.kind ask.shutdown ask.style ask.fast keeper may
saves_are_answered (Cued Cancelled) keeper may = answered_settled (noted (Cued Cancelled) keeper) (owed_place keeper.talk.place may)
saves_are_answered (Cued Complete) keeper may = answered_settled (noted (Cued Complete) keeper) may
saves_are_answered (Cued Die) keeper may = answered_settled (noted (Cued Die) keeper) may
saves_are_answered (Cued (Properties list)) keeper may = may
saves_are_answered (Cued (Refused class)) keeper may = may
saves_are_answered (Cued (Malformed at)) keeper may = may
saves_are_answered (Shown windows) keeper may = answered_settled (noted (Shown windows) keeper) may
saves_are_answered HasEnded keeper may = answered_settled (noted HasEnded keeper) may
saves_are_answered HasFailed keeper may = answered_settled (noted HasFailed keeper) may
saves_are_answered (Passed elapsed answered) keeper may = answered_settled (noted (Passed elapsed answered) keeper) may
