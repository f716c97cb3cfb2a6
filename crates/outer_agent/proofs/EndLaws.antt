-- Which ends of saves an agent says.
use Rattle.std.proofs.Common.{◌≡◌, ℕ, Bool, true, false, List, [], ◌∷◌, ◌++◌, map, drop, Option, None, Some, refl, sym, subst}
use Rattle.std.specs.Prelude.{cond, ◌&&◌, if◌then◌else◌}
use Rattle.ice_cookie.specs.declared.cookies.Cookie.{Cookie}
use Rattle.ice_framing.specs.Frames.{fed}
use Rattle.ice_framing.specs.Parts.{Part, Whole, TooMuch, parts_at}
use Rattle.ice_framing.specs.declared.cutting.WholeFrame.{WholeFrame}
use Rattle.ice_values.specs.Fields.{ErrorFields}
use Rattle.ice_values.specs.declared.severity.Severity.{Severity}
use Rattle.ice_values.specs.declared.severity.Severity.TheVariants.{CanContinue, FatalToProtocol, FatalToConnection}
use Rattle.ice_setup.specs.Opener.{opened}
use Rattle.ice_setup.specs.declared.opener.AnyOpener.{AnyOpener}
use Rattle.ice_setup.specs.declared.opener.AnyOpener.TheVariants.{OpenOrder as AtOrder, OpenSetup as AtSetup, OpenProtocol as AtProtocol, Joined as AtJoined}
use Rattle.ice_setup.specs.declared.opener.Joined.{Joined}
use Rattle.ice_setup.specs.declared.opener.OpenMoved.{OpenMoved}
use Rattle.ice_setup.specs.declared.opener.OpenMoved.TheVariants.{Goes, Ends}
use Rattle.xsmp_messages.specs.declared.message.XsmpMessage.{XsmpMessage}
use Rattle.xsmp_messages.specs.declared.message.XsmpMessage.TheVariants.{Error, RegisterClient, RegisterClientReply, SaveYourself, Interact, SaveYourselfDone, SaveYourselfPhase2, SaveComplete, ShutdownCancelled, Die, GetPropertiesReply}
use Rattle.client_machine.specs.Asking.{after_asked, answered}
use Rattle.client_machine.specs.Phases.{ClientState, blamed_phase, is_owing, is_registered}
use Rattle.client_machine.specs.Taking.{act_taken, blamed_act, registers_again, taken}
use Rattle.client_machine.specs.declared.acts.ClientAct.TheVariants.{Again, Nothing as HasNothing}
use Rattle.client_machine.specs.declared.phase.ClientPhase.{ClientPhase}
use Rattle.client_machine.specs.declared.phase.ClientPhase.TheVariants.{Registering, Idle, Saving, Done}
use Rattle.client_machine.specs.declared.requests.Request.TheVariants.{Done as AskDone}
use Rattle.client_machine.specs.declared.saves.SaveAsk.{SaveAsk}
use Rattle.client_machine.specs.declared.saves.Stage.{Stage}
use Rattle.client_machine.specs.declared.saves.Stage.TheVariants.{First, Second, Talking, TalkingTwo}
use Rattle.client_engine.specs.Answering.{after_owed, answered_at, as_message}
use Rattle.client_engine.specs.Driving.{Step, part_taken, parts_taken, reply}
use Rattle.client_engine.specs.Hearing.{acted, arrived, fatal_class, frame_heard, joined_moved, opening_at, opening_heard, opening_moved, oversize_heard, part_heard, speaking_heard, unless_fatal}
use Rattle.client_engine.specs.Messages.{answer_of, spelled}
use Rattle.client_engine.specs.Places.{id_at, is_listening, on_client, phase_at}
use Rattle.client_engine.specs.Received.{received_of}
use Rattle.client_engine.specs.declared.hearing.Cue.{Cue}
use Rattle.client_engine.specs.declared.hearing.Cue.TheVariants.{Nothing, Registered, Save, Cancelled, Complete, Die as IsTold, Properties, Refused, Malformed}
use Rattle.client_engine.specs.declared.hearing.Heard.{Heard}
use Rattle.client_engine.specs.declared.place.Arrival.{Arrival}
use Rattle.client_engine.specs.declared.place.Counts.{Counts}
use Rattle.client_engine.specs.declared.place.Place.{Place}
use Rattle.client_engine.specs.declared.place.Place.TheVariants.{Opening, Speaking, Stopped}
use Rattle.client_engine.specs.declared.place.Talk.{Talk}
use Rattle.client_engine.specs.declared.received.Received.{Received}
use Rattle.client_engine.specs.declared.received.Received.TheVariants.{Ice as GotIce, Xsmp as GotXsmp, Stray, Unspelled}
use Rattle.protocol_messages.specs.declared.message.Message.{Message}
use Rattle.protocol_messages.specs.declared.message.Message.TheVariants.{Xsmp}
use Rattle.outer_agent.specs.Ends.{Came, Piece, SaveEnded, SessionEnded, AreOneByOne, EndsAreSaidWhereDue, Life, SavesComeOneByOne, after, after_all, is_due, life_of}
use Rattle.outer_agent.specs.Script.{Keeper, bytes_asked, cancelled, closing_with, heeded, reacts, saved, sends, start, talk_of}
use Rattle.outer_agent.specs.declared.acts.AgentAct.{AgentAct}
use Rattle.outer_agent.specs.declared.acts.AgentAct.TheVariants.{Send, Checkpoint, Forget, Shutdown, Drop}

-- The phases of an agent's client, and in which of them the end of a save is due.
abbrev IsPhase : ClientPhase → Bool → Type 0
IsPhase Registering due = due ≡ false
IsPhase Idle due = due ≡ false
IsPhase Saving due = due ≡ true
IsPhase Done due = due ≡ false
IsPhase phase due = ⊥

abbrev Fits : Place → Bool → Type 0
Fits (Opening opener previous) due = due ≡ false
Fits (Speaking joined c) due = IsPhase c.phase due
Fits Stopped due = Unit {0}

-- ---- the end of a save

abbrev client : ClientPhase → List ℕ → SaveAsk → ClientState
client phase id asked = record { phase = phase; id = id; asked = asked }

said_in : (phase : ClientPhase) (id : List ℕ) (asked : SaveAsk) (due success : Bool) → IsPhase phase due → bytes_asked (as_message (answered (AskDone success) (client phase id asked))) ≡ (if due && true then spelled (Xsmp (SaveYourselfDone success)) else [])
said_in Registering id asked false success fits = refl
said_in Registering id asked true success fits = absurd cc
said_in Idle id asked false success fits = refl
said_in Idle id asked true success fits = absurd cc
said_in Saving id asked true success fits = refl
said_in Saving id asked false success fits = absurd cc
said_in Done id asked false success fits = refl
said_in Done id asked true success fits = absurd cc
said_in phase id asked due success fits = absurd fits

said_at : (place : Place) (due success : Bool) → Fits place due → bytes_asked (answered_at (AskDone success) place) ≡ (if due && is_listening place then spelled (Xsmp (SaveYourselfDone success)) else [])
said_at (Opening opener previous) false success fits = refl
said_at (Opening opener previous) true success fits = absurd cc
said_at (Speaking joined c) due success fits = said_in c.phase c.id c.asked due success fits
said_at Stopped false success fits = refl
said_at Stopped true success fits = refl

-- behind it none is due
told_in : (phase : ClientPhase) (id : List ℕ) (asked : SaveAsk) (due success : Bool) → IsPhase phase due → IsPhase (after_asked (AskDone success) (client phase id asked)).phase false
told_in Registering id asked due success fits = refl
told_in Idle id asked due success fits = refl
told_in Saving id asked due success fits = refl
told_in Done id asked due success fits = refl
told_in phase id asked due success fits = absurd fits

told_fits : (place : Place) (due success : Bool) → Fits place due → Fits (on_client (after_asked (AskDone success)) place) false
told_fits (Opening opener previous) due success fits = refl
told_fits (Speaking joined c) due success fits = told_in c.phase c.id c.asked due success fits
told_fits Stopped due success fits = tt

-- ---- the session's end

-- one without an ID waits for no end
unnamed_in : (phase : ClientPhase) (id : List ℕ) (due : Bool) → IsPhase phase due → cond (is_registered phase) (Some id) None ≡ None → IsPhase phase false
unnamed_in Registering id due fits none = refl
unnamed_in Idle id due fits none = refl
unnamed_in Saving id due fits none = absurd cc
unnamed_in Done id due fits none = refl
unnamed_in phase id due fits none = absurd fits

unnamed : (place : Place) (due : Bool) → Fits place due → id_at place ≡ None → Fits place false
unnamed (Opening opener previous) due fits none = refl
unnamed (Speaking joined c) due fits none = unnamed_in c.phase c.id due fits none
unnamed Stopped due fits none = tt

closed_fits : (keeper : Keeper) (id : Option (List ℕ)) → (id ≡ None → Fits keeper.talk.place false) → Fits (closing_with keeper id).next.talk.place false
closed_fits keeper None fits = fits refl
closed_fits keeper (Some id) fits = tt

-- ---- a part of the stream

abbrev FitsStep : Bool → Step Keeper AgentAct → Type 0
FitsStep due step = Fits step.next.talk.place (is_due due step.line) × AreOneByOne due step.line

due_more : (due : Bool) (xs ys : List AgentAct) → is_due due (xs ++ ys) ≡ is_due (is_due due xs) ys
due_more due [] ys = refl
due_more due (Send bytes ∷ xs) ys = due_more due xs ys
due_more due (Checkpoint ∷ xs) ys = due_more true xs ys
due_more due (Forget ∷ xs) ys = due_more false xs ys
due_more due (Shutdown ∷ xs) ys = due_more false xs ys
due_more due (Drop ∷ xs) ys = due_more false xs ys

due_said : (due : Bool) (said : List Message) (acts : List AgentAct) → is_due due (map sends said ++ acts) ≡ is_due due acts
due_said due [] acts = refl
due_said due (message ∷ said) acts = due_said due said acts

one_by_one_more : (due : Bool) (xs ys : List AgentAct) → AreOneByOne due xs → AreOneByOne (is_due due xs) ys → AreOneByOne due (xs ++ ys)
one_by_one_more due [] ys one two = two
one_by_one_more due (Send bytes ∷ xs) ys one two = one_by_one_more due xs ys one two
one_by_one_more due (Checkpoint ∷ xs) ys one two = (one.0, one_by_one_more true xs ys one.1 two)
one_by_one_more due (Forget ∷ xs) ys one two = one_by_one_more false xs ys one two
one_by_one_more due (Shutdown ∷ xs) ys one two = (one.0, one_by_one_more false xs ys one.1 two)
one_by_one_more due (Drop ∷ xs) ys one two = one_by_one_more false xs ys one two

one_by_one_said : (due : Bool) (said : List Message) (acts : List AgentAct) → AreOneByOne due acts → AreOneByOne due (map sends said ++ acts)
one_by_one_said due [] acts one = one
one_by_one_said due (message ∷ said) acts one = one_by_one_said due said acts one

-- what a cue is to find
abbrev FitsSave : Stage → Place → Bool → Type 0
FitsSave First place due = Fits place true × (due ≡ false)
FitsSave stage place due = Fits place due

abbrev FitsCancelled : Bool → Place → Bool → Type 0
FitsCancelled true place due = Fits (on_client (after_owed true) place) false
FitsCancelled false place due = Fits place due

abbrev FitsCue : Cue → Place → Bool → Type 0
FitsCue (Save ask) place due = FitsSave ask.stage place due
FitsCue Cancelled place due = FitsCancelled (is_owing (phase_at place)) place due
FitsCue IsTold place due = due ≡ false
FitsCue (Refused class) place due = Fits place false
FitsCue (Malformed at) place due = Fits place false
FitsCue cue place due = Fits place due

abbrev FitsHeard : Heard → Bool → Type 0
FitsHeard heard due = FitsCue heard.cue heard.next.place due

saved_fits : (keeper : Keeper) (stage : Stage) (due : Bool) → FitsSave stage keeper.talk.place due → FitsStep due (saved keeper stage)
saved_fits keeper First due fits = (fits.0, (fits.1, tt))
saved_fits keeper Second due fits = (fits, tt)
saved_fits keeper Talking due fits = (fits, tt)
saved_fits keeper TalkingTwo due fits = (fits, tt)

cancelled_fits : (keeper : Keeper) (owing due : Bool) → FitsCancelled owing keeper.talk.place due → FitsStep due (cancelled keeper owing)
cancelled_fits keeper true due fits = (fits, tt)
cancelled_fits keeper false due fits = (fits, tt)

heeded_fits : (keeper : Keeper) (cue : Cue) (due : Bool) → FitsCue cue keeper.talk.place due → FitsStep due (heeded keeper cue)
heeded_fits keeper Nothing due fits = (fits, tt)
heeded_fits keeper (Registered id) due fits = (fits, tt)
heeded_fits keeper (Save ask) due fits = saved_fits keeper ask.stage due fits
heeded_fits keeper Cancelled due fits = cancelled_fits keeper (is_owing (phase_at keeper.talk.place)) due fits
heeded_fits keeper Complete due fits = (fits, tt)
heeded_fits keeper IsTold due fits = (tt, (fits, tt))
heeded_fits keeper (Properties list) due fits = (fits, tt)
heeded_fits keeper (Refused class) due fits = (fits, tt)
heeded_fits keeper (Malformed at) due fits = (fits, tt)

reacts_fits : (keeper : Keeper) (heard : Heard) (r : Unit {0}) (due : Bool) → FitsHeard heard due → FitsStep due (reacts keeper heard r)
reacts_fits keeper heard r due fits =
    let at : Keeper = record keeper { talk = heard.next } in
    let heeds : FitsStep due (heeded at heard.cue) = heeded_fits at heard.cue due fits in (
      subst (λ (d : Bool). Fits (heeded at heard.cue).next.talk.place d) (sym (due_said due heard.said (heeded at heard.cue).line)) heeds.0,
      one_by_one_said due heard.said (heeded at heard.cue).line heeds.1,
    )

-- ---- a message of XSMP

again_fits : (a : Arrival) (joined : Joined) (c : ClientState) (again due : Bool) → IsPhase c.phase due → FitsHeard (acted a joined c (cond again (Again (RegisterClient [])) HasNothing)) due
again_fits a joined c true due fits = fits
again_fits a joined c false due fits = fits

blamed_fits : (a : Arrival) (joined : Joined) (severity : Severity) (error : ErrorFields) (c later : ClientState) (due : Bool) → IsPhase c.phase due → later.phase ≡ blamed_phase severity c.phase → FitsHeard (acted a joined later (blamed_act severity error c)) due
blamed_fits a joined CanContinue error c later due fits same = again_fits a joined later (registers_again error c) due (subst (λ (phase : ClientPhase). IsPhase phase due) (sym same) fits)
blamed_fits a joined FatalToProtocol error c later due fits same = tt
blamed_fits a joined FatalToConnection error c later due fits same = tt

abbrev FitsMessage : Arrival → Joined → XsmpMessage → ClientState → Bool → Type 0
FitsMessage a joined m c due = FitsHeard (acted a joined (taken m c) (act_taken m c)) due

given_fits : (a : Arrival) (joined : Joined) (m : XsmpMessage) (phase : ClientPhase) (id : List ℕ) (asked : SaveAsk) (due : Bool) → IsPhase phase due → FitsMessage a joined m (client phase id asked) due
given_fits a joined (Error error) phase id asked due fits = blamed_fits a joined error.severity error (client phase id asked) (taken (Error error) (client phase id asked)) due fits refl
given_fits a joined (RegisterClientReply new) Registering id asked due fits = fits
given_fits a joined (RegisterClientReply new) Idle id asked due fits = fits
given_fits a joined (RegisterClientReply new) Saving id asked due fits = fits
given_fits a joined (RegisterClientReply new) Done id asked due fits = fits
given_fits a joined (RegisterClientReply new) phase id asked due fits = absurd fits
given_fits a joined (SaveYourself kind shutdown style fast) Registering id asked due fits = fits
given_fits a joined (SaveYourself kind shutdown style fast) Idle id asked due fits = (refl, fits)
given_fits a joined (SaveYourself kind shutdown style fast) Saving id asked due fits = fits
given_fits a joined (SaveYourself kind shutdown style fast) Done id asked due fits = (refl, fits)
given_fits a joined (SaveYourself kind shutdown style fast) phase id asked due fits = absurd fits
given_fits a joined Interact Registering id asked due fits = fits
given_fits a joined Interact Idle id asked due fits = fits
given_fits a joined Interact Saving id asked due fits = fits
given_fits a joined Interact Done id asked due fits = fits
given_fits a joined Interact phase id asked due fits = absurd fits
given_fits a joined SaveYourselfPhase2 Registering id asked due fits = fits
given_fits a joined SaveYourselfPhase2 Idle id asked due fits = fits
given_fits a joined SaveYourselfPhase2 Saving id asked due fits = fits
given_fits a joined SaveYourselfPhase2 Done id asked due fits = fits
given_fits a joined SaveYourselfPhase2 phase id asked due fits = absurd fits
given_fits a joined SaveComplete Registering id asked due fits = fits
given_fits a joined SaveComplete Idle id asked due fits = fits
given_fits a joined SaveComplete Saving id asked due fits = fits
given_fits a joined SaveComplete Done id asked due fits = fits
given_fits a joined SaveComplete phase id asked due fits = absurd fits
given_fits a joined ShutdownCancelled Registering id asked due fits = fits
given_fits a joined ShutdownCancelled Idle id asked due fits = fits
given_fits a joined ShutdownCancelled Saving id asked due fits = refl
given_fits a joined ShutdownCancelled Done id asked due fits = fits
given_fits a joined ShutdownCancelled phase id asked due fits = absurd fits
given_fits a joined Die Registering id asked due fits = fits
given_fits a joined Die Idle id asked due fits = fits
given_fits a joined Die Saving id asked due fits = fits
given_fits a joined Die Done id asked due fits = fits
given_fits a joined Die phase id asked due fits = absurd fits
given_fits a joined (GetPropertiesReply list) Registering id asked due fits = fits
given_fits a joined (GetPropertiesReply list) Idle id asked due fits = fits
given_fits a joined (GetPropertiesReply list) Saving id asked due fits = fits
given_fits a joined (GetPropertiesReply list) Done id asked due fits = fits
given_fits a joined (GetPropertiesReply list) phase id asked due fits = absurd fits
given_fits a joined m phase id asked due fits = fits

-- ---- a frame

fatal_fits : (a : Arrival) (class : Option ℕ) (heard : Heard) (due : Bool) → FitsHeard heard due → FitsHeard (unless_fatal a class heard) due
fatal_fits a None heard due fits = fits
fatal_fits a (Some class) heard due fits = tt

setup_fits : (a : Arrival) (previous : List ℕ) (opener : AnyOpener) (said : List Message) (due : Bool) → due ≡ false → FitsHeard (opening_at a previous opener said) due
setup_fits a previous (AtOrder s) said due fits = fits
setup_fits a previous (AtSetup s) said due fits = fits
setup_fits a previous (AtProtocol s) said due fits = fits
setup_fits a previous (AtJoined joined) said due fits = fits

moved_fits : (a : Arrival) (previous : List ℕ) (moved : OpenMoved) (due : Bool) → due ≡ false → FitsHeard (opening_moved a previous moved) due
moved_fits a previous (Goes opener answer) due fits = setup_fits a previous opener (answer_of answer) due fits
moved_fits a previous (Ends answer) due fits = tt

opening_fits : (a : Arrival) (opener : AnyOpener) (previous : List ℕ) (received : Received) (due : Bool) → due ≡ false → FitsHeard (opening_heard a opener previous received) due
opening_fits a opener previous (GotIce message) due fits =
    let moved : OpenMoved = opened opener message a.offending.sequence in
    fatal_fits a (fatal_class message) (opening_moved a previous moved) due (moved_fits a previous moved due fits)
opening_fits a opener previous (GotXsmp message) due fits = fits
opening_fits a opener previous Stray due fits = fits
opening_fits a opener previous Unspelled due fits = tt

joined_fits : (a : Arrival) (joined : Joined) (c : ClientState) (moved : OpenMoved) (due : Bool) → IsPhase c.phase due → FitsHeard (joined_moved a joined c moved) due
joined_fits a joined c (Goes opener answer) due fits = fits
joined_fits a joined c (Ends answer) due fits = tt

speaking_fits : (a : Arrival) (joined : Joined) (c : ClientState) (received : Received) (due : Bool) → IsPhase c.phase due → FitsHeard (speaking_heard a joined c received) due
speaking_fits a joined c (GotIce message) due fits =
    let moved : OpenMoved = opened (AtJoined joined) message a.offending.sequence in
    fatal_fits a (fatal_class message) (joined_moved a joined c moved) due (joined_fits a joined c moved due fits)
speaking_fits a joined c (GotXsmp message) due fits = given_fits a joined message c.phase c.id c.asked due fits
speaking_fits a joined c Stray due fits = fits
speaking_fits a joined c Unspelled due fits = tt

frame_fits : (counts : Counts) (frame : WholeFrame) (place : Place) (due : Bool) → Fits place due → FitsHeard (frame_heard counts frame place) due
frame_fits counts frame (Opening opener previous) due fits = opening_fits (arrived counts frame.bytes) opener previous (received_of None frame) due fits
frame_fits counts frame (Speaking joined c) due fits = speaking_fits (arrived counts frame.bytes) joined c (received_of (Some joined.opcode) frame) due fits
frame_fits counts frame Stopped due fits = tt

header_fits : (counts : Counts) (place : Place) (due : Bool) → FitsHeard (oversize_heard counts place) due
header_fits counts (Opening opener previous) due = tt
header_fits counts (Speaking joined c) due = tt
header_fits counts Stopped due = tt

part_fits : (talk : Talk) (part : Part) (due : Bool) → Fits talk.place due → FitsHeard (part_heard talk part) due
part_fits talk (Whole frame) due fits = frame_fits talk.counts frame talk.place due fits
part_fits talk (TooMuch header) due fits = header_fits talk.counts talk.place due

-- ---- all that comes

parts_fit : (keeper : Keeper) (parts : List Part) (rs : List (Unit {0})) (due : Bool) → Fits keeper.talk.place due → FitsStep due (parts_taken tt talk_of reacts keeper parts rs)
parts_fit keeper [] rs due fits = (fits, tt)
parts_fit keeper (part ∷ parts) rs due fits =
    let r : Unit {0} = reply tt talk_of reacts rs in
    let first : Step Keeper AgentAct = part_taken tt talk_of reacts keeper part r in
    let rest : Step Keeper AgentAct = parts_taken tt talk_of reacts first.next parts (drop 1 rs) in
    let one : FitsStep due first = reacts_fits keeper (part_heard keeper.talk part) r due (part_fits keeper.talk part due fits) in
    let two : FitsStep (is_due due first.line) rest = parts_fit first.next parts (drop 1 rs) (is_due due first.line) one.0 in
    (subst (λ (d : Bool). Fits rest.next.talk.place d) (sym (due_more due first.line rest.line)) two.0, one_by_one_more due first.line rest.line one.1 two.1)

abbrev FitsLife : Life → Type 0
FitsLife life = Fits life.run.keeper.talk.place life.due

came_fits : (life : Life) (came : Came) → FitsLife life → FitsLife (after life came)
came_fits life (Piece bytes) fits = (parts_fit life.run.keeper (parts_at (fed life.run.standing bytes)) [] life.due fits).0
came_fits life (SaveEnded success) fits = told_fits life.run.keeper.talk.place life.due success fits
came_fits life SessionEnded fits = closed_fits life.run.keeper (id_at life.run.keeper.talk.place) (unnamed life.run.keeper.talk.place life.due fits)

all_fit : (life : Life) (all : List Came) → FitsLife life → FitsLife (after_all life all)
all_fit life [] fits = fits
all_fit life (came ∷ all) fits = all_fit (after life came) all (came_fits life came fits)

life_fits : (cookie : Cookie) (previous : List ℕ) (words : List (List ℕ)) (all : List Came) → FitsLife (life_of cookie previous words all)
life_fits cookie previous words all = all_fit (record { run = start cookie previous words; due = false }) all refl

pub said_where_due : EndsAreSaidWhereDue
said_where_due cookie previous words all success =
    let life : Life = life_of cookie previous words all in
    said_at life.run.keeper.talk.place life.due success (life_fits cookie previous words all)

pub one_by_one : SavesComeOneByOne
one_by_one cookie previous words all bytes =
    let life : Life = life_of cookie previous words all in
    (parts_fit life.run.keeper (parts_at (fed life.run.standing bytes)) [] life.due (life_fits cookie previous words all)).1
