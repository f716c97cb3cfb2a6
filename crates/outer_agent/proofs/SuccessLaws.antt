-- No act about a piece says that a save succeeded.
use Rattle.std.proofs.Common.{◌≡◌, ◌≢◌, ℕ, Bool, true, false, List, [], ◌∷◌, ◌++◌, map, slice_index, drop, Option, None, Some, refl, ap, arith}
use Rattle.std.specs.Prelude.{cond}
use Rattle.std.specs.List.{AllByRecursion}
use Rattle.ice_framing.specs.Frames.{fed}
use Rattle.ice_framing.specs.Parts.{Part, Whole, TooMuch, parts_at}
use Rattle.ice_framing.specs.declared.cutting.WholeFrame.{WholeFrame}
use Rattle.ice_messages.specs.declared.message.IceMessage.{IceMessage}
use Rattle.ice_messages.specs.declared.message.IceMessage.TheVariants.{Error as IceError}
use Rattle.ice_setup.specs.Opener.{opened}
use Rattle.ice_setup.specs.declared.opener.AnyOpener.{AnyOpener}
use Rattle.ice_setup.specs.declared.opener.AnyOpener.TheVariants.{OpenOrder as AtOrder, OpenSetup as AtSetup, OpenProtocol as AtProtocol, Joined as AtJoined}
use Rattle.ice_setup.specs.declared.opener.Joined.{Joined}
use Rattle.ice_setup.specs.declared.opener.OpenMoved.{OpenMoved}
use Rattle.ice_setup.specs.declared.opener.OpenMoved.TheVariants.{Goes, Ends}
use Rattle.ice_values.specs.Fields.{ErrorFields}
use Rattle.ice_values.specs.declared.severity.Severity.{Severity}
use Rattle.ice_values.specs.declared.severity.Severity.TheVariants.{CanContinue, FatalToProtocol, FatalToConnection}
use Rattle.xsmp_messages.specs.declared.message.XsmpMessage.{XsmpMessage}
use Rattle.xsmp_messages.specs.declared.message.XsmpMessage.TheVariants.{Error, RegisterClient, RegisterClientReply, SaveYourself, Interact, SaveYourselfDone, SaveYourselfPhase2, SaveComplete, ShutdownCancelled, Die, GetPropertiesReply}
use Rattle.client_machine.specs.Phases.{ClientState, is_done, is_member, is_owing, is_registered, is_registering, is_resting}
use Rattle.client_machine.specs.Taking.{act_taken, blamed_act, registers_again, second_act, taken, talk_act}
use Rattle.client_machine.specs.declared.acts.ClientAct.{ClientAct}
use Rattle.client_machine.specs.declared.acts.ClientAct.TheVariants.{Nothing as HasNothing, Registered as HasId, Again, Save as IsAsked, Die as IsTold, Cancelled as WasCancelled, Complete as AllSaved, Properties as HasProperties, Unexpected}
use Rattle.client_machine.specs.declared.phase.ClientPhase.{ClientPhase}
use Rattle.client_machine.specs.declared.phase.ClientPhase.TheVariants.{Asked, AskedTwo, WantsTwo}
use Rattle.client_machine.specs.declared.saves.SaveAsk.{SaveAsk}
use Rattle.client_machine.specs.declared.saves.Stage.{Stage}
use Rattle.client_machine.specs.declared.saves.Stage.TheVariants.{First, Second, Talking, TalkingTwo}
use Rattle.client_engine.specs.Answering.{closes}
use Rattle.client_engine.specs.Driving.{Step, part_taken, parts_taken, reply}
use Rattle.client_engine.specs.Hearing.{acted, arrived, fatal_class, frame_heard, joined_moved, opening_at, opening_heard, opening_moved, out_of_place, oversize_heard, part_heard, speaking_heard, unless_fatal}
use Rattle.client_engine.specs.Messages.{answer_of, spelled}
use Rattle.client_engine.specs.Places.{phase_at}
use Rattle.client_engine.specs.Received.{received_of}
use Rattle.client_engine.specs.declared.hearing.Cue.{Cue}
use Rattle.client_engine.specs.declared.hearing.Cue.TheVariants.{Nothing, Registered, Save, Cancelled, Complete, Die as ToDie, Properties, Refused, Malformed}
use Rattle.client_engine.specs.declared.hearing.Heard.{Heard}
use Rattle.client_engine.specs.declared.place.Arrival.{Arrival}
use Rattle.client_engine.specs.declared.place.Counts.{Counts}
use Rattle.client_engine.specs.declared.place.Place.{Place}
use Rattle.client_engine.specs.declared.place.Place.TheVariants.{Opening, Speaking, Stopped}
use Rattle.client_engine.specs.declared.place.Talk.{Talk}
use Rattle.client_engine.specs.declared.received.Received.{Received}
use Rattle.client_engine.specs.declared.received.Received.TheVariants.{Ice as GotIce, Xsmp as GotXsmp, Stray, Unspelled}
use Rattle.protocol_messages.specs.declared.message.Message.TheVariants.{Ice, Xsmp}
use Rattle.outer_agent.specs.Ends.{PiecesBringNoSuccess}
use Rattle.outer_agent.specs.Script.{Keeper, cancelled, heeded, own_set, reacts, saved, sends, talk_of}
use Rattle.outer_agent.specs.declared.acts.AgentAct.{AgentAct}
use Rattle.outer_agent.specs.declared.acts.AgentAct.TheVariants.{Send, Checkpoint, Forget, Shutdown, Drop}

abbrev IsOther : AgentAct → Type 0
IsOther act = act ≢ Send (spelled (Xsmp (SaveYourselfDone true)))

abbrev AreOther : List AgentAct → Type 0
AreOther acts = AllByRecursion IsOther acts

both_other : (xs ys : List AgentAct) → AreOther xs → AreOther ys → AreOther (xs ++ ys)
both_other [] ys one two = two
both_other (x ∷ xs) ys one two = (one.0, both_other xs ys one.1 two)

-- ---- single acts

-- a byte of what is sent, and 0 where nothing is
abbrev byte_at : ℕ → AgentAct → ℕ
byte_at i (Send bytes) = slice_index bytes i
byte_at i act = 0

other_first : (act : AgentAct) → byte_at 0 act ≡ 0 → IsOther act
other_first act is = λ same. absurd (differs (byte_at 0 act) is (ap (byte_at 0) same))
  where
    differs : (x : ℕ) → x ≡ 0 → x ≡ 1 → ⊥
    differs x is same = omega (arith, is, same)

other_minor : (act : AgentAct) (x : ℕ) → byte_at 1 act ≡ x → x ≢ 8 → IsOther act
other_minor act x is other = λ same. absurd (other (differs (byte_at 1 act) is (ap (byte_at 1) same)))
  where
    differs : (y : ℕ) → y ≡ x → y ≡ 8 → x ≡ 8
    differs y is same = omega (arith, is, same)

failure_other : IsOther (sends (Xsmp (SaveYourselfDone false)))
failure_other = λ same. absurd (differs (byte_at 2 (sends (Xsmp (SaveYourselfDone false)))) refl (ap (byte_at 2) same))
  where
    differs : (x : ℕ) → x ≡ 0 → x ≡ 1 → ⊥
    differs x is same = omega (arith, is, same)

ice_other : (message : IceMessage) → IsOther (sends (Ice message))
ice_other message = other_first (sends (Ice message)) refl

register_other : (previous : List ℕ) → IsOther (sends (Xsmp (RegisterClient previous)))
register_other previous = other_minor (sends (Xsmp (RegisterClient previous))) 1 refl (λ same. omega (arith, same))

error_other : (error : ErrorFields) → IsOther (sends (Xsmp (Error error)))
error_other error = other_minor (sends (Xsmp (Error error))) 0 refl (λ same. omega (arith, same))

set_other : (keeper : Keeper) → IsOther (sends (own_set keeper))
set_other keeper = other_minor (sends (own_set keeper)) 12 refl (λ same. omega (arith, same))

closes_other : IsOther (sends (closes []))
closes_other = other_minor (sends (closes [])) 11 refl (λ same. omega (arith, same))

-- ---- what a cue brings

saved_other : (keeper : Keeper) (stage : Stage) → AreOther (saved keeper stage).line
saved_other keeper First = (set_other keeper, (other_first Checkpoint refl, tt))
saved_other keeper Second = tt
saved_other keeper Talking = tt
saved_other keeper TalkingTwo = tt

cancelled_other : (keeper : Keeper) (owing : Bool) → AreOther (cancelled keeper owing).line
cancelled_other keeper true = (failure_other, (other_first Forget refl, tt))
cancelled_other keeper false = tt

heeded_other : (keeper : Keeper) (cue : Cue) → AreOther (heeded keeper cue).line
heeded_other keeper Nothing = tt
heeded_other keeper (Registered id) = tt
heeded_other keeper (Save ask) = saved_other keeper ask.stage
heeded_other keeper Cancelled = cancelled_other keeper (is_owing (phase_at keeper.talk.place))
heeded_other keeper Complete = tt
heeded_other keeper ToDie = (closes_other, (other_first Shutdown refl, tt))
heeded_other keeper (Properties list) = tt
heeded_other keeper (Refused class) = (other_first Drop refl, tt)
heeded_other keeper (Malformed at) = (other_first Drop refl, tt)

-- ---- what the client says by itself

abbrev SaysOther : Heard → Type 0
SaysOther heard = AreOther (map sends heard.said)

answer_other : (answer : Option IceMessage) → AreOther (map sends (answer_of answer))
answer_other None = tt
answer_other (Some message) = (ice_other message, tt)

registers_other : (answer : Option IceMessage) (previous : List ℕ) → AreOther (map sends (answer_of answer ++ Xsmp (RegisterClient previous) ∷ []))
registers_other None previous = (register_other previous, tt)
registers_other (Some message) previous = (ice_other message, (register_other previous, tt))

abbrev ActsOther : Arrival → Joined → ClientState → ClientAct → Type 0
ActsOther a joined c act = SaysOther (acted a joined c act)

either_other : (a : Arrival) (joined : Joined) (c : ClientState) (b : Bool) (x y : ClientAct) → ActsOther a joined c x → ActsOther a joined c y → ActsOther a joined c (cond b x y)
either_other a joined c true x y one two = one
either_other a joined c false x y one two = two

unexpected_other : (a : Arrival) (joined : Joined) (c : ClientState) → ActsOther a joined c Unexpected
unexpected_other a joined c = (error_other (out_of_place a.offending), tt)

blamed_other : (a : Arrival) (joined : Joined) (later : ClientState) (severity : Severity) (error : ErrorFields) (c : ClientState) → ActsOther a joined later (blamed_act severity error c)
blamed_other a joined later CanContinue error c = either_other a joined later (registers_again error c) (Again (RegisterClient [])) HasNothing (register_other [], tt) tt
blamed_other a joined later FatalToProtocol error c = tt
blamed_other a joined later FatalToConnection error c = tt

talk_other : (a : Arrival) (joined : Joined) (later : ClientState) (phase : ClientPhase) (asked : SaveAsk) → ActsOther a joined later (talk_act phase asked)
talk_other a joined later Asked asked = tt
talk_other a joined later AskedTwo asked = tt
talk_other a joined later phase asked = unexpected_other a joined later

second_other : (a : Arrival) (joined : Joined) (later : ClientState) (phase : ClientPhase) (asked : SaveAsk) → ActsOther a joined later (second_act phase asked)
second_other a joined later WantsTwo asked = tt
second_other a joined later phase asked = unexpected_other a joined later

given_other : (a : Arrival) (joined : Joined) (later : ClientState) (m : XsmpMessage) (c : ClientState) → ActsOther a joined later (act_taken m c)
given_other a joined later (Error error) c = blamed_other a joined later error.severity error c
given_other a joined later (RegisterClientReply id) c = either_other a joined later (is_registering c.phase) (HasId id) Unexpected tt (unexpected_other a joined later)
given_other a joined later (SaveYourself kind shutdown style fast) c =
    either_other a joined later (is_resting c.phase) (IsAsked (record { stage = First; kind = kind; shutdown = shutdown; style = style; fast = fast })) Unexpected tt (unexpected_other a joined later)
given_other a joined later Interact c = talk_other a joined later c.phase c.asked
given_other a joined later SaveYourselfPhase2 c = second_other a joined later c.phase c.asked
given_other a joined later SaveComplete c = either_other a joined later (is_done c.phase) AllSaved HasNothing tt tt
given_other a joined later ShutdownCancelled c = either_other a joined later (is_member c.phase) WasCancelled HasNothing tt tt
given_other a joined later Die c = either_other a joined later (is_resting c.phase) IsTold Unexpected tt (unexpected_other a joined later)
given_other a joined later (GetPropertiesReply list) c = either_other a joined later (is_registered c.phase) (HasProperties list) Unexpected tt (unexpected_other a joined later)
given_other a joined later m c = unexpected_other a joined later

fatal_other : (a : Arrival) (class : Option ℕ) (heard : Heard) → SaysOther heard → SaysOther (unless_fatal a class heard)
fatal_other a None heard other = other
fatal_other a (Some class) heard other = tt

setup_other : (a : Arrival) (previous : List ℕ) (opener : AnyOpener) (answer : Option IceMessage) → SaysOther (opening_at a previous opener (answer_of answer))
setup_other a previous (AtOrder s) answer = answer_other answer
setup_other a previous (AtSetup s) answer = answer_other answer
setup_other a previous (AtProtocol s) answer = answer_other answer
setup_other a previous (AtJoined joined) answer = registers_other answer previous

moved_other : (a : Arrival) (previous : List ℕ) (moved : OpenMoved) → SaysOther (opening_moved a previous moved)
moved_other a previous (Goes opener answer) = setup_other a previous opener answer
moved_other a previous (Ends answer) = answer_other answer

opening_other : (a : Arrival) (opener : AnyOpener) (previous : List ℕ) (received : Received) → SaysOther (opening_heard a opener previous received)
opening_other a opener previous (GotIce message) =
    let moved : OpenMoved = opened opener message a.offending.sequence in
    fatal_other a (fatal_class message) (opening_moved a previous moved) (moved_other a previous moved)
opening_other a opener previous (GotXsmp message) = (ice_other (IceError (out_of_place a.offending)), tt)
opening_other a opener previous Stray = (ice_other (IceError (out_of_place a.offending)), tt)
opening_other a opener previous Unspelled = tt

joined_other : (a : Arrival) (joined : Joined) (c : ClientState) (moved : OpenMoved) → SaysOther (joined_moved a joined c moved)
joined_other a joined c (Goes opener answer) = answer_other answer
joined_other a joined c (Ends answer) = answer_other answer

speaking_other : (a : Arrival) (joined : Joined) (c : ClientState) (received : Received) → SaysOther (speaking_heard a joined c received)
speaking_other a joined c (GotIce message) =
    let moved : OpenMoved = opened (AtJoined joined) message a.offending.sequence in
    fatal_other a (fatal_class message) (joined_moved a joined c moved) (joined_other a joined c moved)
speaking_other a joined c (GotXsmp message) = given_other a joined (taken message c) message c
speaking_other a joined c Stray = (ice_other (IceError (out_of_place a.offending)), tt)
speaking_other a joined c Unspelled = tt

frame_other : (counts : Counts) (frame : WholeFrame) (place : Place) → SaysOther (frame_heard counts frame place)
frame_other counts frame (Opening opener previous) = opening_other (arrived counts frame.bytes) opener previous (received_of None frame)
frame_other counts frame (Speaking joined c) = speaking_other (arrived counts frame.bytes) joined c (received_of (Some joined.opcode) frame)
frame_other counts frame Stopped = tt

header_other : (counts : Counts) (place : Place) → SaysOther (oversize_heard counts place)
header_other counts (Opening opener previous) = tt
header_other counts (Speaking joined c) = tt
header_other counts Stopped = tt

part_other : (talk : Talk) (part : Part) → SaysOther (part_heard talk part)
part_other talk (Whole frame) = frame_other talk.counts frame talk.place
part_other talk (TooMuch header) = header_other talk.counts talk.place

-- ---- a piece

reacts_other : (keeper : Keeper) (heard : Heard) (r : Unit {0}) → SaysOther heard → AreOther (reacts keeper heard r).line
reacts_other keeper heard r other =
    let at : Keeper = record keeper { talk = heard.next } in
    both_other (map sends heard.said) (heeded at heard.cue).line other (heeded_other at heard.cue)

parts_other : (keeper : Keeper) (parts : List Part) (rs : List (Unit {0})) → AreOther (parts_taken tt talk_of reacts keeper parts rs).line
parts_other keeper [] rs = tt
parts_other keeper (part ∷ parts) rs =
    let r : Unit {0} = reply tt talk_of reacts rs in
    let first : Step Keeper AgentAct = part_taken tt talk_of reacts keeper part r in
    both_other first.line (parts_taken tt talk_of reacts first.next parts (drop 1 rs)).line (reacts_other keeper (part_heard keeper.talk part) r (part_other keeper.talk part)) (parts_other first.next parts (drop 1 rs))

pub no_success : PiecesBringNoSuccess
no_success run bytes = parts_other run.keeper (parts_at (fed run.standing bytes)) []
