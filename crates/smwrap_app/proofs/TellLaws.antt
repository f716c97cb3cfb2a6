-- A client says of saves what its callback answers.
use Rattle.std.proofs.Common.{◌≡◌, ℕ, cond, Bool, true, false, List, [], ◌∷◌, ◌++◌, map, drop, Option, None, Some, refl, sym, ◌∙◌, ap, append-nil}
use Rattle.std.specs.List.{flat_map}
use Rattle.std.proofs.lemmas.Grind.{flat_map-append}
use Rattle.ice_framing.specs.Frames.{fed}
use Rattle.ice_framing.specs.Parts.{Part, Whole, TooMuch, parts_at}
use Rattle.ice_framing.specs.declared.cutting.WholeFrame.{WholeFrame}
use Rattle.ice_messages.specs.declared.message.IceMessage.{IceMessage}
use Rattle.ice_setup.specs.Opener.{opened}
use Rattle.ice_setup.specs.declared.opener.AnyOpener.{AnyOpener}
use Rattle.ice_setup.specs.declared.opener.AnyOpener.TheVariants.{Joined as AtJoined}
use Rattle.ice_setup.specs.declared.opener.Joined.{Joined}
use Rattle.ice_setup.specs.declared.opener.OpenMoved.{OpenMoved}
use Rattle.ice_setup.specs.declared.opener.OpenMoved.TheVariants.{Goes, Ends}
use Rattle.ice_values.specs.Fields.{ErrorFields}
use Rattle.ice_values.specs.declared.severity.Severity.{Severity}
use Rattle.ice_values.specs.declared.severity.Severity.TheVariants.{CanContinue}
use Rattle.xsmp_messages.specs.declared.message.XsmpMessage.{XsmpMessage}
use Rattle.xsmp_messages.specs.declared.message.XsmpMessage.TheVariants.{Die as ToldToDie, Error, GetPropertiesReply, Interact, RegisterClient, RegisterClientReply, SaveComplete, SaveYourself, SaveYourselfPhase2, ShutdownCancelled}
use Rattle.client_machine.specs.Phases.{ClientState, is_done, is_member, is_owing, is_registered, is_registering, is_resting}
use Rattle.client_machine.specs.Saves.{at_stage}
use Rattle.client_machine.specs.Taking.{act_taken, blamed_act, registers_again, second_act, taken, talk_act}
use Rattle.client_machine.specs.declared.acts.ClientAct.{ClientAct}
use Rattle.client_machine.specs.declared.acts.ClientAct.TheVariants.{Nothing as HasNothing, Registered as HasId, Again, Save as IsAsked, Die as IsTold, Cancelled as WasCancelled, Complete as AllSaved, Properties as HasProperties, Unexpected}
use Rattle.client_machine.specs.declared.phase.ClientPhase.{ClientPhase}
use Rattle.client_machine.specs.declared.phase.ClientPhase.TheVariants.{Asked, AskedTwo, WantsTwo}
use Rattle.client_machine.specs.declared.saves.SaveAnswer.{SaveAnswer}
use Rattle.client_machine.specs.declared.saves.SaveAsk.{SaveAsk}
use Rattle.client_machine.specs.declared.saves.Stage.{Stage}
use Rattle.client_machine.specs.declared.saves.Stage.TheVariants.{First}
use Rattle.client_engine.specs.Answering.{answer_messages, owed_messages}
use Rattle.client_engine.specs.Driving.{Step}
use Rattle.client_engine.specs.Hearing.{acted, arrived, fatal_class, frame_heard, joined_moved, opening_at, opening_heard, opening_moved, oversize_heard, part_heard, speaking_heard, unless_fatal}
use Rattle.client_engine.specs.Messages.{answer_of}
use Rattle.client_engine.specs.Places.{phase_at}
use Rattle.client_engine.specs.Received.{received_of}
use Rattle.client_engine.specs.declared.hearing.Cue.{Cue}
use Rattle.client_engine.specs.declared.hearing.Cue.TheVariants.{Nothing, Registered, Save, Cancelled, Complete, Die, Properties, Refused, Malformed}
use Rattle.client_engine.specs.declared.hearing.Heard.{Heard}
use Rattle.protocol_messages.specs.declared.message.Message.{Message}
use Rattle.protocol_messages.specs.declared.message.Message.TheVariants.{Xsmp}
use Rattle.client_engine.specs.declared.place.Arrival.{Arrival}
use Rattle.client_engine.specs.declared.place.Counts.{Counts}
use Rattle.client_engine.specs.declared.place.Place.{Place}
use Rattle.client_engine.specs.declared.place.Place.TheVariants.{Opening, Speaking, Stopped}
use Rattle.client_engine.specs.declared.place.Talk.{Talk}
use Rattle.client_engine.specs.declared.received.Received.{Received}
use Rattle.client_engine.specs.declared.received.Received.TheVariants.{Ice as GotIce, Xsmp as GotXsmp, Stray, Unspelled}
use Rattle.named_joiner.specs.Script.{Entry, Keeper, Replies, Says, answered, answered_again, cued, died, next_stage, reacts, start}
use Rattle.smwrap_app.specs.Copies.{TellsWhatItAnswers, asked_tells, said_tells, tells}
use Rattle.smwrap_app.proofs.ScriptLaws.{first_reply, taken_by}

-- ---- what the client says by itself

abbrev IsQuiet : List Message → Type 0
IsQuiet messages = flat_map tells messages ≡ []

quiet_answer : (answer : Option IceMessage) → IsQuiet (answer_of answer)
quiet_answer None = refl
quiet_answer (Some message) = refl

quiet_both : (xs ys : List Message) → IsQuiet xs → IsQuiet ys → IsQuiet (xs ++ ys)
quiet_both xs ys one two = flat_map-append tells xs ys ∙ (ap (λ (ms : List XsmpMessage). ms ++ flat_map tells ys) one ∙ two)

quiet_at : (a : Arrival) (previous : List ℕ) (opener : AnyOpener) (said : List Message) → IsQuiet said → IsQuiet (opening_at a previous opener said).said
quiet_at a previous (AtJoined joined) said quiet = quiet_both said (Xsmp (RegisterClient previous) ∷ []) quiet refl
quiet_at a previous opener said quiet = quiet

quiet_moved : (a : Arrival) (previous : List ℕ) (moved : OpenMoved) → IsQuiet (opening_moved a previous moved).said
quiet_moved a previous (Goes opener answer) = quiet_at a previous opener (answer_of answer) (quiet_answer answer)
quiet_moved a previous (Ends answer) = quiet_answer answer

quiet_joined : (a : Arrival) (joined : Joined) (c : ClientState) (moved : OpenMoved) → IsQuiet (joined_moved a joined c moved).said
quiet_joined a joined c (Goes opener answer) = quiet_answer answer
quiet_joined a joined c (Ends answer) = quiet_answer answer

quiet_fatal : (a : Arrival) (class : Option ℕ) (heard : Heard) → IsQuiet heard.said → IsQuiet (unless_fatal a class heard).said
quiet_fatal a None heard quiet = quiet
quiet_fatal a (Some class) heard quiet = refl

-- an act repeats nothing of a save
abbrev IsMild : ClientAct → Type 0
IsMild (Again message) = IsQuiet (Xsmp message ∷ [])
IsMild act = Unit {0}

mild_cond : (b : Bool) (x y : ClientAct) → IsMild x → IsMild y → IsMild (cond b x y)
mild_cond true x y one two = one
mild_cond false x y one two = two

mild_blamed : (severity : Severity) (error : ErrorFields) (c : ClientState) → IsMild (blamed_act severity error c)
mild_blamed CanContinue error c = mild_cond (registers_again error c) (Again (RegisterClient [])) HasNothing refl tt
mild_blamed severity error c = tt

mild_talk : (phase : ClientPhase) (asked : SaveAsk) → IsMild (talk_act phase asked)
mild_talk Asked asked = tt
mild_talk AskedTwo asked = tt
mild_talk phase asked = tt

mild_second : (phase : ClientPhase) (asked : SaveAsk) → IsMild (second_act phase asked)
mild_second WantsTwo asked = tt
mild_second phase asked = tt

mild_taken : (m : XsmpMessage) (c : ClientState) → IsMild (act_taken m c)
mild_taken (Error error) c = mild_blamed error.severity error c
mild_taken (RegisterClientReply id) c = mild_cond (is_registering c.phase) (HasId id) Unexpected tt tt
mild_taken (SaveYourself kind shutdown style fast) c = mild_cond (is_resting c.phase) (IsAsked (record { stage = First; kind = kind; shutdown = shutdown; style = style; fast = fast })) Unexpected tt tt
mild_taken Interact c = mild_talk c.phase c.asked
mild_taken SaveYourselfPhase2 c = mild_second c.phase c.asked
mild_taken SaveComplete c = mild_cond (is_done c.phase) AllSaved HasNothing tt tt
mild_taken ShutdownCancelled c = mild_cond (is_member c.phase) WasCancelled HasNothing tt tt
mild_taken ToldToDie c = mild_cond (is_resting c.phase) IsTold Unexpected tt tt
mild_taken (GetPropertiesReply list) c = mild_cond (is_registered c.phase) (HasProperties list) Unexpected tt tt
mild_taken m c = tt

quiet_acted : (a : Arrival) (joined : Joined) (c : ClientState) (act : ClientAct) → IsMild act → IsQuiet (acted a joined c act).said
quiet_acted a joined c (Again message) mild = mild
quiet_acted a joined c act mild = refl

quiet_opening : (a : Arrival) (opener : AnyOpener) (previous : List ℕ) (got : Received) → IsQuiet (opening_heard a opener previous got).said
quiet_opening a opener previous (GotIce message) = quiet_fatal a (fatal_class message) (opening_moved a previous (opened opener message a.offending.sequence)) (quiet_moved a previous (opened opener message a.offending.sequence))
quiet_opening a opener previous (GotXsmp message) = refl
quiet_opening a opener previous Stray = refl
quiet_opening a opener previous Unspelled = refl

quiet_speaking : (a : Arrival) (joined : Joined) (c : ClientState) (got : Received) → IsQuiet (speaking_heard a joined c got).said
quiet_speaking a joined c (GotIce message) = quiet_fatal a (fatal_class message) (joined_moved a joined c (opened (AtJoined joined) message a.offending.sequence)) (quiet_joined a joined c (opened (AtJoined joined) message a.offending.sequence))
quiet_speaking a joined c (GotXsmp message) = quiet_acted a joined (taken message c) (act_taken message c) (mild_taken message c)
quiet_speaking a joined c Stray = refl
quiet_speaking a joined c Unspelled = refl

quiet_frame : (counts : Counts) (frame : WholeFrame) (place : Place) → IsQuiet (frame_heard counts frame place).said
quiet_frame counts frame (Opening opener previous) = quiet_opening (arrived counts frame.bytes) opener previous (received_of None frame)
quiet_frame counts frame (Speaking joined c) = quiet_speaking (arrived counts frame.bytes) joined c (received_of (Some joined.opcode) frame)
quiet_frame counts frame Stopped = refl

quiet_header : (counts : Counts) (place : Place) → IsQuiet (oversize_heard counts place).said
quiet_header counts (Opening opener previous) = refl
quiet_header counts (Speaking joined c) = refl
quiet_header counts Stopped = refl

quiet_part : (talk : Talk) (part : Part) → IsQuiet (part_heard talk part).said
quiet_part talk (Whole frame) = quiet_frame talk.counts frame talk.place
quiet_part talk (TooMuch header) = quiet_header talk.counts talk.place

-- ---- what it does

abbrev Agrees : List Entry → Type 0
Agrees line = flat_map said_tells line ≡ flat_map asked_tells line

said-says : (messages : List Message) → flat_map said_tells (map Says messages) ≡ flat_map tells messages
said-says [] = refl
said-says (m ∷ messages) = ap (λ (ms : List XsmpMessage). tells m ++ ms) (said-says messages)

asked-says : (messages : List Message) → flat_map asked_tells (map Says messages) ≡ []
asked-says [] = refl
asked-says (m ∷ messages) = asked-says messages

agrees_both : (xs ys : List Entry) → Agrees xs → Agrees ys → Agrees (xs ++ ys)
agrees_both xs ys one two = flat_map-append said_tells xs ys ∙ (ap (λ (ms : List XsmpMessage). ms ++ flat_map said_tells ys) one ∙ (ap (λ (ms : List XsmpMessage). flat_map asked_tells xs ++ ms) two ∙ sym (flat_map-append asked_tells xs ys)))

agrees_quiet : (messages : List Message) → IsQuiet messages → Agrees (map Says messages)
agrees_quiet messages quiet = said-says messages ∙ (quiet ∙ sym (asked-says messages))

agrees_answered : (keeper : Keeper) (ask : SaveAsk) (answer : Option SaveAnswer) → Agrees (answered keeper ask answer).line
agrees_answered keeper ask None = refl
agrees_answered keeper ask (Some answer) =
    said-says (answer_messages answer) ∙ (sym (append-nil (flat_map tells (answer_messages answer))) ∙ ap (λ (ms : List XsmpMessage). flat_map tells (answer_messages answer) ++ ms) (sym (asked-says (answer_messages answer))))

agrees_again : (keeper : Keeper) (ask : SaveAsk) (answer : Option SaveAnswer) (stage : Option Stage) → Agrees (answered_again keeper ask answer stage).line
agrees_again keeper ask answer None = refl
agrees_again keeper ask answer (Some stage) = agrees_answered keeper (at_stage stage ask) answer

agrees_owed : (owing : Bool) → IsQuiet (owed_messages owing)
agrees_owed true = refl
agrees_owed false = refl

agrees_died : (keeper : Keeper) (reasons : Option (List (List ℕ))) → Agrees (died keeper reasons).line
agrees_died keeper None = refl
agrees_died keeper (Some reasons) = refl

agrees_cued : (keeper : Keeper) (r : Replies) (cue : Cue) → Agrees (cued keeper r cue).line
agrees_cued keeper r Nothing = refl
agrees_cued keeper r (Registered id) = refl
agrees_cued keeper r (Save ask) =
    let one : Step Keeper Entry = answered keeper ask r.first in
    agrees_both one.line (answered_again one.next ask r.again (next_stage r.first ask.stage)).line (agrees_answered keeper ask r.first) (agrees_again one.next ask r.again (next_stage r.first ask.stage))
agrees_cued keeper r Cancelled = agrees_quiet (owed_messages (is_owing (phase_at keeper.talk.place))) (agrees_owed (is_owing (phase_at keeper.talk.place)))
agrees_cued keeper r Complete = refl
agrees_cued keeper r Die = agrees_died keeper r.reasons
agrees_cued keeper r (Properties list) = refl
agrees_cued keeper r (Refused class) = refl
agrees_cued keeper r (Malformed at) = refl

agrees_part : (keeper : Keeper) (part : Part) (r : Replies) → Agrees (reacts keeper (part_heard keeper.talk part) r).line
agrees_part keeper part r =
    let heard : Heard = part_heard keeper.talk part in
    agrees_both (map Says heard.said) (cued (record keeper { talk = heard.next }) r heard.cue).line (agrees_quiet heard.said (quiet_part keeper.talk part)) (agrees_cued (record keeper { talk = heard.next }) r heard.cue)

agrees_parts : (keeper : Keeper) (parts : List Part) (rs : List Replies) → Agrees (taken_by keeper parts rs).line
agrees_parts keeper [] rs = refl
agrees_parts keeper (part ∷ parts) rs =
    let one : Step Keeper Entry = reacts keeper (part_heard keeper.talk part) (first_reply rs) in
    agrees_both one.line (taken_by one.next parts (drop 1 rs)).line (agrees_part keeper part (first_reply rs)) (agrees_parts one.next parts (drop 1 rs))

pub tells_answers : TellsWhatItAnswers
tells_answers cookie previous replies bytes = agrees_parts (start cookie previous).keeper (parts_at (fed (start cookie previous).standing bytes)) replies
