-- What each message asks of a client, and what the client is afterwards.
use Rattle.std.specs.Prelude.{Bool, List, [], cond, not, ℕ, ◌&&◌, ◌==◌}
use Rattle.ice_values.specs.Classes.{class_number}
use Rattle.ice_values.specs.Fields.{ErrorFields}
use Rattle.ice_values.specs.declared.class.ErrorClass.TheVariants.{BadValue}
use Rattle.ice_values.specs.declared.severity.Severity.{Severity}
use Rattle.ice_values.specs.declared.severity.Severity.TheVariants.{CanContinue}
use Rattle.xsmp_messages.specs.Messages.{minor_of}
use Rattle.xsmp_messages.specs.declared.message.XsmpMessage.{XsmpMessage}
use Rattle.xsmp_messages.specs.declared.message.XsmpMessage.TheVariants.{Die, Error, GetPropertiesReply, Interact, RegisterClient, RegisterClientReply, SaveComplete, SaveYourself, SaveYourselfPhase2, ShutdownCancelled}
use Rattle.round_agreement.specs.Agreement.{is_nil}
use Rattle.client_machine.specs.Phases.{ClientState, is_done, is_member, is_registered, is_registering, is_resting, phase_given}
use Rattle.client_machine.specs.Saves.{at_stage}
use Rattle.client_machine.specs.declared.acts.ClientAct.{ClientAct}
use Rattle.client_machine.specs.declared.acts.ClientAct.TheVariants.{Again, Cancelled, Complete, Die as ToDie, Nothing, Properties, Refused, Registered, Save, Unexpected}
use Rattle.client_machine.specs.declared.phase.ClientPhase.{ClientPhase}
use Rattle.client_machine.specs.declared.phase.ClientPhase.TheVariants.{Asked, AskedTwo, WantsTwo}
use Rattle.client_machine.specs.declared.saves.SaveAsk.{SaveAsk}
use Rattle.client_machine.specs.declared.saves.Stage.TheVariants.{First, Second, Talking, TalkingTwo}

-- the Error says that the manager has no use for the ID in a RegisterClient
abbrev pub is_bad_id : ErrorFields → Bool
is_bad_id error = (error.class == class_number BadValue) && (error.minor == minor_of (RegisterClient []))

-- A client that registers with a previous ID does so without one, where that ID is refused.
abbrev pub registers_again : ErrorFields → ClientState → Bool
registers_again error s = is_bad_id error && is_registering s.phase && not (is_nil s.id)

-- an Error, by its severity
abbrev pub blamed_act : Severity → ErrorFields → ClientState → ClientAct
blamed_act CanContinue error s = cond (registers_again error s) (Again (RegisterClient [])) Nothing
blamed_act severity error s = Refused error.class

-- the token: the client may talk to the user
abbrev pub talk_act : ClientPhase → SaveAsk → ClientAct
talk_act Asked asked = Save (at_stage Talking asked)
talk_act AskedTwo asked = Save (at_stage TalkingTwo asked)
talk_act phase asked = Unexpected

-- the second phase of the save
abbrev pub second_act : ClientPhase → SaveAsk → ClientAct
second_act WantsTwo asked = Save (at_stage Second asked)
second_act phase asked = Unexpected

-- What a message asks of the client. Whatever no line names has no place here.
abbrev pub act_taken : XsmpMessage → ClientState → ClientAct
act_taken (Error error) s = blamed_act error.severity error s
act_taken (RegisterClientReply id) s = cond (is_registering s.phase) (Registered id) Unexpected
act_taken (SaveYourself kind shutdown style fast) s = cond (is_resting s.phase) (Save (record { stage = First; kind = kind; shutdown = shutdown; style = style; fast = fast })) Unexpected
act_taken Interact s = talk_act s.phase s.asked
act_taken SaveYourselfPhase2 s = second_act s.phase s.asked
act_taken SaveComplete s = cond (is_done s.phase) Complete Nothing
act_taken ShutdownCancelled s = cond (is_member s.phase) Cancelled Nothing
act_taken Die s = cond (is_resting s.phase) ToDie Unexpected
act_taken (GetPropertiesReply list) s = cond (is_registered s.phase) (Properties list) Unexpected
act_taken m s = Unexpected

-- the ID after an act: the one that was given, or none where the previous one was refused
abbrev pub id_after : ClientAct → List ℕ → List ℕ
id_after (Registered id) old = id
id_after (Again m) old = []
id_after act old = old

-- the last save that the client was asked for, after an act
abbrev pub asked_after : ClientAct → SaveAsk → SaveAsk
asked_after (Save ask) old = ask
asked_after act old = old

-- the client after this message
abbrev pub taken : XsmpMessage → ClientState → ClientState
taken m s = record { phase = phase_given m s.phase; id = id_after (act_taken m s) s.id; asked = asked_after (act_taken m s) s.asked }
