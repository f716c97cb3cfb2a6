-- What a part of the manager's stream brings: either messages that the client says by itself, or a cue for its keeper.
use Rattle.std.specs.Prelude.{ℕ, ◌+◌, ◌%◌, ◌^◌, ◌-◌, min, List, [], ◌∷◌, ◌++◌, length, slice_index, Option, None, Some}
use Rattle.ice_values.specs.Fields.{ErrorFields}
use Rattle.ice_values.specs.declared.class.ErrorClass.TheVariants.{BadState}
use Rattle.ice_values.specs.declared.severity.Severity.{Severity}
use Rattle.ice_values.specs.declared.severity.Severity.TheVariants.{CanContinue}
use Rattle.ice_framing.specs.Parts.{Part, Whole, TooMuch}
use Rattle.ice_framing.specs.declared.cutting.WholeFrame.{WholeFrame}
use Rattle.ice_messages.specs.declared.message.IceMessage.{IceMessage}
use Rattle.ice_messages.specs.declared.message.IceMessage.TheVariants.{Error as IceError}
use Rattle.ice_setup.specs.Errors.{blame}
use Rattle.ice_setup.specs.Opener.{opened}
use Rattle.ice_setup.specs.declared.errors.Offending.{Offending}
use Rattle.ice_setup.specs.declared.opener.AnyOpener.{AnyOpener}
use Rattle.ice_setup.specs.declared.opener.AnyOpener.TheVariants.{Joined as AtJoined}
use Rattle.ice_setup.specs.declared.opener.Joined.{Joined}
use Rattle.ice_setup.specs.declared.opener.OpenMoved.{OpenMoved}
use Rattle.ice_setup.specs.declared.opener.OpenMoved.TheVariants.{Goes, Ends}
use Rattle.xsmp_messages.specs.declared.message.XsmpMessage.TheVariants.{Error as XsmpError, RegisterClient}
use Rattle.client_machine.specs.Phases.{ClientState}
use Rattle.client_machine.specs.Saves.{first_ask}
use Rattle.client_machine.specs.Taking.{act_taken, taken}
use Rattle.client_machine.specs.declared.acts.ClientAct.{ClientAct}
use Rattle.client_machine.specs.declared.acts.ClientAct.TheVariants.{Nothing as HasNothing, Registered as HasId, Again, Save as IsAsked, Die as IsTold, Cancelled as WasCancelled, Complete as AllSaved, Properties as HasProperties, Refused as WasRefused, Unexpected}
use Rattle.client_machine.specs.declared.phase.ClientPhase.TheVariants.{Registering}
use Rattle.client_engine.specs.Messages.{answer_of}
use Rattle.client_engine.specs.Received.{received_of}
use Rattle.client_engine.specs.declared.hearing.Cue.{Cue}
use Rattle.client_engine.specs.declared.hearing.Cue.TheVariants.{Nothing, Registered, Save, Cancelled, Complete, Die, Properties, Refused, Malformed}
use Rattle.client_engine.specs.declared.hearing.Heard.{Heard}
use Rattle.protocol_messages.specs.declared.message.Message.{Message}
use Rattle.protocol_messages.specs.declared.message.Message.TheVariants.{Ice, Xsmp}
use Rattle.client_engine.specs.declared.place.Arrival.{Arrival}
use Rattle.client_engine.specs.declared.place.Counts.{Counts}
use Rattle.client_engine.specs.declared.place.Place.{Place}
use Rattle.client_engine.specs.declared.place.Place.TheVariants.{Opening, Speaking, Stopped}
use Rattle.client_engine.specs.declared.place.Talk.{Talk}
use Rattle.client_engine.specs.declared.received.Received.{Received}
use Rattle.client_engine.specs.declared.received.Received.TheVariants.{Ice as GotIce, Xsmp as GotXsmp, Stray, Unspelled}

-- These messages are said, and the client stands there then. Nothing is left to its keeper.
abbrev pub saying : List Message → Counts → Place → Heard
saying said counts place = record { said = said; cue = Nothing; next = record { place = place; counts = counts } }

-- This is left to the client's keeper. Nothing is said.
abbrev pub cueing : Cue → Counts → Place → Heard
cueing cue counts place = record { said = []; cue = cue; next = record { place = place; counts = counts } }

-- a message that has no place: the Error can be continued after
abbrev pub out_of_place : Offending → ErrorFields
out_of_place offending = blame CanContinue BadState offending []

-- ---- a frame that came

-- the number of the next frame; after 4,294,967,295 comes 0
abbrev pub sequence_after : ℕ → ℕ
sequence_after sequence = (sequence + 1) % 2 ^ 32

-- the place behind so many bytes, up to the largest that is told
abbrev pub place_after : ℕ → ℕ → ℕ
place_after at count = min (at + count) (2 ^ 64 - 1)

abbrev pub arrived : Counts → List ℕ → Arrival
arrived counts bytes = record {
  at = counts.at;
  offending = record { minor = slice_index bytes 1; sequence = sequence_after counts.sequence };
  counts = record { sequence = sequence_after counts.sequence; at = place_after counts.at (length bytes) };
}

-- ---- a message of ICE

-- an Error that is fatal
abbrev pub fatal_by : Severity → ℕ → Option ℕ
fatal_by CanContinue class = None
fatal_by severity class = Some class

abbrev pub fatal_class : IceMessage → Option ℕ
fatal_class (IceError error) = fatal_by error.severity error.class
fatal_class message = None

-- a client that registers with the ID that it had, or with none
abbrev pub registering : List ℕ → ClientState
registering previous = record { phase = Registering; id = previous; asked = first_ask }

-- the set-up goes on; once the client has joined it registers
abbrev pub opening_at : Arrival → List ℕ → AnyOpener → List Message → Heard
opening_at a previous (AtJoined joined) said = saying (said ++ Xsmp (RegisterClient previous) ∷ []) a.counts (Speaking joined (registering previous))
opening_at a previous opener said = saying said a.counts (Opening opener previous)

abbrev pub opening_moved : Arrival → List ℕ → OpenMoved → Heard
opening_moved a previous (Goes opener answer) = opening_at a previous opener (answer_of answer)
opening_moved a previous (Ends answer) = saying (answer_of answer) a.counts Stopped

-- once the client has joined, ICE leaves it where it stands, or ends it
abbrev pub joined_moved : Arrival → Joined → ClientState → OpenMoved → Heard
joined_moved a joined c (Goes opener answer) = saying (answer_of answer) a.counts (Speaking joined c)
joined_moved a joined c (Ends answer) = saying (answer_of answer) a.counts Stopped

-- a fatal Error ends the client without an answer
abbrev pub unless_fatal : Arrival → Option ℕ → Heard → Heard
unless_fatal a None heard = heard
unless_fatal a (Some class) heard = cueing (Refused class) a.counts Stopped

-- ---- a message of XSMP

-- what an act is to the client's keeper; one who is told to die takes nothing more
abbrev pub acted : Arrival → Joined → ClientState → ClientAct → Heard
acted a joined c HasNothing = saying [] a.counts (Speaking joined c)
acted a joined c (HasId id) = cueing (Registered id) a.counts (Speaking joined c)
acted a joined c (Again message) = saying (Xsmp message ∷ []) a.counts (Speaking joined c)
acted a joined c (IsAsked ask) = cueing (Save ask) a.counts (Speaking joined c)
acted a joined c IsTold = cueing Die a.counts Stopped
acted a joined c WasCancelled = cueing Cancelled a.counts (Speaking joined c)
acted a joined c AllSaved = cueing Complete a.counts (Speaking joined c)
acted a joined c (HasProperties list) = cueing (Properties list) a.counts (Speaking joined c)
acted a joined c (WasRefused class) = cueing (Refused class) a.counts Stopped
acted a joined c Unexpected = saying (Xsmp (XsmpError (out_of_place a.offending)) ∷ []) a.counts (Speaking joined c)

-- ---- a part of the stream

-- a message of XSMP under an opcode that nobody has
abbrev pub stray : Arrival → Place → Heard
stray a place = saying (Ice (IceError (out_of_place a.offending)) ∷ []) a.counts place

-- while the connection is set up
abbrev pub opening_heard : Arrival → AnyOpener → List ℕ → Received → Heard
opening_heard a opener previous (GotIce message) = unless_fatal a (fatal_class message) (opening_moved a previous (opened opener message a.offending.sequence))
opening_heard a opener previous (GotXsmp message) = stray a (Opening opener previous)
opening_heard a opener previous Stray = stray a (Opening opener previous)
opening_heard a opener previous Unspelled = cueing (Malformed a.at) a.counts Stopped

-- once the client has joined
abbrev pub speaking_heard : Arrival → Joined → ClientState → Received → Heard
speaking_heard a joined c (GotIce message) = unless_fatal a (fatal_class message) (joined_moved a joined c (opened (AtJoined joined) message a.offending.sequence))
speaking_heard a joined c (GotXsmp message) = acted a joined (taken message c) (act_taken message c)
speaking_heard a joined c Stray = stray a (Speaking joined c)
speaking_heard a joined c Unspelled = cueing (Malformed a.at) a.counts Stopped

-- a whole frame; one who has stopped takes none
abbrev pub frame_heard : Counts → WholeFrame → Place → Heard
frame_heard counts frame (Opening opener previous) = opening_heard (arrived counts frame.bytes) opener previous (received_of None frame)
frame_heard counts frame (Speaking joined c) = speaking_heard (arrived counts frame.bytes) joined c (received_of (Some joined.opcode) frame)
frame_heard counts frame Stopped = saying [] counts Stopped

-- the header of a frame that states too much, where frames are taken
abbrev pub oversize_heard : Counts → Place → Heard
oversize_heard counts (Opening opener previous) = cueing (Malformed counts.at) counts Stopped
oversize_heard counts (Speaking joined c) = cueing (Malformed counts.at) counts Stopped
oversize_heard counts Stopped = saying [] counts Stopped

-- The whole of it: what a part of the stream brings a client that stands there.
abbrev pub part_heard : Talk → Part → Heard
part_heard talk (Whole frame) = frame_heard talk.counts frame talk.place
part_heard talk (TooMuch header) = oversize_heard talk.counts talk.place
