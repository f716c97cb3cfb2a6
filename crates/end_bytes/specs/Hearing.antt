-- What the manager does about a frame of a client, told by the message that the frame spells.
use Rattle.std.specs.Prelude.{Some, true, ℕ, ◌≡◌, ◌≢◌}
use Rattle.std.specs.List.{AllByRecursion}
use Rattle.ice_values.specs.declared.class.ErrorClass.TheVariants.{BadMajor}
use Rattle.ice_values.specs.declared.numbers.Endian.TheVariants.{Lsb}
use Rattle.ice_messages.specs.Messages.{IsMessage as IsIceMessage}
use Rattle.ice_messages.specs.declared.message.IceMessage.{IceMessage}
use Rattle.ice_messages.specs.declared.message.IceMessage.TheVariants.{ByteOrder, Error}
use Rattle.ice_setup.specs.Errors.{opcode_values}
use Rattle.ice_setup.specs.Setup.{refusal}
use Rattle.ice_setup.specs.declared.states.AnySetup.{AnySetup}
use Rattle.ice_setup.specs.declared.states.AnySetup.TheVariants.{AwaitOrder as AtOrder, AwaitProtocol as AtProtocol, Ready as AtReady}
use Rattle.ice_setup.specs.declared.states.AwaitOrder.{AwaitOrder}
use Rattle.ice_setup.specs.declared.states.AwaitProtocol.{AwaitProtocol}
use Rattle.ice_setup.specs.declared.states.Ready.{Ready}
use Rattle.xsmp_messages.specs.Messages.{IsMessage, minor_of}
use Rattle.xsmp_messages.specs.declared.message.XsmpMessage.{XsmpMessage}
use Rattle.protocol_messages.specs.Messages.{spelled_under}
use Rattle.protocol_messages.specs.declared.message.Message.{Message}
use Rattle.protocol_messages.specs.declared.message.Message.TheVariants.{Ice, Xsmp}
use Rattle.session_engine.specs.Answers.{is_ordered, message_outcome, named_in, outcome, staying}
use Rattle.session_engine.specs.Outcomes.{Speaks}
use Rattle.message_streams.specs.Streams.{part_of}
use Rattle.end_schedules.specs.Pairs.{InEveryPair}

-- it isn't an Error, whose minor opcode is 0
abbrev pub IsNoError : XsmpMessage → Type 0
IsNoError m = minor_of m ≢ 0

-- XSMP has ended on the connection, or hasn't begun: the Error about a frame of it, which names the frame's own opcode
abbrev pub bad_major : AwaitProtocol → ℕ → ℕ → XsmpMessage → Message
bad_major s sequence opcode m = Ice (Error (refusal (AtProtocol s) BadMajor (named_in (spelled_under opcode (Xsmp m)) sequence) (opcode_values opcode)))

-- What the frame with this number brings that is of a message. Of XSMP: the session is told of it, as long as XSMP is spoken under the
-- client's opcode, and else it is refused. Of ICE: what the set-up's table says, of the first frame as of the others.
pub record ManagersHearMessages : Type 0 where
  pub speaks : (s : Ready) (sequence : ℕ) (m : XsmpMessage) → s.opcode ≢ 0 → IsMessage m → IsNoError m → outcome (AtReady s) sequence (part_of s.opcode (Xsmp m)) ≡ record { setup = AtReady s; answer = Speaks m sequence (spelled_under s.opcode (Xsmp m)) }
  pub refuses : (s : AwaitProtocol) (sequence opcode : ℕ) (m : XsmpMessage) → opcode ≢ 0 → IsNoError m → outcome (AtProtocol s) sequence (part_of opcode (Xsmp m)) ≡ staying (AtProtocol s) (Some (bad_major s sequence opcode m))
  pub begins : (s : AwaitOrder) (sequence opcode : ℕ) → outcome (AtOrder s) sequence (part_of opcode (Ice (ByteOrder Lsb))) ≡ message_outcome (AtOrder s) (ByteOrder Lsb) sequence
  pub follows : (setup : AnySetup) (sequence opcode : ℕ) (m : IceMessage) → is_ordered setup ≡ true → IsIceMessage m → outcome setup sequence (part_of opcode (Ice m)) ≡ message_outcome setup m sequence

-- What waits for the manager of a pair is no Error, after every schedule.
abbrev pub ClientsSayNoError : Type 0
ClientsSayNoError = InEveryPair (λ c p. AllByRecursion IsNoError p.up)
