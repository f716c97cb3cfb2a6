-- What one part of a stream brings: a whole frame, or the header of an oversize frame.
use Rattle.std.specs.Prelude.{ℕ, ◌+◌, ◌≤◌, length, ◌%◌, ◌^◌, Bool, true, false, List, [], drop, slice_index, Option, Some, None, Result, Ok, Err, ◌==◌, ◌&&◌, nat_lt, not, is_some, if◌then◌else◌}
use Rattle.std.specs.Option.{option_map}
use Rattle.ice_values.specs.Fields.{ErrorFields}
use Rattle.ice_values.specs.Numbers.{number}
use Rattle.ice_values.specs.declared.numbers.Endian.{Endian}
use Rattle.ice_values.specs.declared.numbers.Endian.TheVariants.{Lsb, Msb}
use Rattle.ice_values.specs.declared.severity.Severity.TheVariants.{CanContinue, FatalToConnection}
use Rattle.ice_values.specs.declared.refusals.DecodeRefusal.{DecodeRefusal}
use Rattle.ice_values.specs.declared.refusals.DecodeRefusal.TheVariants.{BadMinor, BadLength, BadValue, NoMemory}
use Rattle.ice_framing.specs.Parts.{Part, Whole, TooMuch}
use Rattle.ice_framing.specs.declared.cutting.WholeFrame.{WholeFrame}
use Rattle.ice_messages.specs.Reading.{decode_at}
use Rattle.ice_messages.specs.declared.message.IceMessage.{IceMessage}
use Rattle.ice_messages.specs.declared.message.IceMessage.TheVariants.{Error, ByteOrder}
use Rattle.ice_values.specs.declared.class.ErrorClass.{ErrorClass}
use Rattle.ice_values.specs.declared.class.ErrorClass.TheVariants.{BadState, BadMajor, BadMinor as NoMinor, BadLength as NoLength, BadValue as NoValue}
use Rattle.ice_setup.specs.Errors.{blame, opcode_values, wrong_byte}
use Rattle.ice_setup.specs.Setup.{moved, refusal, connected, endian_of, opcode_of, unset}
use Rattle.ice_setup.specs.declared.errors.Offending.{Offending}
use Rattle.ice_setup.specs.declared.states.AwaitOrder.{AwaitOrder}
use Rattle.ice_setup.specs.declared.states.AnySetup.{AnySetup}
use Rattle.ice_setup.specs.declared.states.AnySetup.TheVariants.{AwaitOrder as AtOrder, AwaitProtocol as AtProtocol, Ready as AtReady}
use Rattle.ice_setup.specs.declared.states.Moved.{Moved}
use Rattle.ice_setup.specs.declared.states.Moved.TheVariants.{Goes, Ends, Close, Ask}
use Rattle.xsmp_messages.specs.Messages.{Spells}
use Rattle.xsmp_messages.specs.Reading.{decode_at as xsmp_at}
use Rattle.xsmp_messages.specs.declared.message.XsmpMessage.{XsmpMessage}
use Rattle.xsmp_messages.specs.declared.message.XsmpMessage.TheVariants.{Error as XsmpError}
use Rattle.protocol_messages.specs.declared.message.Message.{Message}
use Rattle.protocol_messages.specs.declared.message.Message.TheVariants.{Ice, Xsmp}
use Rattle.session_engine.specs.Outcomes.{Answer, Outcome, Stays, Begins, Closes, Speaks, Asks}

-- what an Error names of a frame
abbrev pub named_in : List ℕ → ℕ → Offending
named_in bytes sequence = record { minor = slice_index bytes 1; sequence = sequence }

-- the order that byte 2 of the first frame states
abbrev pub stated_order : List ℕ → Endian
stated_order bytes = if slice_index bytes 2 == 1 then Msb else Lsb

-- the connection goes on from here, and the message, if any, goes back
abbrev pub staying : AnySetup → Option Message → Outcome
staying setup message = record { setup = setup; answer = Stays message }

-- the message, if any, goes back, and XSMP has begun on the connection
abbrev pub beginning_xsmp : AnySetup → Option Message → Outcome
beginning_xsmp setup message = record { setup = setup; answer = Begins message }

-- the message, if any, goes back, and the connection is closed
abbrev pub closing : AnySetup → Option Message → Outcome
closing setup message = record { setup = setup; answer = Closes message }

-- A frame is refused: before ConnectionReply was sent that closes the connection.
abbrev pub refused : AnySetup → ErrorClass → Offending → List ℕ → Outcome
refused setup class offending values =
    if connected setup then staying setup (Some (Ice (Error (refusal setup class offending values))))
    else closing setup (Some (Ice (Error (refusal setup class offending values))))

-- XSMP is spoken on the connection
abbrev pub speaks_xsmp : AnySetup → Bool
speaks_xsmp setup = is_some (opcode_of setup)

-- the set-up once XSMP has ended on the connection: a ProtocolSetup is awaited again
abbrev pub without_xsmp : AnySetup → AnySetup
without_xsmp (AtReady s) = AtProtocol (unset s)
without_xsmp setup = setup

-- the connection goes on from here; where XSMP is spoken and wasn't before, it has begun
abbrev pub going : Bool → AnySetup → Option Message → Outcome
going true setup message = beginning_xsmp setup message
going false setup message = staying setup message

-- A client that wants to close is closed, or the session decides that where it speaks XSMP.
abbrev pub outcome_of : AnySetup → Moved → Outcome
outcome_of before (Goes setup message) = going (speaks_xsmp setup && not (speaks_xsmp before)) setup (option_map Ice message)
outcome_of before (Ends message) = closing before (option_map Ice message)
outcome_of before Close = closing before None
outcome_of before (Ask setup) = record { setup = before; answer = Asks }

-- what a message of ICE brings
abbrev pub message_outcome : AnySetup → IceMessage → ℕ → Outcome
message_outcome setup message sequence = outcome_of setup (moved setup message sequence)

-- The first frame is looked at byte by byte: it is ByteOrder, without a body, of an order with a meaning.
abbrev pub first_outcome : AwaitOrder → ℕ → List ℕ → Outcome
first_outcome s sequence bytes =
    if not (slice_index bytes 0 == 0 && slice_index bytes 1 == 1) then refused (AtOrder s) BadState (named_in bytes sequence) []
    else if not (number Lsb 4 (drop 4 bytes) == 0) then refused (AtOrder s) NoLength (named_in bytes sequence) []
    else if nat_lt 1 (slice_index bytes 2) then refused (AtOrder s) NoValue (named_in bytes sequence) (wrong_byte 2 bytes)
    else message_outcome (AtOrder s) (ByteOrder (stated_order bytes)) sequence

-- what reading a frame gave; reading as such wants no memory
abbrev pub read_outcome : AnySetup → ℕ → List ℕ → Result IceMessage DecodeRefusal → Outcome
read_outcome setup sequence bytes (Ok message) = message_outcome setup message sequence
read_outcome setup sequence bytes (Err BadMinor) = refused setup NoMinor (named_in bytes sequence) []
read_outcome setup sequence bytes (Err BadLength) = refused setup NoLength (named_in bytes sequence) []
read_outcome setup sequence bytes (Err (BadValue at len)) = refused setup NoValue (named_in bytes sequence) (wrong_byte at bytes)
read_outcome setup sequence bytes (Err NoMemory) = closing setup None

-- the client's messages of XSMP have this major opcode
abbrev pub is_opcode : Option ℕ → ℕ → Bool
is_opcode None opcode = false
is_opcode (Some own) opcode = own == opcode

-- A message of XSMP is refused: its Error can be continued after.
abbrev pub refused_xsmp : AnySetup → ErrorClass → Offending → List ℕ → Outcome
refused_xsmp setup class offending values = staying setup (Some (Xsmp (XsmpError (blame CanContinue class offending values))))

-- What reading a frame of the client's opcode gave: the session hears the message, with its number and the whole frame.
abbrev pub xsmp_outcome : AnySetup → ℕ → List ℕ → Result XsmpMessage DecodeRefusal → Outcome
xsmp_outcome setup sequence bytes (Ok message) = record { setup = setup; answer = Speaks message sequence bytes }
xsmp_outcome setup sequence bytes (Err BadMinor) = refused_xsmp setup NoMinor (named_in bytes sequence) []
xsmp_outcome setup sequence bytes (Err BadLength) = refused_xsmp setup NoLength (named_in bytes sequence) []
xsmp_outcome setup sequence bytes (Err (BadValue at len)) = refused_xsmp setup NoValue (named_in bytes sequence) (wrong_byte at bytes)
xsmp_outcome setup sequence bytes (Err NoMemory) = closing setup None

-- A later frame: with minor opcode 0 it is taken silently, whatever else it is; then its major opcode is looked at, and then
-- what it spells.
abbrev pub later_outcome : AnySetup → ℕ → Endian → List ℕ → Outcome
later_outcome setup sequence e bytes =
    if slice_index bytes 1 == 0 then staying setup None
    else if slice_index bytes 0 == 0 then read_outcome setup sequence bytes (decode_at e bytes)
    else if is_opcode (opcode_of setup) (slice_index bytes 0) then xsmp_outcome setup sequence bytes (xsmp_at e bytes)
    else refused setup BadMajor (named_in bytes sequence) (opcode_values (slice_index bytes 0))

abbrev pub frame_outcome : AnySetup → ℕ → WholeFrame → Outcome
frame_outcome (AtOrder s) sequence frame = first_outcome s sequence frame.bytes
frame_outcome setup sequence frame = later_outcome setup sequence frame.endian frame.bytes

-- an Error about a header: of XSMP where the client's messages of XSMP have its major opcode, and else of ICE
abbrev pub error_about : Bool → ErrorFields → Message
error_about true error = Xsmp (XsmpError error)
error_about false error = Ice (Error error)

-- An oversize frame ends the connection, without an Error where its minor opcode is 0.
abbrev pub oversize_answer : AnySetup → ℕ → List ℕ → Answer
oversize_answer setup sequence header =
    if slice_index header 1 == 0 then Closes None
    else Closes (Some (error_about (is_opcode (opcode_of setup) (slice_index header 0)) (blame FatalToConnection NoLength (named_in header sequence) [])))

-- what a part brings
abbrev pub outcome : AnySetup → ℕ → Part → Outcome
outcome setup sequence (Whole frame) = frame_outcome setup sequence frame
outcome setup sequence (TooMuch header) = record { setup = setup; answer = oversize_answer setup sequence header }

-- the number of a frame behind so many others: from 1 on, and after 4,294,967,295 comes 0
abbrev pub sequence_after : ℕ → ℕ
sequence_after count = (count + 1) % 2 ^ 32

-- what is said before anything else, if anything
abbrev pub said_in : Answer → Option Message
said_in (Stays message) = message
said_in (Begins message) = message
said_in (Closes message) = message
said_in (Speaks message sequence frame) = None
said_in Asks = None

-- a message of XSMP comes with a frame that spells it
abbrev pub IsSpelled : Answer → Type 0
IsSpelled (Stays message) = Unit {0}
IsSpelled (Begins message) = Unit {0}
IsSpelled (Closes message) = Unit {0}
IsSpelled (Speaks message sequence frame) = (length frame ≤ 65544) × ((e : Endian) × (opcode : ℕ) × Spells e opcode message frame)
IsSpelled Asks = Unit {0}

-- What is kept of the connection stays whole: only an answer that closes it may leave it cut short.
abbrev pub KeepsWhole : Answer → Type 0
KeepsWhole (Closes message) = ⊥
KeepsWhole answer = Unit {0}

-- the order of the client's numbers is known
abbrev pub is_ordered : AnySetup → Bool
is_ordered setup = is_some (endian_of setup)
