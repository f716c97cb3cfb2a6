-- What a frame of the manager is to a client.
use Rattle.std.specs.Prelude.{ℕ, ◌+◌, ◌*◌, Bool, false, List, length, drop, slice_index, Option, None, Some, Result, Ok, Err, ◌==◌, if◌then◌else◌}
use Rattle.ice_values.specs.Numbers.{number}
use Rattle.ice_values.specs.declared.numbers.Endian.{Endian}
use Rattle.ice_values.specs.declared.refusals.DecodeRefusal.{DecodeRefusal}
use Rattle.ice_framing.specs.declared.cutting.WholeFrame.{WholeFrame}
use Rattle.ice_messages.specs.Reading.{decode_at as ice_at}
use Rattle.ice_messages.specs.declared.message.IceMessage.{IceMessage}
use Rattle.xsmp_messages.specs.Reading.{decode_at as xsmp_at}
use Rattle.xsmp_messages.specs.declared.message.XsmpMessage.{XsmpMessage}
use Rattle.client_engine.specs.declared.received.Received.{Received}
use Rattle.client_engine.specs.declared.received.Received.TheVariants.{Ice, Xsmp, Stray, Unspelled}

-- The frame has the units that its header states. Only a stream's first frame may not.
abbrev pub is_whole : WholeFrame → Bool
is_whole frame = 8 + 8 * number frame.endian 4 (drop 4 frame.bytes) == length frame.bytes

abbrev pub ice_received : Result IceMessage DecodeRefusal → Received
ice_received (Ok message) = Ice message
ice_received (Err refusal) = Unspelled

abbrev pub xsmp_received : Result XsmpMessage DecodeRefusal → Received
xsmp_received (Ok message) = Xsmp message
xsmp_received (Err refusal) = Unspelled

-- a frame under an opcode that is nobody's
abbrev pub stray_received : Result XsmpMessage DecodeRefusal → Received
stray_received (Ok message) = Stray
stray_received (Err refusal) = Unspelled

-- the manager's messages of XSMP have this major opcode, once the client has joined
abbrev pub is_opcode : Option ℕ → ℕ → Bool
is_opcode None major = false
is_opcode (Some opcode) major = opcode == major

abbrev pub message_received : Option ℕ → Endian → List ℕ → Received
message_received opcode e bytes =
    if slice_index bytes 0 == 0 then ice_received (ice_at e bytes)
    else if is_opcode opcode (slice_index bytes 0) then xsmp_received (xsmp_at e bytes)
    else stray_received (xsmp_at e bytes)

-- Major opcode 0 is that of ICE, also where the manager named it for XSMP.
abbrev pub received_of : Option ℕ → WholeFrame → Received
received_of opcode frame = if is_whole frame then message_received opcode frame.endian frame.bytes else Unspelled
