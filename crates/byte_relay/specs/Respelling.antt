-- A frame, spelled anew in the other order.
use Rattle.std.specs.Prelude.{◌≡◌, ℕ, Bool, true, false, List, ◌++◌, slice_index, Option, Some, None, Result, Ok, Err, ◌==◌, if◌then◌else◌}
use Rattle.ice_values.specs.declared.numbers.Endian.{Endian}
use Rattle.ice_values.specs.declared.refusals.DecodeRefusal.{DecodeRefusal}
use Rattle.ice_values.specs.declared.refusals.DecodeRefusal.TheVariants.{BadMinor, BadLength, BadValue, NoMemory as NoMemoryToDecode}
use Rattle.ice_messages.specs.Messages.{canon as canon_ice, Spells as SpellsIce}
use Rattle.ice_messages.specs.Reading.{decode_at as decode_ice_at}
use Rattle.ice_messages.specs.declared.message.IceMessage.{IceMessage}
use Rattle.xsmp_messages.specs.Messages.{canon as canon_xsmp, Spells as SpellsXsmp}
use Rattle.xsmp_messages.specs.Reading.{decode_at as decode_xsmp_at}
use Rattle.xsmp_messages.specs.declared.message.XsmpMessage.{XsmpMessage}
use Rattle.byte_relay.specs.Turning.{turned_ice, turned_xsmp}
use Rattle.byte_relay.specs.declared.respelling.RespellFault.{RespellFault}
use Rattle.byte_relay.specs.declared.respelling.RespellFault.TheVariants.{Unspelled, NoMemory}

-- the bytes say a message of ICE, those of major opcode 0, and else one of XSMP
abbrev pub is_ice : List ℕ → Bool
is_ice frame = slice_index frame 0 == 0

-- The message that was read in one order is spelled in the other.
abbrev pub spelled_ice : Endian → Endian → Result IceMessage DecodeRefusal → Option (List ℕ)
spelled_ice e to (Ok m) = Some (canon_ice to (turned_ice e to m))
spelled_ice e to (Err refusal) = None

abbrev pub spelled_xsmp : Endian → Endian → ℕ → Result XsmpMessage DecodeRefusal → Option (List ℕ)
spelled_xsmp e to opcode (Ok m) = Some (canon_xsmp to opcode (turned_xsmp e to m))
spelled_xsmp e to opcode (Err refusal) = None

-- A frame in the other order, under the same major opcode; None where it spells no message.
abbrev pub respelled : Endian → Endian → List ℕ → Option (List ℕ)
respelled e to frame = if is_ice frame then spelled_ice e to (decode_ice_at e frame) else spelled_xsmp e to (slice_index frame 0) (decode_xsmp_at e frame)

-- no message is spelled so: none of ICE, or none of XSMP under the frame's major opcode
abbrev pub IsUnspelledIn : Bool → Endian → List ℕ → Type 0
IsUnspelledIn true e frame = (m : IceMessage) → ¬ (SpellsIce e m frame)
IsUnspelledIn false e frame = (m : XsmpMessage) → ¬ (SpellsXsmp e (slice_index frame 0) m frame)

abbrev pub IsUnspelled : Endian → List ℕ → Type 0
IsUnspelled e frame = IsUnspelledIn (is_ice frame) e frame

-- the bytes are read in their own order as the turned message that the frame spells
abbrev pub ReadsTurnedIn : Bool → Endian → Endian → List ℕ → List ℕ → Type 0
ReadsTurnedIn true e to frame bytes = (m : IceMessage) → SpellsIce e m frame → decode_ice_at to bytes ≡ Ok (turned_ice e to m)
ReadsTurnedIn false e to frame bytes = (m : XsmpMessage) → SpellsXsmp e (slice_index frame 0) m frame → decode_xsmp_at to bytes ≡ Ok (turned_xsmp e to m)

abbrev pub ReadsTurned : Endian → Endian → List ℕ → List ℕ → Type 0
ReadsTurned e to frame bytes = ReadsTurnedIn (is_ice frame) e to frame bytes

-- The frame was appended as it is in the other order.
abbrev pub Appends : Endian → Endian → List ℕ → List ℕ → List ℕ → Type 0
Appends e to frame old new = (bytes : List ℕ) × (respelled e to frame ≡ Some bytes) × (new ≡ old ++ bytes)

abbrev pub respell_fault_of : DecodeRefusal → RespellFault
respell_fault_of BadMinor = Unspelled
respell_fault_of BadLength = Unspelled
respell_fault_of (BadValue at len) = Unspelled
respell_fault_of NoMemoryToDecode = NoMemory
