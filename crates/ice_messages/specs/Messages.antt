-- How each message is spelled, and which bytes are refused (ICE, chapter 7: Message Encoding).
use Rattle.std.specs.Prelude.{◌≡◌, ◌≢◌, ℕ, ◌<◌, List, [], ◌∷◌, ◌++◌, length, slice_index, Some, ◌⊎◌}
use Rattle.std.specs.List.{AllByRecursion}
use Rattle.ice_values.specs.Cells.{Cells, byte, free, zeros, Begins}
use Rattle.ice_values.specs.Fields.{text16, IsText16, texts, versions, IsVersion, proof_data, IsProofData, bool_number, order_number, error_own, error_body, IsError, spelling}
use Rattle.ice_values.specs.declared.numbers.Endian.{Endian}
use Rattle.ice_values.specs.declared.version.Version.{Version}
use Rattle.ice_values.specs.declared.refusals.DecodeRefusal.{DecodeRefusal}
use Rattle.ice_values.specs.declared.refusals.DecodeRefusal.TheVariants.{BadMinor, BadLength, BadValue, NoMemory}
use Rattle.ice_messages.specs.declared.message.IceMessage.{IceMessage}
use Rattle.ice_messages.specs.declared.message.IceMessage.TheVariants.{Error, ByteOrder, ConnectionSetup, AuthenticationRequired, AuthenticationReply, AuthenticationNextPhase, ConnectionReply, ProtocolSetup, ProtocolReply, Ping, PingReply, WantToClose, NoClose}
pub use Rattle.ice_values.specs.Frames.{IsFrame, first_wrong, IsChoice}
use Rattle.ice_values.specs.Reading.{IsBytes}

abbrev pub minor_of : IceMessage → ℕ
minor_of (Error error) = 0
minor_of (ByteOrder order) = 1
minor_of (ConnectionSetup must vendor release names offered) = 2
minor_of (AuthenticationRequired index proof) = 3
minor_of (AuthenticationReply proof) = 4
minor_of (AuthenticationNextPhase proof) = 5
minor_of (ConnectionReply index vendor release) = 6
minor_of (ProtocolSetup opcode must protocol vendor release names offered) = 7
minor_of (ProtocolReply index opcode vendor release) = 8
minor_of Ping = 9
minor_of PingReply = 10
minor_of WantToClose = 11
minor_of NoClose = 12

-- The two bytes of each message's own, and its body, with `mark n` where the enumerated byte n stands.
abbrev pub layout : (ℕ → Cells) → Endian → IceMessage → Cells × Cells
layout mark e (Error error) = (error_own e error, error_body mark e error)
layout mark e (ByteOrder order) = (mark (order_number order) ++ free 1, [])
layout mark e (ConnectionSetup must vendor release names offered) = (byte (length offered) ++ byte (length names), mark (bool_number must) ++ free 7 ++ text16 e vendor ++ text16 e release ++ texts e names ++ versions e offered)
layout mark e (AuthenticationRequired index proof) = (byte index ++ free 1, proof_data e proof)
layout mark e (AuthenticationReply proof) = (free 2, proof_data e proof)
layout mark e (AuthenticationNextPhase proof) = (free 2, proof_data e proof)
layout mark e (ConnectionReply index vendor release) = (byte index ++ free 1, text16 e vendor ++ text16 e release)
layout mark e (ProtocolSetup opcode must protocol vendor release names offered) = (byte opcode ++ mark (bool_number must), byte (length offered) ++ byte (length names) ++ free 6 ++ text16 e protocol ++ text16 e vendor ++ text16 e release ++ texts e names ++ versions e offered)
layout mark e (ProtocolReply index opcode vendor release) = (byte index ++ byte opcode, text16 e vendor ++ text16 e release)
layout mark e Ping = (free 2, [])
layout mark e PingReply = (free 2, [])
layout mark e WantToClose = (free 2, [])
layout mark e NoClose = (free 2, [])

-- all of it, under major opcode 0
abbrev pub shape : (ℕ → Cells) → Endian → IceMessage → Cells
shape mark e m = spelling e 0 (minor_of m) (layout mark e m).0 (layout mark e m).1

-- Where the enumerated bytes stand, and how many meanings each has: those from 0 on. Other messages have none.
abbrev pub enumerated : IceMessage → List (ℕ × ℕ)
enumerated (Error error) = (9, 3) ∷ []
enumerated (ByteOrder order) = (2, 2) ∷ []
enumerated (ConnectionSetup must vendor release names offered) = (8, 2) ∷ []
enumerated (ProtocolSetup opcode must protocol vendor release names offered) = (3, 2) ∷ []
enumerated m = []

-- what each party offers, whose counts are one byte each
abbrev pub IsOffer : List (List ℕ) → List Version → Type 0
IsOffer names offered = (length names < 256) × AllByRecursion IsText16 names × (length offered < 256) × AllByRecursion IsVersion offered

-- What has a spelling. Each other message has one.
abbrev pub IsMessage : IceMessage → Type 0
IsMessage (Error error) = IsError error
IsMessage (ConnectionSetup must vendor release names offered) = IsText16 vendor × IsText16 release × IsOffer names offered
IsMessage (AuthenticationRequired index proof) = IsProofData proof
IsMessage (AuthenticationReply proof) = IsProofData proof
IsMessage (AuthenticationNextPhase proof) = IsProofData proof
IsMessage (ConnectionReply index vendor release) = IsText16 vendor × IsText16 release
IsMessage (ProtocolSetup opcode must protocol vendor release names offered) = IsText16 protocol × IsText16 vendor × IsText16 release × IsOffer names offered
IsMessage (ProtocolReply index opcode vendor release) = IsText16 vendor × IsText16 release
IsMessage m = Unit {0}

-- a frame of bytes under major opcode 0
pub record IsIceFrame (e : Endian) (bytes : List ℕ) : Type 0 where
  pub frame : IsFrame e bytes
  pub fits : IsBytes bytes
  pub major : slice_index bytes 0 ≡ 0

-- The bytes are a spelling of the message. Unused and padding bytes are free.
abbrev pub Spells : Endian → IceMessage → List ℕ → Type 0
Spells e m bytes = IsMessage m × Begins (shape byte e m) bytes []

-- The same, whatever the enumerated bytes are.
abbrev pub HasForm : Endian → IceMessage → List ℕ → Type 0
HasForm e m bytes = IsMessage m × Begins (shape (λ n. free 1) e m) bytes []

-- the spelling with zeros in unused and padding bytes
abbrev pub canon : Endian → IceMessage → List ℕ
canon e m = zeros (shape byte e m)

-- Some choice of the enumerated bytes makes the bytes a spelling of the message.
abbrev pub HasChoice : Endian → IceMessage → List ℕ → Type 0
HasChoice e m bytes = (chosen : List ℕ) × IsChoice (enumerated m) bytes chosen × Spells e m chosen

-- Which refusal answers the bytes.
abbrev pub Refused : Endian → List ℕ → DecodeRefusal → Type 0
-- no message has their minor opcode
Refused e bytes BadMinor = (m : IceMessage) → minor_of m ≢ slice_index bytes 1
-- some message has it, and no choice of the enumerated bytes makes them a spelling
Refused e bytes BadLength = ((m : IceMessage) × (minor_of m ≡ slice_index bytes 1)) × ((m : IceMessage) → HasChoice e m bytes → ⊥)
-- some choice does, and this is the first enumerated byte without a meaning
Refused e bytes (BadValue at len) = (len ≡ 1) × ((m : IceMessage) × HasForm e m bytes × (first_wrong (enumerated m) bytes ≡ Some at))
Refused e bytes NoMemory = Unit {0}

-- A list or some data is longer than its count can say. Other messages have neither.
abbrev pub HasLongPart : IceMessage → Type 0
HasLongPart (ConnectionSetup must vendor release names offered) = (255 < length names) ⊎ (255 < length offered)
HasLongPart (AuthenticationRequired index proof) = 65535 < length proof
HasLongPart (AuthenticationReply proof) = 65535 < length proof
HasLongPart (AuthenticationNextPhase proof) = 65535 < length proof
HasLongPart (ProtocolSetup opcode must protocol vendor release names offered) = (255 < length names) ⊎ (255 < length offered)
HasLongPart m = ⊥

-- a part is, or the body has more than 65,536 bytes
abbrev pub IsTooLong : Endian → IceMessage → Type 0
IsTooLong e m = HasLongPart m ⊎ (65536 < length (layout byte e m).1)
