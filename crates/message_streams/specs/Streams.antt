-- A stream of messages: what of their bytes has come and is held, and what is under way still.
use Rattle.std.specs.Prelude.{List, None, Option, Some, [], drop, map, take, ℕ, ◌++◌, ◌∷◌, ◌≡◌, ◌≤◌}
use Rattle.std.specs.List.{AllByRecursion, flat_map}
use Rattle.ice_values.specs.declared.numbers.Endian.{Endian}
use Rattle.ice_values.specs.declared.numbers.Endian.TheVariants.{Lsb}
use Rattle.ice_framing.specs.Frames.{IsLater, Standing, cut, fed, standing_of, unit_limit, units}
use Rattle.ice_framing.specs.Parts.{Part, Whole, new_parts, parts_at}
use Rattle.ice_framing.specs.declared.cutting.WholeFrame.{WholeFrame}
use Rattle.ice_messages.specs.declared.message.IceMessage.TheVariants.{ByteOrder}
use Rattle.protocol_messages.specs.Messages.{spelled_under}
use Rattle.protocol_messages.specs.declared.message.Message.{Message}
use Rattle.protocol_messages.specs.declared.message.Message.TheVariants.{Ice}

-- the bytes of these messages in a row, those of XSMP under this opcode
abbrev pub bytes_of : ℕ → List Message → List ℕ
bytes_of opcode messages = flat_map (spelled_under opcode) messages

abbrev pub frame_of : ℕ → Message → WholeFrame
frame_of opcode message = record { endian = Lsb; bytes = spelled_under opcode message }

abbrev pub part_of : ℕ → Message → Part
part_of opcode message = Whole (frame_of opcode message)

-- its bytes are a frame
abbrev pub HasBytes : ℕ → Message → Type 0
HasBytes opcode message = IsLater Lsb (frame_of opcode message)

-- the order of the numbers is known, or the first message says it, which comes still
abbrev pub IsOrdered : Option Endian → List Message → Type 0
IsOrdered (Some e) messages = e ≡ Lsb
IsOrdered None [] = ⊥
IsOrdered None (message ∷ messages) = message ≡ Ice (ByteOrder Lsb)

-- What a stream holds and what comes later are the bytes of these messages, from the first byte on or behind others.
pub record HoldsBytes (opcode : ℕ) (at : Standing) (later : List ℕ) (messages : List Message) : Type 0 where
  pub order : IsOrdered at.order messages
  pub bytes : at.held ++ later ≡ bytes_of opcode messages
  pub each : AllByRecursion (HasBytes opcode) messages

-- The parts that are whole are the frames of the first messages, one each. The others are held or come later, and no header of
-- theirs states too much.
pub record BringsFront (opcode : ℕ) (at : Standing) (later : List ℕ) (messages : List Message) : Type 0 where
  pub front : List Message
  pub back : List Message
  pub all : messages ≡ front ++ back
  pub parts : parts_at at ≡ map (part_of opcode) front
  pub holds : HoldsBytes opcode (cut at).standing later back
  pub within : units (cut at).standing ≤ unit_limit

-- so it is of whatever has come,
abbrev pub CutsAreOfMessages : Type 0
CutsAreOfMessages = (opcode : ℕ) (messages : List Message) (at : Standing) (later : List ℕ) → HoldsBytes opcode at later messages → BringsFront opcode at later messages

-- and of so many bytes more, in one piece
abbrev pub PiecesAreOfMessages : Type 0
PiecesAreOfMessages =
    (opcode : ℕ) (messages : List Message) (at : Standing) (later : List ℕ) (count : ℕ) → HoldsBytes opcode at later messages → BringsFront opcode (fed at (take count later)) (drop count later) messages

-- The same told of all that has come of a stream: the parts that a piece brings are the frames of the first messages.
pub record BringsNew (opcode : ℕ) (stream piece later : List ℕ) (messages : List Message) : Type 0 where
  pub front : List Message
  pub back : List Message
  pub all : messages ≡ front ++ back
  pub parts : new_parts stream piece ≡ map (part_of opcode) front
  pub holds : HoldsBytes opcode (standing_of (stream ++ piece)) later back
  pub within : units (standing_of (stream ++ piece)) ≤ unit_limit

abbrev pub StreamsAreOfMessages : Type 0
StreamsAreOfMessages =
    (opcode : ℕ) (messages : List Message) (stream later : List ℕ) (count : ℕ) → units (standing_of stream) ≤ unit_limit → HoldsBytes opcode (standing_of stream) later messages
    → BringsNew opcode stream (take count later) (drop count later) messages
