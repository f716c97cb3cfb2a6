-- The text of a frame.
use Rattle.std.specs.Prelude.{ℕ, ◌+◌, ◌*◌, Bool, ◌==◌, ◌&&◌, not, if◌then◌else◌, List, [], length, drop, slice_index, Option, Some, None, Result, Ok, Err, codes}
use Rattle.ice_values.specs.Numbers.{number}
use Rattle.ice_values.specs.Frames.{cut_refusal}
use Rattle.ice_values.specs.declared.numbers.Endian.{Endian}
use Rattle.ice_values.specs.declared.refusals.DecodeRefusal.{DecodeRefusal}
use Rattle.ice_values.specs.declared.refusals.DecodeRefusal.TheVariants.{BadMinor, BadLength, BadValue, NoMemory}
use Rattle.ice_messages.specs.Reading.{decode_at as ice_at}
use Rattle.xsmp_messages.specs.Reading.{decode_at as xsmp_at}
use Rattle.ice_messages.specs.declared.message.TheConstants.{LAST_ICE_MINOR}
use Rattle.xsmp_messages.specs.declared.message.TheConstants.{LAST_XSMP_MINOR}
use Rattle.message_text.specs.Lines.{ice_text, xsmp_text}
use Rattle.message_text.specs.declared.words.Writing.{Writing}
use Rattle.xsmp_messages.specs.declared.message.XsmpMessage.{XsmpMessage}
use Rattle.ice_framing.specs.declared.cutting.WholeFrame.{WholeFrame}

abbrev pub refusal_text : DecodeRefusal → List ℕ
refusal_text BadMinor = codes "BadMinor"
refusal_text BadLength = codes "BadLength"
refusal_text (BadValue at len) = codes "BadValue"
refusal_text NoMemory = []

-- a message's line, or why there is none
abbrev pub text_of : {Message : Type 0} → (Message → List ℕ) → Result Message DecodeRefusal → List ℕ
text_of line (Ok message) = line message
text_of line (Err refusal) = refusal_text refusal

-- Messages under major opcode 0 are those of ICE, all others those of XSMP.
abbrev pub message_text : Writing → Endian → List ℕ → List ℕ
message_text writing e bytes = if slice_index bytes 0 == 0 then text_of (ice_text writing) (ice_at e bytes) else text_of (xsmp_text writing) (xsmp_at e bytes)

-- the last minor opcode of the messages under a major opcode
abbrev pub last_minor : ℕ → ℕ
last_minor major = if major == 0 then LAST_ICE_MINOR else LAST_XSMP_MINOR

-- why a header that states more than itself is no message when it stands alone
abbrev pub header_refusal : List ℕ → DecodeRefusal
header_refusal bytes = cut_refusal (last_minor (slice_index bytes 0)) bytes

-- the frame has the units that its header states
abbrev pub is_whole : Endian → List ℕ → Bool
is_whole e bytes = 8 + 8 * number e 4 (drop 4 bytes) == length bytes

-- The line of the message that a frame spells, or why it spells none. A stream's first frame is its header alone, also where that states more.
abbrev pub frame_text : Writing → WholeFrame → List ℕ
frame_text writing frame = if is_whole frame.endian frame.bytes then message_text writing frame.endian frame.bytes else refusal_text (header_refusal frame.bytes)

abbrev pub message_of : Result XsmpMessage DecodeRefusal → Option XsmpMessage
message_of (Ok message) = Some message
message_of (Err refusal) = None

-- the message of XSMP that a frame spells
abbrev pub xsmp_in : WholeFrame → Option XsmpMessage
xsmp_in frame = if is_whole frame.endian frame.bytes && not (slice_index frame.bytes 0 == 0) then message_of (xsmp_at frame.endian frame.bytes) else None
