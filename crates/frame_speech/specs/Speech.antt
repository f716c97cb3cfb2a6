-- How far somebody understands one party's stream who follows its frames.
use Rattle.std.specs.Prelude.{ℕ, ◌+◌, ◌*◌, ◌==◌, ◌&&◌, nat_le, nat_lt, Bool, false, if◌then◌else◌, List, [], ◌∷◌, length, drop, codes, slice_index, Result, Ok, Err}
use Rattle.std.specs.Str.{bytes_eq}
use Rattle.ice_values.specs.Numbers.{number}
use Rattle.ice_values.specs.Frames.{body_at}
use Rattle.ice_values.specs.Properties.{property_list_at}
use Rattle.ice_values.specs.declared.property.Property.{Property}
use Rattle.ice_values.specs.declared.refusals.DecodeRefusal.{DecodeRefusal}
use Rattle.ice_framing.specs.declared.cutting.WholeFrame.{WholeFrame}
use Rattle.ice_messages.specs.Reading.{decode_at}
use Rattle.ice_messages.specs.declared.message.IceMessage.{IceMessage}
use Rattle.ice_messages.specs.declared.message.IceMessage.TheVariants.{ProtocolSetup}
use Rattle.frame_speech.specs.declared.speech.Speech.{Speech}
use Rattle.frame_speech.specs.declared.speech.Speech.TheVariants.{Silent, Greeted, Speaks, Lost}
use Rattle.frame_speech.specs.declared.reading.Reading.{Reading}
use Rattle.frame_speech.specs.declared.reading.Reading.TheVariants.{Nothing, Greets, Opens, Sets, Unread}

-- ---- what one frame says

-- it is this message of this protocol
abbrev pub is_message : ℕ → ℕ → WholeFrame → Bool
is_message major minor f = slice_index f.bytes 0 == major && slice_index f.bytes 1 == minor

-- a header, and the units that it states
abbrev pub is_whole : WholeFrame → Bool
is_whole f = nat_le 8 (length f.bytes) && length f.bytes == 8 + 8 * number f.endian 4 (drop 4 f.bytes)

-- the first frame is ByteOrder (ICE, chapter 7: minor opcode 1)
abbrev pub greeting_in : WholeFrame → Reading
greeting_in f = if is_message 0 1 f && nat_lt (slice_index f.bytes 2) 2 then Greets else Unread

-- Each party states the major opcode of its own messages: the opener in ProtocolSetup, the other in ProtocolReply (ICE, chapter 7: minor opcodes 7 and 8). 0 is ICE's own.
abbrev pub opened_under : ℕ → Reading
opened_under opcode = if opcode == 0 then Unread else Opens opcode

abbrev pub setup_in : IceMessage → Reading
setup_in (ProtocolSetup opcode must protocol vendor release names offered) = if bytes_eq protocol (codes "XSMP") then opened_under opcode else Nothing
setup_in message = Unread

abbrev pub opening_by : Result IceMessage DecodeRefusal → Reading
opening_by (Ok message) = setup_in message
opening_by (Err refusal) = Unread

abbrev pub opening_in : WholeFrame → Reading
opening_in f = if is_message 0 7 f then opening_by (decode_at f.endian f.bytes) else if is_message 0 8 f then opened_under (slice_index f.bytes 3) else Nothing

-- SetProperties (XSMP, chapter 10: minor opcode 12)
abbrev pub setting_by : Result (List Property) DecodeRefusal → Reading
setting_by (Ok properties) = Sets properties
setting_by (Err refusal) = Unread

abbrev pub setting_in : ℕ → WholeFrame → Reading
setting_in opcode f = if is_message opcode 12 f then setting_by (body_at (property_list_at f.endian) f.bytes) else Nothing

abbrev pub reading_of : Speech → WholeFrame → Reading
reading_of Silent f = greeting_in f
reading_of Greeted f = opening_in f
reading_of (Speaks opcode) f = setting_in opcode f
reading_of Lost f = Nothing

abbrev pub reading : Speech → WholeFrame → Reading
reading speech f = if is_whole f then reading_of speech f else Unread

-- ---- and what is known and handed on then

-- What isn't understood ends it.
abbrev pub after : Speech → Reading → Speech
after speech Nothing = speech
after speech Greets = Greeted
after speech (Opens opcode) = Speaks opcode
after speech (Sets properties) = speech
after speech Unread = Lost

-- ---- the frames of a stream, one after another

abbrev pub speech_behind : Speech → List WholeFrame → Speech
speech_behind speech [] = speech
speech_behind speech (f ∷ fs) = speech_behind (after speech (reading speech f)) fs

-- a message of XSMP of this minor opcode, under its sender's major opcode
abbrev pub says : Speech → ℕ → List ℕ → Bool
says Silent minor bytes = false
says Greeted minor bytes = false
says (Speaks opcode) minor bytes = slice_index bytes 0 == opcode && slice_index bytes 1 == minor
says Lost minor bytes = false

abbrev pub is_said : Speech → ℕ → WholeFrame → Bool
is_said speech minor f = says speech minor f.bytes
