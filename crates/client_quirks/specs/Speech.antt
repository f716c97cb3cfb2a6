-- What is handed on of each frame of one party's stream.
use Rattle.std.specs.Prelude.{ℕ, ◌&&◌, ◌||◌, nat_le, Bool, false, if◌then◌else◌, List, [], ◌∷◌, ◌++◌, length, map, slice_index, flat_map, Option, Some, None}
use Rattle.std.specs.List.{list_any}
use Rattle.ice_values.specs.Cells.{byte}
use Rattle.ice_values.specs.declared.property.Property.{Property}
use Rattle.ice_values.specs.declared.numbers.Endian.{Endian}
use Rattle.ice_framing.specs.Frames.{frames_of, standing_of}
use Rattle.ice_framing.specs.declared.cutting.WholeFrame.{WholeFrame}
use Rattle.xsmp_messages.specs.Messages.{layout, canon}
use Rattle.xsmp_messages.specs.declared.message.XsmpMessage.{XsmpMessage}
use Rattle.xsmp_messages.specs.declared.message.XsmpMessage.TheVariants.{SetProperties}
use Rattle.frame_speech.specs.Speech.{reading, after}
use Rattle.frame_speech.specs.declared.speech.Speech.{Speech}
use Rattle.frame_speech.specs.declared.speech.Speech.TheVariants.{Silent}
use Rattle.frame_speech.specs.declared.reading.Reading.{Reading}
use Rattle.frame_speech.specs.declared.reading.Reading.TheVariants.{Nothing, Greets, Opens, Sets, Unread}
use Rattle.client_quirks.specs.Meanings.{amended, is_amended}

-- ---- what is handed on of a frame

-- the message that sets these properties as they are meant
abbrev pub as_meant : List Property → XsmpMessage
as_meant properties = SetProperties (map amended properties)

-- it, where a rule applies to one of them
abbrev pub meant_by : List Property → Option XsmpMessage
meant_by properties = if list_any is_amended properties then Some (as_meant properties) else None

-- One of the properties is amended, and the message isn't too long then.
abbrev pub is_respelled : Endian → List Property → Bool
is_respelled e properties = list_any is_amended properties && nat_le (length (layout byte e (as_meant properties)).1) 65536

abbrev pub is_changed : WholeFrame → Reading → Bool
is_changed f (Sets properties) = is_respelled f.endian properties
is_changed f Nothing = false
is_changed f Greets = false
is_changed f (Opens opcode) = false
is_changed f Unread = false

-- A frame that sets properties which are amended is spelled anew under its opcode; each other one is handed on as it is.
abbrev pub set_anew : WholeFrame → List Property → List ℕ
set_anew f properties = if is_respelled f.endian properties then canon f.endian (slice_index f.bytes 0) (as_meant properties) else f.bytes

abbrev pub spelled_anew : WholeFrame → Reading → List ℕ
spelled_anew f (Sets properties) = set_anew f properties
spelled_anew f Nothing = f.bytes
spelled_anew f Greets = f.bytes
spelled_anew f (Opens opcode) = f.bytes
spelled_anew f Unread = f.bytes

-- ---- the frames of a stream, one after another

abbrev pub handed_on : Speech → List WholeFrame → List ℕ
handed_on speech [] = []
handed_on speech (f ∷ fs) = spelled_anew f (reading speech f) ++ handed_on (after speech (reading speech f)) fs

-- these frames one behind the other
abbrev pub bytes_in : List WholeFrame → List ℕ
bytes_in frames = flat_map (λ (f : WholeFrame). f.bytes) frames

abbrev pub are_changed : Speech → List WholeFrame → Bool
are_changed speech [] = false
are_changed speech (f ∷ fs) = is_changed f (reading speech f) || are_changed (after speech (reading speech f)) fs

-- a whole stream as it is handed on, up to what came behind its last whole frame
abbrev pub amended_stream : List ℕ → List ℕ
amended_stream stream = handed_on Silent (frames_of stream) ++ (standing_of stream).held
