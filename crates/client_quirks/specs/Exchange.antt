-- What each frame of both parties brings where a client's answers may come late: what the manager hears of it, and what goes out to the client.
use Rattle.std.specs.Prelude.{ℕ, ◌==◌, ◌&&◌, ◌||◌, nat_le, Bool, true, false, if◌then◌else◌, List, [], ◌∷◌, ◌++◌, slice_index, Option, Some, None}
use Rattle.std.specs.Result.{result_ok}
use Rattle.ice_values.specs.declared.numbers.Endian.{Endian}
use Rattle.ice_framing.specs.declared.cutting.WholeFrame.{WholeFrame}
use Rattle.xsmp_messages.specs.Messages.{canon}
use Rattle.xsmp_messages.specs.Reading.{decode_at}
use Rattle.xsmp_messages.specs.declared.message.XsmpMessage.{XsmpMessage}
use Rattle.xsmp_messages.specs.declared.message.XsmpMessage.TheVariants.{SaveYourself}
use Rattle.round_agreement.specs.declared.wanted.Wanted.{Wanted}
use Rattle.frame_speech.specs.Speech.{is_whole, reading, after}
use Rattle.frame_speech.specs.declared.speech.Speech.{Speech}
use Rattle.frame_speech.specs.declared.speech.Speech.TheVariants.{Silent, Greeted, Speaks, Lost}
use Rattle.late_answers.specs.Late.{is_calm, message_of, told, said, replied, as_it_came, passing}
use Rattle.late_answers.specs.declared.late.Late.{Late}
use Rattle.late_answers.specs.declared.outcome.Outcome.{Outcome}
use Rattle.late_answers.specs.declared.outcome.Said.{Said}
use Rattle.late_answers.specs.declared.outcome.Word.{Word}
use Rattle.late_answers.specs.declared.outcome.Outgoing.{Outgoing}
use Rattle.late_answers.specs.declared.outcome.Outgoing.TheVariants.{Itself, BehindPing, HeldSave, NoBytes}
use Rattle.client_quirks.specs.declared.tongue.Tongue.{Tongue}

-- ---- what a frame says

-- RegisterClientReply, ConnectionClosed and all that is about a save (XSMP, chapter 10: minor opcodes 2 to 11, and from 16 on)
abbrev pub is_about_saves : ℕ → Bool
is_about_saves minor = nat_le 2 minor && nat_le minor 11 || nat_le 16 minor

-- Where nothing is late and no logout runs for the client, only this is looked at: RegisterClientReply, Die, and the SaveYourself of a logout.
abbrev pub is_turn : List ℕ → Bool
is_turn bytes = slice_index bytes 1 == 2 || slice_index bytes 1 == 9 || slice_index bytes 1 == 3 && slice_index bytes 9 == 1

abbrev pub is_heeded : Bool → List ℕ → Bool
is_heeded true bytes = is_turn bytes
is_heeded false bytes = is_about_saves (slice_index bytes 1)

abbrev pub is_about : Bool → Speech → List ℕ → Bool
is_about calm Silent bytes = false
is_about calm Greeted bytes = false
is_about calm (Speaks opcode) bytes = slice_index bytes 0 == opcode && is_heeded calm bytes
is_about calm Lost bytes = false

-- the message that a frame is, where it is looked at and can be read
abbrev pub message_in : Bool → Speech → WholeFrame → Option XsmpMessage
message_in calm speech f = if is_whole f && is_about calm speech f.bytes then result_ok (decode_at f.endian f.bytes) else None

-- PingReply (ICE, chapter 7: minor opcode 10) of a party that speaks XSMP
abbrev pub is_speaking : Speech → Bool
is_speaking Silent = false
is_speaking Greeted = false
is_speaking (Speaks opcode) = true
is_speaking Lost = false

abbrev pub is_reply : Speech → List ℕ → Bool
is_reply speech bytes = is_speaking speech && slice_index bytes 0 == 0 && slice_index bytes 1 == 10

-- ---- what is spelled in a party's place

abbrev pub tongue : Speech → Endian → Tongue
tongue speech order = record { speech = speech; order = order }

-- Under the party's major opcode, in its order; who doesn't speak XSMP says nothing.
abbrev pub spelled_by : Speech → Endian → XsmpMessage → List ℕ
spelled_by Silent order m = []
spelled_by Greeted order m = []
spelled_by (Speaks opcode) order m = canon order opcode m
spelled_by Lost order m = []

abbrev pub spelled : Tongue → XsmpMessage → List ℕ
spelled t m = spelled_by t.speech t.order m

abbrev pub word_bytes : Tongue → Option Word → List ℕ
word_bytes t None = []
word_bytes t (Some word) = spelled t (message_of word)

-- Ping (ICE, chapter 7: minor opcode 9)
abbrev pub ping : List ℕ
ping = 0 ∷ 9 ∷ 0 ∷ 0 ∷ 0 ∷ 0 ∷ 0 ∷ 0 ∷ []

abbrev pub save_bytes : Tongue → Option Wanted → List ℕ
save_bytes t None = []
save_bytes t (Some w) = spelled t (SaveYourself w.kind w.shutdown w.style w.fast)

-- what goes out of a frame with these bytes, by what is known then
abbrev pub going_out : Tongue → Outgoing → List ℕ → Late → List ℕ
going_out t Itself bytes l = bytes
going_out t BehindPing bytes l = ping ++ bytes
going_out t HeldSave bytes l = ping ++ save_bytes t l.wanted
going_out t NoBytes bytes l = []

-- ---- a frame of the client's

abbrev pub said_of : Option XsmpMessage → Late → Said
said_of None l = passing l
said_of (Some m) l = said m l

abbrev pub said_in : Speech → WholeFrame → Late → Said
said_in speech f l = if is_reply speech f.bytes then replied l else said_of (message_in (is_calm l) speech f) l

-- a word in the client's place, and the frame where it passes
abbrev pub handed_of : Tongue → Said → List ℕ → List ℕ
handed_of t s bytes = word_bytes t s.word ++ (if s.passes then bytes else [])

-- ---- a frame of the manager's

abbrev pub told_of : Option XsmpMessage → Late → Outcome
told_of None l = as_it_came l
told_of (Some m) l = told m l

abbrev pub told_in : Speech → WholeFrame → Late → Outcome
told_in speech f l = told_of (message_in (is_calm l) speech f) l

-- ---- frames one after another

-- what the manager hears, what goes out to the client, and what is known then
pub record Exchanged : Type 0 where
  pub handed : List ℕ
  pub going : List ℕ
  pub late : Late

abbrev pub exchanged : List ℕ → List ℕ → Late → Exchanged
exchanged handed going late = record { handed = handed; going = going; late = late }

abbrev pub and_then : List ℕ → List ℕ → Exchanged → Exchanged
and_then handed going x = exchanged (handed ++ x.handed) (going ++ x.going) x.late

-- frames of the client's; the manager is spoken for so
abbrev pub heard_all : Tongue → Speech → Late → List WholeFrame → Exchanged
heard_all manager speech l [] = exchanged [] [] l
heard_all manager speech l (f ∷ fs) =
    and_then (handed_of (tongue speech f.endian) (said_in speech f l) f.bytes) (going_out manager (said_in speech f l).outgoing [] (said_in speech f l).late)
    (heard_all manager (after speech (reading speech f)) (said_in speech f l).late fs)

-- frames of the manager's; the client is spoken for so
abbrev pub told_all : Tongue → Speech → Late → List WholeFrame → Exchanged
told_all client speech l [] = exchanged [] [] l
told_all client speech l (f ∷ fs) =
    and_then (word_bytes client (told_in speech f l).word) (going_out (tongue speech f.endian) (told_in speech f l).outgoing f.bytes (told_in speech f l).late)
    (told_all client (after speech (reading speech f)) (told_in speech f l).late fs)
