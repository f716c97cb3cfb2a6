-- What decoding answers, over all messages.
use Rattle.std.proofs.Common.{◌≡◌, ℕ, suc, ◌+◌, ◌*◌, ◌<◌, ◌≤◌, false, List, [], ◌∷◌, Ok, Err, refl, ap, ◌∙◌, arith, length, length-append, drop, slice_index}
use Rattle.std.specs.Prelude.{eqb, ◌↔◌}
use Rattle.std.proofs.lemmas.Bool.{ne_eqb}
use Rattle.ice_values.specs.Cells.{Cells, byte, free}
use Rattle.ice_values.specs.Numbers.{number, number_bytes}
use Rattle.ice_values.specs.Fields.{bool_number, order_number, severity_number}
use Rattle.ice_values.specs.Frames.{IsFrame, cut_refusal}
use Rattle.ice_values.specs.declared.numbers.Endian.{Endian}
use Rattle.ice_values.specs.declared.numbers.Endian.TheVariants.{Lsb, Msb}
use Rattle.ice_values.specs.declared.severity.Severity.TheVariants.{CanContinue}
use Rattle.ice_values.specs.declared.refusals.DecodeRefusal.TheVariants.{BadMinor}
use Rattle.ice_values.proofs.CellLaws.{IsBytes, length-known}
use Rattle.ice_values.proofs.NumberLaws.{length-number_bytes}
use Rattle.ice_values.proofs.ChoiceLaws.{Opens, opens_none}
use Rattle.ice_values.proofs.DecodeLaws.{Caused}
use Rattle.ice_values.proofs.CodecLaws.{Codec, form_is_choice as choice_is_form, decode_again as again, decode_caused as is_caused, canon_spells as spells, canon_is_frame as frame, minors as all_minors, cut_is_refused as cut}
use Rattle.ice_messages.specs.Messages.{minor_of, layout, shape, enumerated, IsIceFrame, IsMessage, Spells, HasForm, HasChoice, canon, Refused}
use Rattle.ice_messages.specs.Reading.{decode_at}
use Rattle.ice_messages.specs.declared.message.IceMessage.{IceMessage}
use Rattle.ice_messages.specs.declared.message.IceMessage.TheVariants.{Error, ByteOrder, ConnectionSetup, AuthenticationRequired, AuthenticationReply, AuthenticationNextPhase, ConnectionReply, ProtocolSetup, ProtocolReply, Ping, PingReply, WantToClose, NoClose}
use Rattle.ice_messages.proofs.MessageLaws.{RowOf, empty_row, order_row, required_row, reply_row, next_row, connected_row, answer_row, setup_row, protocol_row, error_row}

-- A row for each message: how its minor opcode is read.
row : (e : Endian) (bytes : List ℕ) (m : IceMessage) → slice_index bytes 1 ≡ minor_of m → RowOf e bytes m (decode_at e bytes)
unfolding decode_at
row e bytes (Error error) h = rw h (error_row e bytes error)
row e bytes (ByteOrder order) h = rw h (order_row e bytes order)
row e bytes (ConnectionSetup must vendor release names offered) h = rw h (setup_row e bytes must ((vendor, release), (names, offered)))
row e bytes (AuthenticationRequired index proof) h = rw h (required_row e bytes index proof)
row e bytes (AuthenticationReply proof) h = rw h (reply_row e bytes proof)
row e bytes (AuthenticationNextPhase proof) h = rw h (next_row e bytes proof)
row e bytes (ConnectionReply index vendor release) h = rw h (connected_row e bytes index (vendor, release))
row e bytes (ProtocolSetup opcode must protocol vendor release names offered) h = rw h (protocol_row e bytes opcode must (protocol, ((vendor, release), (names, offered))))
row e bytes (ProtocolReply index opcode vendor release) h = rw h (answer_row e bytes index opcode (vendor, release))
row e bytes Ping h = rw h (empty_row e 9 Ping bytes (λ b. (tt, b)) (λ s. s.1) (λ f. f.1))
row e bytes PingReply h = rw h (empty_row e 10 PingReply bytes (λ b. (tt, b)) (λ s. s.1) (λ f. f.1))
row e bytes WantToClose h = rw h (empty_row e 11 WantToClose bytes (λ b. (tt, b)) (λ s. s.1) (λ f. f.1))
row e bytes NoClose h = rw h (empty_row e 12 NoClose bytes (λ b. (tt, b)) (λ s. s.1) (λ f. f.1))

-- ---- a choice of the enumerated bytes

-- the bytes that stand for a message's enumerated values
unfoldable numbers_of : IceMessage → List ℕ
numbers_of (Error error) = severity_number error.severity ∷ []
numbers_of (ByteOrder order) = order_number order ∷ []
numbers_of (ConnectionSetup must vendor release names offered) = bool_number must ∷ []
numbers_of (ProtocolSetup opcode must protocol vendor release names offered) = bool_number must ∷ []
numbers_of m = []

-- the form of a message is its spelling with free bytes for them
opens : (e : Endian) (m : IceMessage) → Opens (numbers_of m) (enumerated m) (shape byte e m) (shape (λ n. free 1) e m)
unfolding numbers_of
opens Lsb (Error error) = record { opens = refl; marks = refl; are_free = (refl, tt); are_known = (refl, tt) }
opens Msb (Error error) = record { opens = refl; marks = refl; are_free = (refl, tt); are_known = (refl, tt) }
opens e (ByteOrder order) = record { opens = refl; marks = refl; are_free = (refl, tt); are_known = (refl, tt) }
opens Lsb (ConnectionSetup must vendor release names offered) = record { opens = refl; marks = refl; are_free = (refl, tt); are_known = (refl, tt) }
opens Msb (ConnectionSetup must vendor release names offered) = record { opens = refl; marks = refl; are_free = (refl, tt); are_known = (refl, tt) }
opens e (ProtocolSetup opcode must protocol vendor release names offered) = record { opens = refl; marks = refl; are_free = (refl, tt); are_known = (refl, tt) }
opens e m = opens_none (shape byte e m)

-- ---- the minor opcodes

-- one message of each minor opcode, in their order
samples : List IceMessage
samples =
    Error (record { class = 0; minor = 0; severity = CanContinue; sequence = 0; values = [] }) ∷ ByteOrder Lsb ∷ ConnectionSetup false [] [] [] [] ∷ AuthenticationRequired 0 [] ∷ AuthenticationReply [] ∷ AuthenticationNextPhase [] ∷ ConnectionReply 0 [] []
    ∷ ProtocolSetup 0 false [] [] [] [] [] ∷ ProtocolReply 0 0 [] [] ∷ Ping ∷ PingReply ∷ WantToClose ∷ NoClose ∷ []

minor_below : (m : IceMessage) → minor_of m < 13
minor_below (Error error) = omega arith
minor_below m = omega arith

no_minor : (e : Endian) (bytes : List ℕ) → 13 ≤ slice_index bytes 1 → decode_at e bytes ≡ Err BadMinor
unfolding decode_at
no_minor e bytes lt =
    let n : ℕ = slice_index bytes 1 in
    let other : (k : ℕ) → k ≤ 12 → eqb n k ≡ false = λ k le. ne_eqb n k (λ same. omega (arith, lt, le, same)) in
    rw (other 0 (omega arith), other 1 (omega arith), other 2 (omega arith), other 3 (omega arith), other 4 (omega arith), other 5 (omega arith), other 6 (omega arith), other 7 (omega arith), other 8 (omega arith), other 9 (omega arith), other 10 (omega arith), other 11 (omega arith), other 12 (omega arith)) refl

-- ---- all of it

length-own : (mark : ℕ → Cells) → ((n : ℕ) → length (mark n) ≡ 1) → (e : Endian) (m : IceMessage) → length (layout mark e m).0 ≡ 2
length-own mark one e (Error error) = length-known (number_bytes e 2 error.class) ∙ length-number_bytes e 2 error.class
length-own mark one e (ByteOrder order) = omega (arith, length-append (mark (order_number order)) (free 1), one (order_number order))
length-own mark one e (ProtocolSetup opcode must protocol vendor release names offered) = ap suc (one (bool_number must))
length-own mark one e m = refl

-- ICE has one major opcode.
abbrev only : Unit {0} → ℕ
only k = 0

codec : (e : Endian) → Codec only minor_of (λ mark m. layout mark e m) enumerated numbers_of IsMessage e samples (decode_at e)
unfolding samples
codec e = record {
  opens = λ k m. opens e m;
  own = λ mark one m. length-own mark one e m;
  row = λ k bytes m h. row e bytes m h;
  numbered = (refl, (refl, (refl, (refl, (refl, (refl, (refl, (refl, (refl, (refl, (refl, (refl, (refl, tt)))))))))))));
  below = λ m. minor_below m;
  none = λ bytes le. no_minor e bytes le;
}

-- ---- what the calls ensure

pub form_is_choice : (e : Endian) (m : IceMessage) (bytes : List ℕ) → HasForm e m bytes ↔ HasChoice e m bytes
form_is_choice e m bytes = choice_is_form only minor_of (λ mark m. layout mark e m) enumerated numbers_of IsMessage e samples (decode_at e) (codec e) tt m bytes

pub decode_again : (e : Endian) (bytes : List ℕ) (m : IceMessage) → Spells e m bytes → decode_at e bytes ≡ Ok m
decode_again e bytes m h = again only minor_of (λ mark m. layout mark e m) enumerated numbers_of IsMessage e samples (decode_at e) (codec e) tt bytes m h

pub decode_caused : (e : Endian) (bytes : List ℕ) → IsIceFrame e bytes → Caused (λ m. Spells e m bytes) (Refused e bytes) (decode_at e bytes)
decode_caused e bytes f =
    is_caused only minor_of (λ mark m. layout mark e m) enumerated numbers_of IsMessage e samples (decode_at e) (codec e) bytes (Refused e bytes) (λ unknown. unknown) (λ known uncut. (known, uncut tt)) tt f.frame f.fits f.major (λ at len wrong. wrong)

pub canon_spells : (e : Endian) (m : IceMessage) → IsMessage m → Spells e m (canon e m)
canon_spells e m fits = spells only minor_of (λ mark m. layout mark e m) enumerated numbers_of IsMessage e samples (decode_at e) (codec e) tt m fits

pub canon_is_frame : (e : Endian) (m : IceMessage) → IsMessage m → length (layout byte e m).1 ≤ 65536 → IsFrame e (canon e m)
canon_is_frame e m fits short = frame only minor_of (λ mark m. layout mark e m) enumerated numbers_of IsMessage e samples (decode_at e) (codec e) tt m fits short

pub minors : (n : ℕ) → (n ≤ 12) ↔ ((m : IceMessage) × (minor_of m ≡ n))
unfolding samples
minors n = all_minors only minor_of (λ mark m. layout mark Lsb m) enumerated numbers_of IsMessage Lsb samples (decode_at Lsb) (codec Lsb) 12 refl n

pub cut_is_refused : (e : Endian) (bytes : List ℕ) → IsBytes bytes → length bytes < 8 + 8 * number e 4 (drop 4 bytes) → Refused e bytes (cut_refusal 12 bytes)
unfolding samples
cut_is_refused e bytes fits short =
    cut only minor_of (λ mark m. layout mark e m) enumerated numbers_of IsMessage e samples (decode_at e) (codec e) bytes (Refused e bytes) (λ unknown. unknown) (λ known uncut. (known, uncut tt)) 12 refl fits short
