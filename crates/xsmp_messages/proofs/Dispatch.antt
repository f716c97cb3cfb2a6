-- What decoding answers, over all messages.
use Rattle.std.proofs.Common.{◌≡◌, ℕ, ◌+◌, ◌*◌, ◌<◌, ◌≤◌, false, List, [], ◌∷◌, Ok, Err, refl, ◌∙◌, arith, length, length-append, drop, slice_index}
use Rattle.std.specs.Prelude.{eqb, ◌↔◌}
use Rattle.std.proofs.lemmas.Bool.{ne_eqb}
use Rattle.ice_values.specs.Cells.{Cells, byte, free}
use Rattle.ice_values.specs.Numbers.{number, number_bytes}
use Rattle.ice_values.specs.Fields.{bool_number}
use Rattle.ice_values.specs.Reading.{nothing_at}
use Rattle.ice_values.specs.Properties.{array8, IsArray8, array8_at, array8_list, array8_list_at, property_list, property_list_at, IsListed, IsProperty}
use Rattle.ice_values.specs.Frames.{IsFrame, cut_refusal, bool_meaning}
use Rattle.ice_values.specs.Saves.{dialog_number, dialog_meaning}
use Rattle.ice_values.specs.declared.numbers.Endian.{Endian}
use Rattle.ice_values.specs.declared.numbers.Endian.TheVariants.{Lsb, Msb}
use Rattle.ice_values.specs.declared.severity.Severity.TheVariants.{CanContinue}
use Rattle.ice_values.specs.declared.refusals.DecodeRefusal.TheVariants.{BadMinor}
use Rattle.ice_values.specs.declared.saves.SaveKind.TheVariants.{Global}
use Rattle.ice_values.specs.declared.saves.SaveStyle.TheVariants.{Nothing}
use Rattle.ice_values.specs.declared.saves.Dialog.TheVariants.{Normal}
use Rattle.ice_values.proofs.CellLaws.{IsBytes, length-known}
use Rattle.ice_values.proofs.NumberLaws.{length-number_bytes}
use Rattle.ice_values.proofs.FieldLaws.{nothing_exact}
use Rattle.ice_values.proofs.PropertyLaws.{array8_exact, array8_list_exact, property_list_exact}
use Rattle.ice_values.proofs.EnumLaws.{bool_enum, dialog_enum}
use Rattle.ice_values.proofs.ChoiceLaws.{opens_none}
use Rattle.ice_values.proofs.DecodeLaws.{Caused}
use Rattle.ice_values.proofs.CodecLaws.{Codec, form_is_choice as choice_is_form, decode_again as again, decode_caused as is_caused, canon_spells as spells, canon_is_frame as frame, minors as all_minors, cut_is_refused as cut}
use Rattle.xsmp_messages.specs.Messages.{minor_of, layout, shape, enumerated, IsXsmpFrame, IsMessage, Spells, HasForm, HasChoice, canon, Refused}
use Rattle.xsmp_messages.specs.Reading.{decode_at}
use Rattle.xsmp_messages.specs.declared.message.XsmpMessage.{XsmpMessage}
use Rattle.xsmp_messages.specs.declared.message.XsmpMessage.TheVariants.{Error, RegisterClient, RegisterClientReply, SaveYourself, SaveYourselfRequest, InteractRequest, Interact, InteractDone, SaveYourselfDone, Die, ShutdownCancelled, ConnectionClosed, SetProperties, DeleteProperties, GetProperties, GetPropertiesReply, SaveYourselfPhase2Request, SaveYourselfPhase2, SaveComplete}
use Rattle.xsmp_messages.proofs.MessageLaws.{RowOf, valued, flagged, save_row, request_row, error_row, numbers_of, HasOpenForm, save_opens, request_opens}

-- A row for each message: how its minor opcode is read.
row : (e : Endian) (opcode : ℕ) (bytes : List ℕ) (m : XsmpMessage) → slice_index bytes 1 ≡ minor_of m → RowOf e opcode bytes m (decode_at e bytes)
unfolding decode_at
row e opcode bytes (Error error) h = rw h (error_row e opcode bytes error)
row e opcode bytes (RegisterClient previous) h = rw h (valued (array8 e) IsArray8 (array8_at e) (array8_exact e) e opcode 1 RegisterClient bytes previous (λ x s. s) (λ s. s) (λ f. f))
row e opcode bytes (RegisterClientReply id) h = rw h (valued (array8 e) IsArray8 (array8_at e) (array8_exact e) e opcode 2 RegisterClientReply bytes id (λ x s. s) (λ s. s) (λ f. f))
row e opcode bytes (SaveYourself kind shutdown style fast) h = rw h (save_row e opcode bytes ((kind, shutdown), (style, fast)))
row e opcode bytes (SaveYourselfRequest kind shutdown style fast global) h = rw h (request_row e opcode bytes (((kind, shutdown), (style, fast)), global))
row e opcode bytes (InteractRequest dialog) h = rw h (flagged dialog_meaning dialog_number 2 dialog_enum e opcode 5 InteractRequest bytes dialog (λ a s. (tt, s)) (λ f. ((tt, f), refl)) (λ s. s.1) (λ f. f.1))
row e opcode bytes Interact h = rw h (valued (λ x. []) (λ x. Unit {0}) nothing_at nothing_exact e opcode 6 (λ x. Interact) bytes tt (λ x s. s) (λ s. s) (λ f. f))
row e opcode bytes (InteractDone cancel) h = rw h (flagged bool_meaning bool_number 2 bool_enum e opcode 7 InteractDone bytes cancel (λ a s. (tt, s)) (λ f. ((tt, f), refl)) (λ s. s.1) (λ f. f.1))
row e opcode bytes (SaveYourselfDone success) h = rw h (flagged bool_meaning bool_number 2 bool_enum e opcode 8 SaveYourselfDone bytes success (λ a s. (tt, s)) (λ f. ((tt, f), refl)) (λ s. s.1) (λ f. f.1))
row e opcode bytes Die h = rw h (valued (λ x. []) (λ x. Unit {0}) nothing_at nothing_exact e opcode 9 (λ x. Die) bytes tt (λ x s. s) (λ s. s) (λ f. f))
row e opcode bytes ShutdownCancelled h = rw h (valued (λ x. []) (λ x. Unit {0}) nothing_at nothing_exact e opcode 10 (λ x. ShutdownCancelled) bytes tt (λ x s. s) (λ s. s) (λ f. f))
row e opcode bytes (ConnectionClosed reasons) h = rw h (valued (array8_list e) (IsListed IsArray8) (array8_list_at e) (array8_list_exact e) e opcode 11 ConnectionClosed bytes reasons (λ x s. s) (λ s. s) (λ f. f))
row e opcode bytes (SetProperties properties) h = rw h (valued (property_list e) (IsListed IsProperty) (property_list_at e) (property_list_exact e) e opcode 12 SetProperties bytes properties (λ x s. s) (λ s. s) (λ f. f))
row e opcode bytes (DeleteProperties names) h = rw h (valued (array8_list e) (IsListed IsArray8) (array8_list_at e) (array8_list_exact e) e opcode 13 DeleteProperties bytes names (λ x s. s) (λ s. s) (λ f. f))
row e opcode bytes GetProperties h = rw h (valued (λ x. []) (λ x. Unit {0}) nothing_at nothing_exact e opcode 14 (λ x. GetProperties) bytes tt (λ x s. s) (λ s. s) (λ f. f))
row e opcode bytes (GetPropertiesReply properties) h = rw h (valued (property_list e) (IsListed IsProperty) (property_list_at e) (property_list_exact e) e opcode 15 GetPropertiesReply bytes properties (λ x s. s) (λ s. s) (λ f. f))
row e opcode bytes SaveYourselfPhase2Request h = rw h (valued (λ x. []) (λ x. Unit {0}) nothing_at nothing_exact e opcode 16 (λ x. SaveYourselfPhase2Request) bytes tt (λ x s. s) (λ s. s) (λ f. f))
row e opcode bytes SaveYourselfPhase2 h = rw h (valued (λ x. []) (λ x. Unit {0}) nothing_at nothing_exact e opcode 17 (λ x. SaveYourselfPhase2) bytes tt (λ x s. s) (λ s. s) (λ f. f))
row e opcode bytes SaveComplete h = rw h (valued (λ x. []) (λ x. Unit {0}) nothing_at nothing_exact e opcode 18 (λ x. SaveComplete) bytes tt (λ x s. s) (λ s. s) (λ f. f))

-- ---- a choice of the enumerated bytes

opens : (e : Endian) (opcode : ℕ) (m : XsmpMessage) → HasOpenForm e opcode m
unfolding numbers_of
opens Lsb opcode (Error error) = record { opens = refl; marks = refl; are_free = (refl, tt); are_known = (refl, tt) }
opens Msb opcode (Error error) = record { opens = refl; marks = refl; are_free = (refl, tt); are_known = (refl, tt) }
opens e opcode (SaveYourself kind shutdown style fast) = save_opens e opcode ((kind, shutdown), (style, fast))
opens e opcode (SaveYourselfRequest kind shutdown style fast global) = request_opens e opcode (((kind, shutdown), (style, fast)), global)
opens e opcode (InteractRequest dialog) = record { opens = refl; marks = refl; are_free = (refl, tt); are_known = (refl, tt) }
opens e opcode (InteractDone cancel) = record { opens = refl; marks = refl; are_free = (refl, tt); are_known = (refl, tt) }
opens e opcode (SaveYourselfDone success) = record { opens = refl; marks = refl; are_free = (refl, tt); are_known = (refl, tt) }
opens e opcode m = opens_none (shape byte e opcode m)

-- ---- the minor opcodes

-- one message of each minor opcode, in their order
samples : List XsmpMessage
samples =
    Error (record { class = 0; minor = 0; severity = CanContinue; sequence = 0; values = [] }) ∷ RegisterClient [] ∷ RegisterClientReply [] ∷ SaveYourself Global false Nothing false ∷ SaveYourselfRequest Global false Nothing false false ∷ InteractRequest Normal ∷ Interact
    ∷ InteractDone false ∷ SaveYourselfDone false ∷ Die ∷ ShutdownCancelled ∷ ConnectionClosed [] ∷ SetProperties [] ∷ DeleteProperties [] ∷ GetProperties ∷ GetPropertiesReply [] ∷ SaveYourselfPhase2Request ∷ SaveYourselfPhase2 ∷ SaveComplete ∷ []

minor_below : (m : XsmpMessage) → minor_of m < 19
minor_below (Error error) = omega arith
minor_below m = omega arith

no_minor : (e : Endian) (bytes : List ℕ) → 19 ≤ slice_index bytes 1 → decode_at e bytes ≡ Err BadMinor
unfolding decode_at
no_minor e bytes lt =
    let n : ℕ = slice_index bytes 1 in
    let other : (k : ℕ) → k ≤ 18 → eqb n k ≡ false = λ k le. ne_eqb n k (λ same. omega (arith, lt, le, same)) in
    rw (other 0 (omega arith), other 1 (omega arith), other 2 (omega arith), other 3 (omega arith), other 4 (omega arith), other 5 (omega arith), other 6 (omega arith), other 7 (omega arith), other 8 (omega arith), other 9 (omega arith), other 10 (omega arith), other 11 (omega arith), other 12 (omega arith), other 13 (omega arith), other 14 (omega arith), other 15 (omega arith), other 16 (omega arith), other 17 (omega arith), other 18 (omega arith)) refl

-- ---- all of it

length-own : (mark : ℕ → Cells) → ((n : ℕ) → length (mark n) ≡ 1) → (e : Endian) (m : XsmpMessage) → length (layout mark e m).0 ≡ 2
length-own mark one e (Error error) = length-known (number_bytes e 2 error.class) ∙ length-number_bytes e 2 error.class
length-own mark one e (InteractRequest dialog) = omega (arith, length-append (mark (dialog_number dialog)) (free 1), one (dialog_number dialog))
length-own mark one e (InteractDone cancel) = omega (arith, length-append (mark (bool_number cancel)) (free 1), one (bool_number cancel))
length-own mark one e (SaveYourselfDone success) = omega (arith, length-append (mark (bool_number success)) (free 1), one (bool_number success))
length-own mark one e m = refl

codec : (e : Endian) → Codec (λ (opcode : ℕ). opcode) minor_of (λ mark m. layout mark e m) enumerated numbers_of IsMessage e samples (decode_at e)
unfolding samples
codec e = record {
  opens = λ opcode m. opens e opcode m;
  own = λ mark one m. length-own mark one e m;
  row = λ opcode bytes m h. row e opcode bytes m h;
  numbered = (refl, (refl, (refl, (refl, (refl, (refl, (refl, (refl, (refl, (refl, (refl, (refl, (refl, (refl, (refl, (refl, (refl, (refl, (refl, tt)))))))))))))))))));
  below = λ m. minor_below m;
  none = λ bytes le. no_minor e bytes le;
}

-- ---- what the calls ensure

pub form_is_choice : (e : Endian) (opcode : ℕ) (m : XsmpMessage) (bytes : List ℕ) → HasForm e opcode m bytes ↔ HasChoice e opcode m bytes
form_is_choice e opcode m bytes = choice_is_form (λ (opcode : ℕ). opcode) minor_of (λ mark m. layout mark e m) enumerated numbers_of IsMessage e samples (decode_at e) (codec e) opcode m bytes

pub decode_again : (e : Endian) (opcode : ℕ) (bytes : List ℕ) (m : XsmpMessage) → Spells e opcode m bytes → decode_at e bytes ≡ Ok m
decode_again e opcode bytes m h = again (λ (opcode : ℕ). opcode) minor_of (λ mark m. layout mark e m) enumerated numbers_of IsMessage e samples (decode_at e) (codec e) opcode bytes m h

pub decode_caused : (e : Endian) (bytes : List ℕ) → IsXsmpFrame e bytes → Caused (λ m. Spells e (slice_index bytes 0) m bytes) (Refused e bytes) (decode_at e bytes)
decode_caused e bytes f =
    is_caused (λ (opcode : ℕ). opcode) minor_of (λ mark m. layout mark e m) enumerated numbers_of IsMessage e samples (decode_at e) (codec e) bytes (Refused e bytes) (λ unknown. unknown) (λ known uncut. (known, uncut)) (slice_index bytes 0) f.frame f.fits refl (λ at len wrong. wrong)

pub canon_spells : (e : Endian) (opcode : ℕ) (m : XsmpMessage) → IsMessage m → Spells e opcode m (canon e opcode m)
canon_spells e opcode m fits = spells (λ (opcode : ℕ). opcode) minor_of (λ mark m. layout mark e m) enumerated numbers_of IsMessage e samples (decode_at e) (codec e) opcode m fits

pub canon_is_frame : (e : Endian) (opcode : ℕ) (m : XsmpMessage) → IsMessage m → length (layout byte e m).1 ≤ 65536 → IsFrame e (canon e opcode m)
canon_is_frame e opcode m fits short = frame (λ (opcode : ℕ). opcode) minor_of (λ mark m. layout mark e m) enumerated numbers_of IsMessage e samples (decode_at e) (codec e) opcode m fits short

pub minors : (n : ℕ) → (n ≤ 18) ↔ ((m : XsmpMessage) × (minor_of m ≡ n))
unfolding samples
minors n = all_minors (λ (opcode : ℕ). opcode) minor_of (λ mark m. layout mark Lsb m) enumerated numbers_of IsMessage Lsb samples (decode_at Lsb) (codec Lsb) 18 refl n

pub cut_is_refused : (e : Endian) (bytes : List ℕ) → IsBytes bytes → length bytes < 8 + 8 * number e 4 (drop 4 bytes) → Refused e bytes (cut_refusal 18 bytes)
unfolding samples
cut_is_refused e bytes fits short =
    cut (λ (opcode : ℕ). opcode) minor_of (λ mark m. layout mark e m) enumerated numbers_of IsMessage e samples (decode_at e) (codec e) bytes (Refused e bytes) (λ unknown. unknown) (λ known uncut. (known, uncut)) 18 refl fits short
