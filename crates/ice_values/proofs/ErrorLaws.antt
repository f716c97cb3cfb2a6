-- An Error is read exactly, whatever protocol it is of.
use Rattle.std.proofs.Common.{◌≡◌, ℕ, ◌+◌, ◌%◌, ◌^◌, ◌<◌, ◌≤◌, Bool, true, false, List, [], ◌∷◌, ◌++◌, length, drop, cond, if◌then◌else◌, Some, Result, Ok, Err, refl, sym, ap, ◌∙◌, subst, arith, slice_index, length-drop, length-append, inl, inr}
use Rattle.std.specs.Prelude.{nat_lt, ◌⊎◌}
use Rattle.std.proofs.lemmas.Bool.{le-ltb, ltb-false}
use Rattle.std.proofs.lemmas.List.{append-nil, drop-drop, nil_from_length}
use Rattle.ice_values.specs.Cells.{Cells, byte, known, free, Begins}
use Rattle.ice_values.specs.Numbers.{number, number_bytes, card16, card32}
use Rattle.ice_values.specs.Fields.{ErrorFields, error_own, error_body, IsError, severity_number, spelling}
use Rattle.ice_values.specs.Reading.{card_at}
use Rattle.ice_values.specs.Frames.{◌>>=◌, means_at, severity_meaning, error_at}
use Rattle.ice_values.specs.declared.numbers.Endian.{Endian}
use Rattle.ice_values.specs.declared.numbers.Endian.TheVariants.{Lsb, Msb}
use Rattle.ice_values.specs.declared.severity.Severity.{Severity}
use Rattle.ice_values.specs.declared.severity.Severity.TheVariants.{CanContinue}
use Rattle.ice_values.specs.declared.refusals.DecodeRefusal.{DecodeRefusal}
use Rattle.ice_values.specs.declared.refusals.DecodeRefusal.TheVariants.{BadLength}
use Rattle.ice_values.proofs.CellLaws.{IsBytes-drop, Begins-append, Begins-split, Begins-known, from_known, Begins-free, Begins-drop, Begins-marked, Begins-opened, Begins-cell, length-known, length-free}
use Rattle.ice_values.proofs.NumberLaws.{length-number_bytes}
use Rattle.ice_values.proofs.FieldLaws.{card2, card4, guard_some}
use Rattle.ice_values.proofs.HeaderLaws.{Header, spelled, parts_of}
use Rattle.ice_values.proofs.BodyLaws.{Whole, ok_is, err_is, ok_not_err, err_not_ok}
use Rattle.ice_values.proofs.EnumLaws.{Answered, answered_meant, formed_meant, means_one, severity_enum}

-- an Error but for its minor opcode and its severity: class, sequence and values
abbrev Rest : Type 0
Rest = ℕ × ℕ × List ℕ

abbrev rest_own : Endian → Rest → Cells
rest_own e x = card16 e x.0

abbrev rest_body : Endian → Rest → Cells
rest_body e x = free 4 ++ card32 e x.1 ++ known x.2

abbrev IsRest : Rest → Type 0
IsRest x = (x.0 < 2 ^ 16) × (x.1 < 2 ^ 32) × (length x.2 % 8 ≡ 0)

abbrev rest_value : Endian → List ℕ → Rest
rest_value e bytes = (number e 2 (drop 2 bytes), number e 4 (drop 12 bytes), drop 16 bytes)

abbrev rest_at : Endian → List ℕ → Result Rest DecodeRefusal
rest_at e bytes = if nat_lt (length bytes) 16 then Err BadLength else Ok (rest_value e bytes)

rest_cases : (b : Bool) (x : Rest) (r : Result Rest DecodeRefusal) → cond b (Err BadLength) (Ok x) ≡ r → ((b ≡ false) × (r ≡ Ok x)) ⊎ (r ≡ Err BadLength)
rest_cases true x r e = inr (sym e)
rest_cases false x r e = inl (refl, sym e)

number_is : (e : Endian) (n : ℕ) (bytes : List ℕ) (x : ℕ) (rest : List ℕ) → card_at e n bytes ≡ Some (x, rest) → (n ≤ length bytes) × (number e n bytes ≡ x)
number_is e n bytes x rest is =
    let h = guard_some (nat_lt (length bytes) n) (number e n bytes, drop n bytes) (x, rest) is in
    (ltb-false (length bytes) n h.0, ap (λ (y : ℕ × List ℕ). y.0) h.1)

card_is : (e : Endian) (n : ℕ) (bytes : List ℕ) → n ≤ length bytes → card_at e n bytes ≡ Some (number e n bytes, drop n bytes)
card_is e n bytes le = rw (le-ltb (length bytes) n le) refl

rest_spelled : (e : Endian) (opcode : ℕ) (bytes : List ℕ) → Header e opcode 0 bytes → 16 ≤ length bytes → IsRest (rest_value e bytes) × Begins (spelling e opcode 0 (rest_own e (rest_value e bytes)) (rest_body e (rest_value e bytes))) bytes []
rest_spelled e opcode bytes h le =
    let class = (card2 e).takes (drop 2 bytes) (number e 2 (drop 2 bytes)) (drop 2 (drop 2 bytes)) (IsBytes-drop 2 bytes h.fits) (card_is e 2 (drop 2 bytes) (omega (arith, length-drop 2 bytes))) in
    let own : Begins (card16 e (number e 2 (drop 2 bytes))) (drop 2 bytes) (drop 4 bytes) = subst (λ (l : List ℕ). Begins (card16 e (number e 2 (drop 2 bytes))) (drop 2 bytes) l) (drop-drop 2 2 bytes) class.0 in
    let gap : Begins (free 4) (drop 8 bytes) (drop 12 bytes) = subst (λ (l : List ℕ). Begins (free 4) (drop 8 bytes) l) (drop-drop 4 8 bytes) (Begins-free 4 (drop 8 bytes) (omega (arith, length-drop 8 bytes))) in
    let sequence = (card4 e).takes (drop 12 bytes) (number e 4 (drop 12 bytes)) (drop 4 (drop 12 bytes)) (IsBytes-drop 12 bytes h.fits) (card_is e 4 (drop 12 bytes) (omega (arith, length-drop 12 bytes))) in
    let count : Begins (card32 e (number e 4 (drop 12 bytes))) (drop 12 bytes) (drop 16 bytes) = subst (λ (l : List ℕ). Begins (card32 e (number e 4 (drop 12 bytes))) (drop 12 bytes) l) (drop-drop 4 12 bytes) sequence.0 in
    let values : Begins (known (drop 16 bytes)) (drop 16 bytes) [] = Begins-known (drop 16 bytes) (drop 16 bytes) [] (sym (append-nil (drop 16 bytes))) in
    let body : Begins (rest_body e (rest_value e bytes)) (drop 8 bytes) [] =
    Begins-append (free 4 ++ card32 e (number e 4 (drop 12 bytes))) (known (drop 16 bytes)) (drop 8 bytes) (drop 16 bytes) []
    (Begins-append (free 4) (card32 e (number e 4 (drop 12 bytes))) (drop 8 bytes) (drop 12 bytes) (drop 16 bytes) gap count) values in
    let whole : length (drop 16 bytes) % 8 ≡ 0 = omega (arith, length-drop 16 bytes, h.frame.units) in
    ((class.1, sequence.1, whole), spelled e opcode 0 (card16 e (number e 2 (drop 2 bytes))) (rest_body e (rest_value e bytes)) bytes [] h own body (omega arith))

rest_again : (e : Endian) (opcode : ℕ) (bytes : List ℕ) (x : Rest) → IsRest x → Begins (spelling e opcode 0 (rest_own e x) (rest_body e x)) bytes [] → (16 ≤ length bytes) × (rest_value e bytes ≡ x)
rest_again e opcode bytes x fits h =
    let two : length (card16 e x.0) ≡ 2 = length-known (number_bytes e 2 x.0) ∙ length-number_bytes e 2 x.0 in
    let four : length (card32 e x.1) ≡ 4 = length-known (number_bytes e 4 x.1) ∙ length-number_bytes e 4 x.1 in
    let parts = parts_of e opcode 0 (card16 e x.0) (rest_body e x) bytes two h in
    let a = Begins-split (free 4 ++ card32 e x.1) (known x.2) (drop 8 bytes) parts.0 parts.1.body_at in
    let b = Begins-split (free 4) (card32 e x.1) (drop 8 bytes) a.0 a.1 in
    let gap : drop 12 bytes ≡ b.0 = sym (drop-drop 4 8 bytes) ∙ Begins-drop (free 4) (drop 8 bytes) b.0 b.1 in
    let class = number_is e 2 (drop 2 bytes) x.0 (drop 4 bytes) ((card2 e).again (drop 2 bytes) x.0 (drop 4 bytes) fits.0 parts.1.own_at) in
    let sequence = number_is e 4 b.0 x.1 a.0 ((card4 e).again b.0 x.1 a.0 fits.1 b.2) in
    let values : drop 16 bytes ≡ a.0 = sym (drop-drop 4 12 bytes) ∙ ap (drop 4) gap ∙ subst (λ (n : ℕ). drop n b.0 ≡ a.0) four (Begins-drop (card32 e x.1) b.0 a.0 b.2) in
    let size : length (rest_body e x) ≡ 8 + length x.2 =
    omega (arith, length-append (free 4 ++ card32 e x.1) (known x.2), length-append (free 4) (card32 e x.1), length-free 4, four, length-known x.2) in
    let none : length parts.0 ≡ 0 = omega (arith, parts.1.left, size, fits.2) in
    let ends : a.0 ≡ x.2 = from_known x.2 a.0 parts.0 a.2 ∙ ap (λ (l : List ℕ). x.2 ++ l) (nil_from_length parts.0 none) ∙ append-nil x.2 in
    let long : 4 ≤ length (drop 12 bytes) = subst (λ (l : List ℕ). 4 ≤ length l) (sym gap) sequence.0 in
    let same : number e 4 (drop 12 bytes) ≡ x.1 = ap (number e 4) gap ∙ sequence.1 in
    (omega (arith, long, length-drop 12 bytes), rw (class.1, same, values, ends) refl)

rest_law : (e : Endian) (opcode : ℕ) → Whole e opcode 0 (rest_own e) (rest_body e) IsRest (rest_at e)
rest_law e opcode = record {
  takes = λ bytes x h is. elim (rest_cases (nat_lt (length bytes) 16) (rest_value e bytes) (Ok x) is) [
    | inl got ↦
        subst (λ (y : Rest). IsRest y × Begins (spelling e opcode 0 (rest_own e y) (rest_body e y)) bytes []) (ok_is (rest_value e bytes) x (sym got.1))
        (rest_spelled e opcode bytes h (ltb-false (length bytes) 16 got.0))
    | inr none ↦ absurd (ok_not_err x BadLength none)
  ];
  again = λ bytes x fits h.
      let got = rest_again e opcode bytes x fits h in
      rw (le-ltb (length bytes) 16 got.0) (ap (λ (y : Rest). Ok y) got.1);
  cuts = λ bytes d is. elim (rest_cases (nat_lt (length bytes) 16) (rest_value e bytes) (Err d) is) [
    | inl got ↦ absurd (err_not_ok d (rest_value e bytes) got.1)
    | inr none ↦ err_is {B = Rest} d BadLength none
  ];
}

-- ---- with its minor opcode and its severity

abbrev made : List ℕ → Rest → Severity → ErrorFields
made bytes x severity = record { class = x.0; minor = slice_index bytes 8; severity = severity; sequence = x.1; values = x.2 }

error_is : (e : Endian) (bytes : List ℕ) → error_at e bytes ≡ (rest_at e bytes >>= λ x. means_at severity_meaning bytes 9 >>= λ severity. Ok (made bytes x severity))
unfolding error_at
error_is e bytes = elim (nat_lt (length bytes) 16) as (λ b. (cond b (Err BadLength) (means_at severity_meaning bytes 9 >>= λ severity. Ok (made bytes (rest_value e bytes) severity)))
    ≡ ((cond b (Err BadLength) (Ok (rest_value e bytes))) >>= λ (x : Rest). means_at severity_meaning bytes 9 >>= λ severity. Ok (made bytes x severity))) [ true ↦ refl | false ↦ refl ]

-- the bytes are a spelling of an Error, and the same whatever the severity's byte is
abbrev pub SpellsError : Endian → ℕ → List ℕ → ErrorFields → Type 0
SpellsError e opcode bytes error = IsError error × Begins (spelling e opcode 0 (error_own e error) (error_body byte e error)) bytes []

abbrev pub HasErrorForm : Endian → ℕ → List ℕ → ErrorFields → Type 0
HasErrorForm e opcode bytes error = IsError error × Begins (spelling e opcode 0 (error_own e error) (error_body (λ n. free 1) e error)) bytes []

with_minor : (e : Endian) (opcode minor class sequence : ℕ) (values bytes : List ℕ) (severity : Severity) → slice_index bytes 8 ≡ minor → Begins (spelling e opcode 0 (card16 e class) (free 4 ++ card32 e sequence ++ known values)) bytes []
    → Begins (spelling e opcode 0 (card16 e class) (error_body (λ n. free 1) e (record { class = class; minor = minor; severity = severity; sequence = sequence; values = values }))) bytes []
with_minor Lsb opcode minor class sequence values bytes severity at h = Begins-marked 8 minor (spelling Lsb opcode 0 (card16 Lsb class) (free 4 ++ card32 Lsb sequence ++ known values)) bytes [] at h
with_minor Msb opcode minor class sequence values bytes severity at h = Begins-marked 8 minor (spelling Msb opcode 0 (card16 Msb class) (free 4 ++ card32 Msb sequence ++ known values)) bytes [] at h

with_severity : (e : Endian) (opcode : ℕ) (error : ErrorFields) (bytes : List ℕ) → slice_index bytes 9 ≡ severity_number error.severity
    → Begins (spelling e opcode 0 (error_own e error) (error_body (λ n. free 1) e error)) bytes [] → Begins (spelling e opcode 0 (error_own e error) (error_body byte e error)) bytes []
with_severity Lsb opcode error bytes at h = Begins-marked 9 (severity_number error.severity) (spelling Lsb opcode 0 (error_own Lsb error) (error_body (λ n. free 1) Lsb error)) bytes [] at h
with_severity Msb opcode error bytes at h = Begins-marked 9 (severity_number error.severity) (spelling Msb opcode 0 (error_own Msb error) (error_body (λ n. free 1) Msb error)) bytes [] at h

without_severity : (e : Endian) (opcode : ℕ) (error : ErrorFields) (bytes : List ℕ) → Begins (spelling e opcode 0 (error_own e error) (error_body byte e error)) bytes []
    → (slice_index bytes 9 ≡ severity_number error.severity) × Begins (spelling e opcode 0 (error_own e error) (error_body (λ n. free 1) e error)) bytes []
without_severity Lsb opcode error bytes h =
    (Begins-cell 9 (severity_number error.severity) (spelling Lsb opcode 0 (error_own Lsb error) (error_body byte Lsb error)) bytes [] refl h, Begins-opened 9 (spelling Lsb opcode 0 (error_own Lsb error) (error_body byte Lsb error)) bytes [] h)
without_severity Msb opcode error bytes h =
    (Begins-cell 9 (severity_number error.severity) (spelling Msb opcode 0 (error_own Msb error) (error_body byte Msb error)) bytes [] refl h, Begins-opened 9 (spelling Msb opcode 0 (error_own Msb error) (error_body byte Msb error)) bytes [] h)

without_minor : (e : Endian) (opcode : ℕ) (error : ErrorFields) (bytes : List ℕ) → Begins (spelling e opcode 0 (error_own e error) (error_body (λ n. free 1) e error)) bytes []
    → (slice_index bytes 8 ≡ error.minor) × Begins (spelling e opcode 0 (card16 e error.class) (free 4 ++ card32 e error.sequence ++ known error.values)) bytes []
without_minor Lsb opcode error bytes h =
    (Begins-cell 8 error.minor (spelling Lsb opcode 0 (error_own Lsb error) (error_body (λ n. free 1) Lsb error)) bytes [] refl h, Begins-opened 8 (spelling Lsb opcode 0 (error_own Lsb error) (error_body (λ n. free 1) Lsb error)) bytes [] h)
without_minor Msb opcode error bytes h =
    (Begins-cell 8 error.minor (spelling Msb opcode 0 (error_own Msb error) (error_body (λ n. free 1) Msb error)) bytes [] refl h, Begins-opened 8 (spelling Msb opcode 0 (error_own Msb error) (error_body (λ n. free 1) Msb error)) bytes [] h)

pub error_answered : (e : Endian) (opcode : ℕ) (bytes : List ℕ) → Header e opcode 0 bytes → Answered (SpellsError e opcode bytes) (HasErrorForm e opcode bytes) (λ error. (9, 3) ∷ []) bytes (error_at e bytes)
error_answered e opcode bytes h =
    rw (error_is e bytes) (answered_meant e opcode 0 (rest_own e) (rest_body e) IsRest (rest_at e) (rest_law e opcode) (SpellsError e opcode bytes) (HasErrorForm e opcode bytes) (λ error. (9, 3) ∷ []) bytes
    ((9, 3) ∷ []) (λ severity bytes. slice_index bytes 9 ≡ severity_number severity) (λ bytes. means_at severity_meaning bytes 9) (means_one severity_meaning severity_number 3 9 severity_enum) (made bytes) h
    (λ x severity fits begins at. (fits, with_severity e opcode (made bytes x severity) bytes at (with_minor e opcode (slice_index bytes 8) x.0 x.1 x.2 bytes severity refl begins)))
    (λ x fits begins. (made bytes x CanContinue, (fits, with_minor e opcode (slice_index bytes 8) x.0 x.1 x.2 bytes CanContinue refl begins), refl)))

pub error_again : (e : Endian) (opcode : ℕ) (bytes : List ℕ) (error : ErrorFields) → SpellsError e opcode bytes error → error_at e bytes ≡ Ok error
error_again e opcode bytes error h =
    let severity = without_severity e opcode error bytes h.1 in
    let minor = without_minor e opcode error bytes severity.1 in
    error_is e bytes ∙ rw (
      (rest_law e opcode).again bytes (error.class, error.sequence, error.values) h.0 minor.1,
      (means_one severity_meaning severity_number 3 9 severity_enum).again bytes error.severity severity.0,
      minor.0,
    ) refl

pub error_formed : (e : Endian) (opcode : ℕ) (bytes : List ℕ) (error : ErrorFields) → HasErrorForm e opcode bytes error → error_at e bytes ≡ Err BadLength → ⊥
error_formed e opcode bytes error h is =
    formed_meant e opcode 0 (rest_own e) (rest_body e) IsRest (rest_at e) (rest_law e opcode) bytes ((9, 3) ∷ []) (λ severity bytes. slice_index bytes 9 ≡ severity_number severity)
    (λ bytes. means_at severity_meaning bytes 9) (means_one severity_meaning severity_number 3 9 severity_enum) (made bytes) (error.class, error.sequence, error.values) h.0 (without_minor e opcode error bytes h.1).1 (sym (error_is e bytes) ∙ is)
