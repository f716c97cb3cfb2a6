-- IDs and their digits.
use Rattle.std.proofs.Common.{◌≡◌, ℕ, zero, suc, ◌^◌, ◌<◌, ◌≤◌, true, false, List, [], ◌∷◌, ◌++◌, length, take, drop, Some, None, Result, Ok, Err, refl, sym, ap, ◌∙◌, subst, arith, slice_index, length-append, take-append-drop, append_assoc, codes}
use Rattle.std.specs.Result.{MatchResult, OnOk, IsOk, is_err}
use Rattle.std.specs.Str.{bytes_eq}
use Rattle.std.specs.Cmp.Lexicographic.{bytes_decides}
use Rattle.std.proofs.lemmas.List.{take_at, drop_at, take_all, append-nil}
use Rattle.std.proofs.lemmas.Result.{MatchResult-at_ok}
use Rattle.byteorder.specs.Endian.{big_bytes}
use Rattle.hex.specs.Hex.{encode_lower, decode_sized, lower_digits}
use Rattle.hex.specs.declared.error.FromHexError.{FromHexError}
use Rattle.hex.proofs.HexLemmas.{length-encode_with, decode_sized-encode_lower, decode_sized-twice, decode_of-ok}
use Rattle.ice_values.specs.Numbers.{number}
use Rattle.ice_values.specs.Reading.{IsBytes}
use Rattle.ice_values.specs.declared.numbers.Endian.TheVariants.{Msb}
use Rattle.ice_values.proofs.NumberLaws.{back4, number-again, number-fits}
use Rattle.checkpoint_records.specs.Finding.{Finds}
use Rattle.checkpoint_records.specs.Rules.{hex8, client_id}
use Rattle.checkpoint_records.proofs.FindLaws.{nothing}

small : (n i : ℕ) → slice_index (big_bytes 4 n) i < 256
small n zero = omega arith
small n (suc zero) = omega arith
small n (suc (suc zero)) = omega arith
small n (suc (suc (suc zero))) = omega arith
small n (suc (suc (suc (suc i)))) = omega arith

pub length-hex8 : (n : ℕ) → length (hex8 n) ≡ 8
length-hex8 n = length-encode_with lower_digits (big_bytes 4 n)

-- eight digits at the front
pub hex8_front : (text : List ℕ) (n : ℕ) (rest : List ℕ) → text ≡ hex8 n ++ rest → (8 ≤ length text) × (take 8 text ≡ hex8 n) × (drop 8 text ≡ rest)
hex8_front text n rest is = (
  omega (arith, ap length is, length-append (hex8 n) rest, length-hex8 n),
  ap (take 8) is ∙ take_at (hex8 n) rest 8 (length-hex8 n),
  ap (drop 8) is ∙ drop_at (hex8 n) rest 8 (length-hex8 n),
)

pub digits_read : (digits : List ℕ) (n : ℕ) → digits ≡ hex8 n → decode_sized digits 4 ≡ Ok (big_bytes 4 n)
digits_read digits n is = ap (λ (d : List ℕ). decode_sized d 4) is ∙ decode_sized-encode_lower (big_bytes 4 n) 4 refl (small n)

pub read_again : (bytes : List ℕ) (n : ℕ) → n < 2 ^ 32 → bytes ≡ big_bytes 4 n → number Msb 4 bytes ≡ n
read_again bytes n lt is = ap (number Msb 4) is ∙ number-again Msb 4 n [] lt

-- four bytes in hex are the digits of their number
pub spelled_again : (bytes : List ℕ) → IsBytes bytes → length bytes ≡ 4 → encode_lower bytes ≡ hex8 (number Msb 4 bytes)
spelled_again bytes fits four =
    let e : big_bytes 4 (number Msb 4 bytes) ≡ bytes = back4 Msb bytes (omega (arith, four)) fits ∙ take_all 4 bytes (omega (arith, four)) in
    ap encode_lower (sym e)

-- ---- eight digits that are decoded, encoded again and compared

-- what decoding answers at the digits of a number
pub decoded : (digits out : List ℕ) (r : Result (Unit {0}) FromHexError) (n : ℕ) → digits ≡ hex8 n
    → MatchResult (decode_sized digits 4) (λ bytes. (r ≡ Ok tt) × (out ≡ bytes)) (λ e. r ≡ Err e) → (r ≡ Ok tt) × (out ≡ big_bytes 4 n)
decoded digits out r n is told = MatchResult-at_ok (λ bytes. (r ≡ Ok tt) × (out ≡ bytes)) (λ e. r ≡ Err e) (big_bytes 4 n) (digits_read digits n is) told

decoded_bytes : (digits out : List ℕ) (r : Result (Unit {0}) FromHexError) → length digits ≡ 8
    → MatchResult (decode_sized digits 4) (λ bytes. (r ≡ Ok tt) × (out ≡ bytes)) (λ e. r ≡ Err e) → is_err r ≡ false → IsBytes out × (length out ≡ 4)
decoded_bytes digits out r len told fine = by (decode_sized digits 4) refl told
  where
    by : (d : Result (List ℕ) FromHexError) → decode_sized digits 4 ≡ d → MatchResult d (λ bytes. (r ≡ Ok tt) × (out ≡ bytes)) (λ e. r ≡ Err e) → IsBytes out × (length out ≡ 4)
    by (Ok bytes) e h =
        let ok = decode_of-ok digits bytes (sym (decode_sized-twice digits 4 (omega (arith, len))) ∙ e) in
        (subst IsBytes (sym h.1) ok.3, ap length h.1 ∙ omega (arith, ok.2, len))
    by (Err d) e h = absurd (let bad : is_err r ≡ true = ap is_err h in cc)

encoded : (r : Result (Unit {0}) FromHexError) (P : Type 0) → IsOk r → OnOk r P → P
encoded (Ok x) P ok h = h
encoded (Err e) P ok h = absurd cc

module _ (text digits tail out lower : List ℕ) (r s : Result (Unit {0}) FromHexError) (cut : digits ≡ take 8 text) (back : tail ≡ drop 8 text)
    (told : MatchResult (decode_sized digits 4) (λ bytes. (r ≡ Ok tt) × (out ≡ bytes)) (λ e. r ≡ Err e)) where
  pub not_digits : is_err r ≡ true → Finds hex8 (λ n. n < 2 ^ 32) text None
  not_digits bad = nothing hex8 (λ n. n < 2 ^ 32) text (λ n rest lt is.
      let h = decoded digits out r n (cut ∙ (hex8_front text n rest is).1) told in
      let good : is_err r ≡ false = ap is_err h.0 in
      absurd (let e : true ≡ false = sym bad ∙ good in cc))

  lower_is : IsOk s → OnOk s (lower ≡ encode_lower out) → lower ≡ encode_lower out
  lower_is ok h = encoded s (lower ≡ encode_lower out) ok h

  pub not_lower : IsOk s → OnOk s (lower ≡ encode_lower out) → bytes_eq digits lower ≡ false → Finds hex8 (λ n. n < 2 ^ 32) text None
  not_lower ok h other = nothing hex8 (λ n. n < 2 ^ 32) text (λ n rest lt is.
      let digits_are = cut ∙ (hex8_front text n rest is).1 in
      let d = decoded digits out r n digits_are told in
      let same : digits ≡ lower = digits_are ∙ sym (lower_is ok h ∙ ap encode_lower d.1) in
      absurd (let e : true ≡ false = sym ((bytes_decides digits lower).1 same) ∙ other in cc))

  pub hex8_found : (k : ℕ) → 8 ≤ length text → length digits ≡ 8 → is_err r ≡ false → IsOk s → OnOk s (lower ≡ encode_lower out) → bytes_eq digits lower ≡ true → k ≡ number Msb 4 out → Finds hex8 (λ n. n < 2 ^ 32) text (Some (k, tail))
  hex8_found k enough len fine ok h same value =
      let b = decoded_bytes digits out r len told fine in
      let digits_are : digits ≡ hex8 k = (bytes_decides digits lower).0 same ∙ lower_is ok h ∙ spelled_again out b.0 b.1 ∙ ap hex8 (sym value) in
      let fits : k < 2 ^ 32 = omega (arith, value, number-fits Msb 4 out b.0) in
      record {
        some = (fits, sym (take-append-drop 8 text) ∙ rw (← cut, ← back) (ap (λ (l : List ℕ). l ++ tail) digits_are));
        only = λ n rest lt is.
            let front = hex8_front text n rest is in
            let d = decoded digits out r n (cut ∙ front.1) told in
            let e : k ≡ n = value ∙ read_again out n lt d.1 in
            let f : tail ≡ rest = back ∙ front.2 in
            rw (e, f) refl;
      }

-- what stands behind the first word of an ID
pub id_rest : (epoch n : ℕ) (id : List ℕ) → id ≡ client_id epoch n → drop 4 id ≡ hex8 epoch ++ 45 ∷ hex8 n
id_rest epoch n id is = ap (drop 4) is ∙ append_assoc (hex8 epoch) (45 ∷ []) (hex8 n)

pub id_made : (epoch n : ℕ) (id text rest last : List ℕ) → id ≡ codes "smd-" ++ text → text ≡ hex8 epoch ++ rest → rest ≡ codes "-" ++ last → last ≡ hex8 n ++ [] → id ≡ client_id epoch n
id_made epoch n id text rest last a b d e = a ∙ ap (λ (l : List ℕ). codes "smd-" ++ l) (b ∙ ap (λ (l : List ℕ). hex8 epoch ++ l) (d ∙ ap (λ (l : List ℕ). 45 ∷ l) (e ∙ append-nil (hex8 n))) ∙ sym (append_assoc (hex8 epoch) (45 ∷ []) (hex8 n)))
