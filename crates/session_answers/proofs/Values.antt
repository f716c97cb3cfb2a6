-- The values of a BadValue are spelled part by part, and fill whole units.
use Rattle.std.proofs.Common.{◌≡◌, refl, ℕ, zero, suc, ◌+◌, ◌%◌, List, ◌∷◌, ◌++◌, length, ap, sym, subst, ◌∙◌, arith}
use Rattle.std.specs.Prelude.{replicate}
use Rattle.byteorder.specs.Endian.{little_bytes}
use Rattle.ice_values.specs.Cells.{free, pad_len, zeros}
use Rattle.session_model.specs.Errors.{value_at}
use Rattle.session_model.proofs.Short.{length-value}

zeros-free : (n : ℕ) → zeros (free n) ≡ replicate n 0
zeros-free zero = refl
zeros-free (suc n) = ap (λ (bytes : List ℕ). 0 ∷ bytes) (zeros-free n)

pub spelled : (at : ℕ) (bytes three four : List ℕ) (n : ℕ) → three ≡ little_bytes 4 at ++ little_bytes 4 (length bytes) ++ bytes → n ≡ pad_len (length bytes) 8 → four ≡ three ++ zeros (free n) → four ≡ value_at at bytes
spelled at bytes three four n front padding grown =
    grown ∙ ap (λ (xs : List ℕ). xs ++ zeros (free n)) front ∙ ap (λ (m : ℕ). little_bytes 4 at ++ little_bytes 4 (length bytes) ++ bytes ++ zeros (free m)) padding
    ∙ ap (λ (xs : List ℕ). little_bytes 4 at ++ little_bytes 4 (length bytes) ++ bytes ++ xs) (zeros-free (pad_len (length bytes) 8))

filled : (n : ℕ) → (8 + (n + pad_len n 8)) % 8 ≡ 0
filled n = omega arith

pub units : (at : ℕ) (bytes values : List ℕ) → values ≡ value_at at bytes → length values % 8 ≡ 0
units at bytes values is = subst (λ (n : ℕ). n % 8 ≡ 0) (sym (ap (λ (xs : List ℕ). length xs) is ∙ length-value at bytes)) (filled (length bytes))
