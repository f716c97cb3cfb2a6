-- What a header says stays the same as more bytes come behind it.
use Rattle.std.proofs.Common.{◌≡◌, ℕ, ◌<◌, ◌≤◌, List, [], ◌∷◌, ◌++◌, length, drop, Option, Some, None, refl, sym, ◌∙◌, arith, nat_lt, false}
use Rattle.std.proofs.lemmas.Bool.{lt-ltb, le-ltb}
use Rattle.std.proofs.lemmas.Bool.Decides.{nat_tests}
use Rattle.ice_values.specs.Numbers.{number}
use Rattle.ice_values.specs.declared.numbers.Endian.{Endian}
use Rattle.ice_values.specs.declared.numbers.Endian.TheVariants.{Lsb, Msb}
use Rattle.ice_framing.specs.Frames.{units_in, endian_in}

-- a list of 8 and more isn't below 8
eight_up : (b0 b1 b2 b3 b4 b5 b6 b7 : ℕ) (bytes : List ℕ) → nat_lt (length (b0 ∷ b1 ∷ b2 ∷ b3 ∷ b4 ∷ b5 ∷ b6 ∷ b7 ∷ bytes)) 8 ≡ false
eight_up b0 b1 b2 b3 b4 b5 b6 b7 bytes = grind (arith, nat_tests)

units_whole : (e : Endian) (b0 b1 b2 b3 b4 b5 b6 b7 : ℕ) (bytes : List ℕ)
    → units_in (Some e) (b0 ∷ b1 ∷ b2 ∷ b3 ∷ b4 ∷ b5 ∷ b6 ∷ b7 ∷ bytes) ≡ units_in (Some e) (b0 ∷ b1 ∷ b2 ∷ b3 ∷ b4 ∷ b5 ∷ b6 ∷ b7 ∷ [])
units_whole Lsb b0 b1 b2 b3 b4 b5 b6 b7 bytes = rw (eight_up b0 b1 b2 b3 b4 b5 b6 b7 bytes) refl
units_whole Msb b0 b1 b2 b3 b4 b5 b6 b7 bytes = rw (eight_up b0 b1 b2 b3 b4 b5 b6 b7 bytes) refl

pub units_in-append : (order : Option Endian) (bytes more : List ℕ) → 8 ≤ length bytes → units_in order (bytes ++ more) ≡ units_in order bytes
units_in-append None bytes more whole = refl
units_in-append (Some e) (b0 ∷ b1 ∷ b2 ∷ b3 ∷ b4 ∷ b5 ∷ b6 ∷ b7 ∷ bytes) more whole =
    units_whole e b0 b1 b2 b3 b4 b5 b6 b7 (bytes ++ more) ∙ sym (units_whole e b0 b1 b2 b3 b4 b5 b6 b7 bytes)
units_in-append (Some e) bytes more whole = absurd (omega arith)

pub endian_in-append : (order : Option Endian) (bytes more : List ℕ) → 8 ≤ length bytes → endian_in order (bytes ++ more) ≡ endian_in order bytes
endian_in-append (Some e) bytes more whole = refl
endian_in-append None (b0 ∷ b1 ∷ b2 ∷ bytes) more whole = refl
endian_in-append None bytes more whole = absurd (omega arith)

-- a header that isn't whole states nothing
pub units_in-short : (order : Option Endian) (bytes : List ℕ) → length bytes < 8 → units_in order bytes ≡ 0
units_in-short None bytes short = refl
units_in-short (Some e) bytes short = rw (lt-ltb (length bytes) 8 short) refl

-- a header that is whole states a number
pub units_in-number : (e : Endian) (bytes : List ℕ) → 8 ≤ length bytes → units_in (Some e) bytes ≡ number e 4 (drop 4 bytes)
units_in-number e bytes whole = rw (le-ltb (length bytes) 8 whole) refl
