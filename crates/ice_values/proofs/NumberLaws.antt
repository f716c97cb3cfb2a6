-- Numbers and their bytes, in either order.
use Rattle.std.proofs.Common.{◌≡◌, ℕ, zero, suc, ◌^◌, ◌<◌, ◌≤◌, List, [], ◌∷◌, ◌++◌, length, take, refl, arith}
use Rattle.std.proofs.lemmas.Nat.{le_bytes_2, be_bytes_2, le_bytes_4, be_bytes_4}
use Rattle.byteorder.specs.Numbers.{big_number-reads_back, little_number-reads_back, big_from-lt, little_from-lt, length-bytes_high_first, length-bytes_low_first}
use Rattle.ice_values.specs.Numbers.{number, number_bytes}
use Rattle.ice_values.specs.declared.numbers.Endian.{Endian}
use Rattle.ice_values.specs.declared.numbers.Endian.TheVariants.{Lsb, Msb}
use Rattle.ice_values.proofs.CellLaws.{IsBytes, IsBytes-tail}

pub length-number_bytes : (e : Endian) (n x : ℕ) → length (number_bytes e n x) ≡ n
length-number_bytes Lsb n x = length-bytes_low_first 0 n x
length-number_bytes Msb n x = length-bytes_high_first n x

-- the bytes of a number read as the number
pub number-again : (e : Endian) (n x : ℕ) (rest : List ℕ) → x < 256 ^ n → number e n (number_bytes e n x ++ rest) ≡ x
number-again Lsb n x rest lt = little_number-reads_back n x rest lt
number-again Msb n x rest lt = big_number-reads_back n x rest lt

pub number-fits : (e : Endian) (n : ℕ) (bytes : List ℕ) → IsBytes bytes → number e n bytes < 256 ^ n
number-fits Lsb n bytes fits = little_from-lt 0 n bytes fits
number-fits Msb n bytes fits = big_from-lt 0 n bytes fits

IsBytes-take : (n : ℕ) (bytes : List ℕ) → IsBytes bytes → IsBytes (take n bytes)
IsBytes-take zero bytes fits i = omega arith
IsBytes-take (suc n) [] fits i = fits i
IsBytes-take (suc n) (b ∷ bytes) fits zero = fits 0
IsBytes-take (suc n) (b ∷ bytes) fits (suc i) = IsBytes-take n bytes (IsBytes-tail b bytes fits) i

-- the bytes of the number that bytes read as are these bytes
pub back2 : (e : Endian) (bytes : List ℕ) → 2 ≤ length bytes → IsBytes bytes → number_bytes e 2 (number e 2 bytes) ≡ take 2 bytes
back2 Lsb (b0 ∷ b1 ∷ bytes) le fits = le_bytes_2 (b0 ∷ b1 ∷ []) (number Lsb 2 (b0 ∷ b1 ∷ bytes)) refl (IsBytes-take 2 (b0 ∷ b1 ∷ bytes) fits) (omega arith)
back2 Msb (b0 ∷ b1 ∷ bytes) le fits = be_bytes_2 (b0 ∷ b1 ∷ []) (number Msb 2 (b0 ∷ b1 ∷ bytes)) refl (IsBytes-take 2 (b0 ∷ b1 ∷ bytes) fits) (omega arith)
back2 e bytes le fits = absurd (omega arith)

pub back4 : (e : Endian) (bytes : List ℕ) → 4 ≤ length bytes → IsBytes bytes → number_bytes e 4 (number e 4 bytes) ≡ take 4 bytes
back4 Lsb (b0 ∷ b1 ∷ b2 ∷ b3 ∷ bytes) le fits = le_bytes_4 (b0 ∷ b1 ∷ b2 ∷ b3 ∷ []) (number Lsb 4 (b0 ∷ b1 ∷ b2 ∷ b3 ∷ bytes)) refl (IsBytes-take 4 (b0 ∷ b1 ∷ b2 ∷ b3 ∷ bytes) fits) (omega arith)
back4 Msb (b0 ∷ b1 ∷ b2 ∷ b3 ∷ bytes) le fits = be_bytes_4 (b0 ∷ b1 ∷ b2 ∷ b3 ∷ []) (number Msb 4 (b0 ∷ b1 ∷ b2 ∷ b3 ∷ bytes)) refl (IsBytes-take 4 (b0 ∷ b1 ∷ b2 ∷ b3 ∷ bytes) fits) (omega arith)
back4 e bytes le fits = absurd (omega arith)
