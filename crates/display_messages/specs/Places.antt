-- Numbers in a part, at the places that the protocol gives them.
use Rattle.std.specs.Prelude.{ℕ, zero, suc, List, [], ◌∷◌, drop}
use Rattle.ice_values.specs.Numbers.{number}
use Rattle.ice_values.specs.declared.numbers.Endian.TheVariants.{Lsb}

-- the number of two bytes, and the one of four, at a place
abbrev pub short_at : ℕ → List ℕ → ℕ
short_at at bytes = number Lsb 2 (drop at bytes)

abbrev pub long_at : ℕ → List ℕ → ℕ
long_at at bytes = number Lsb 4 (drop at bytes)

-- so many numbers of four bytes, one after the other
abbrev pub longs_in : ℕ → List ℕ → List ℕ
longs_in zero bytes = []
longs_in (suc n) bytes = long_at 0 bytes ∷ longs_in n (drop 4 bytes)
