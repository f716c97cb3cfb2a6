-- Numbers of a fixed width in either order.
use Rattle.std.specs.Prelude.{ℕ, List}
use Rattle.byteorder.specs.Endian.{big_bytes, big_number, little_bytes, little_number}
use Rattle.ice_values.specs.Cells.{Cells, known}
use Rattle.ice_values.specs.declared.numbers.Endian.{Endian}
use Rattle.ice_values.specs.declared.numbers.Endian.TheVariants.{Lsb, Msb}

-- the number that the first n bytes spell
abbrev pub number : Endian → ℕ → List ℕ → ℕ
number Lsb n bytes = little_number n bytes
number Msb n bytes = big_number n bytes

-- the n bytes that spell a number
abbrev pub number_bytes : Endian → ℕ → ℕ → List ℕ
number_bytes Lsb n x = little_bytes n x
number_bytes Msb n x = big_bytes n x

abbrev pub card16 : Endian → ℕ → Cells
card16 e x = known (number_bytes e 2 x)

abbrev pub card32 : Endian → ℕ → Cells
card32 e x = known (number_bytes e 4 x)
