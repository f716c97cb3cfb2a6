-- The messages that state an order, told by their bytes (ICE, chapter 7: ByteOrder).
use Rattle.std.specs.Prelude.{ℕ, List, drop, slice_index, nat_lt, Bool, ◌==◌, ◌&&◌}
use Rattle.ice_values.specs.Numbers.{number}
use Rattle.ice_values.specs.declared.numbers.Endian.{Endian}

-- major opcode 0, minor opcode 1, an order, and no units behind the header
abbrev pub is_byte_order : Endian → List ℕ → Bool
is_byte_order e frame = slice_index frame 0 == 0 && slice_index frame 1 == 1 && nat_lt (slice_index frame 2) 2 && number e 4 (drop 4 frame) == 0
