-- Where the parts of the store's file lie:
--   0        the gate of the first slot, one byte
--   32       the gate of the second slot, one byte
--   64       the first slot, 8,388,608 bytes
--   8388672  the second slot, as many
-- A gate is open where its byte is 165 (hex a5). All other bytes up to 64 say nothing.
use Rattle.std.specs.Prelude.{Bool, List, drop, slice_index, take, ℕ, ◌==◌}
use Rattle.checkpoint_slots.specs.declared.layout.Slot.{Slot}
use Rattle.checkpoint_slots.specs.declared.layout.Slot.TheVariants.{First, Second}

-- how many bytes the file has
abbrev pub store_size : ℕ
store_size = 16777280

abbrev pub gate_at : Slot → ℕ
gate_at First = 0
gate_at Second = 32

abbrev pub start_of : Slot → ℕ
start_of First = 64
start_of Second = 8388672

abbrev pub other : Slot → Slot
other First = Second
other Second = First

abbrev pub is_gate_open : ℕ → Bool
is_gate_open byte = byte == 165

abbrev pub is_open : List ℕ → Slot → Bool
is_open file slot = is_gate_open (slice_index file (gate_at slot))

-- the bytes of a slot
unfoldable pub slot_of : List ℕ → Slot → List ℕ
slot_of file slot = take 8388608 (drop (start_of slot) file)
