use Rattle.std.proofs.Common.{◌≡◌, ◌<◌, ℕ, length, slice_index}
use Rattle.sm_world.specs.Crash.{cell_of}
use Rattle.sm_world.specs.Choices.{chosen_byte, held_of}
use Rattle.sm_world.proofs.crash.crash_file.Given as goal

abbrev pub invariant-loop-byte : goal.invariant-loop-byte
invariant-loop-byte l = (length l.file.items ≡ l.byte-index) × ((i : ℕ) → i < l.byte-index → slice_index l.file.items i ≡ chosen_byte l.choice (cell_of l.first l.effects i) (held_of l.first l.effects i))
