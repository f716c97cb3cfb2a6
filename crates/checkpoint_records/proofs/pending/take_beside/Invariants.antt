use Rattle.std.proofs.Common.{◌≡◌, length}
use Rattle.ice_values.specs.declared.numbers.Endian.TheVariants.{Lsb}
use Rattle.checkpoint_records.specs.Finding.{AreInFront}
use Rattle.checkpoint_records.specs.Parts.{ArePending}
use Rattle.checkpoint_records.specs.Rules.{command_cells}
use Rattle.checkpoint_records.proofs.pending.take_beside.Given as goal

abbrev pub invariant-loop-i : goal.invariant-loop-i
invariant-loop-i l = AreInFront (command_cells Lsb) (ArePending l.discards) l.bytes l.pending l.rest × (length l.pending ≡ l._i)
