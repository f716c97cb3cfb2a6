use Rattle.std.proofs.Common.{◌≡◌, ◌++◌, take}
use Rattle.std.specs.Prelude.{flat_map}
use Rattle.ice_values.specs.Cells.{zeros}
use Rattle.checkpoint_records.specs.Spelling.{entry_cells}
use Rattle.checkpoint_records.proofs.spelling.put_entries.Given as goal

abbrev pub invariant-loop-entry : goal.invariant-loop-entry
invariant-loop-entry l = l.out ≡ l.fn.out ++ zeros (flat_map entry_cells (take l.entry-index l.entries))
