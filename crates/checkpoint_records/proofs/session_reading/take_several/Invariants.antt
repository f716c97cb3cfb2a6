use Rattle.std.proofs.Common.{◌≡◌, ◌++◌, length}
use Rattle.std.specs.Prelude.{flat_map}
use Rattle.ice_values.specs.Cells.{zeros}
use Rattle.checkpoint_records.specs.Parts.{AreSessions}
use Rattle.checkpoint_records.specs.Spelling.{part_cells, session_parts}
use Rattle.checkpoint_records.specs.declared.head.Format.TheVariants.{Several}
use Rattle.checkpoint_records.proofs.session_reading.take_several.Given as goal

abbrev pub invariant-loop-i : goal.invariant-loop-i
invariant-loop-i l = AreSessions l.head l.sessions × (l.bytes ≡ zeros (flat_map part_cells (flat_map (session_parts Several) l.sessions)) ++ l.rest) × (length l.sessions ≡ l._i)
