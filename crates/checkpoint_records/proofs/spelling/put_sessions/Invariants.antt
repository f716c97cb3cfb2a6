use Rattle.std.proofs.Common.{◌≡◌, ◌++◌, take}
use Rattle.std.specs.Prelude.{flat_map}
use Rattle.ice_values.specs.Cells.{zeros}
use Rattle.checkpoint_records.proofs.SpellLaws.{session_cells}
use Rattle.checkpoint_records.proofs.spelling.put_sessions.Given as goal

abbrev pub invariant-loop-session : goal.invariant-loop-session
invariant-loop-session l = l.out ≡ l.fn.out ++ zeros (flat_map session_cells (take l.session-index l.sessions))
