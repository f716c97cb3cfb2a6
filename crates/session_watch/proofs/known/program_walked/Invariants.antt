use Rattle.std.proofs.Common.{◌≡◌, length}
use Rattle.std.specs.Prelude.{unwrap_or}
use Rattle.ice_values.specs.Walks.{walk_left}
use Rattle.session_watch.specs.Knowing.{latest, set_by}
use Rattle.session_watch.proofs.known.program_walked.Given as goal

abbrev pub decreases-loop-view : goal.decreases-loop-view
decreases-loop-view l = length (walk_left l.left)

abbrev pub invariant-loop-view : goal.invariant-loop-view
invariant-loop-view l = (unwrap_or (latest set_by (walk_left l.left)) l.program ≡ unwrap_or (latest set_by (walk_left l.fn.walk)) l.fn.before) × (l.left.endian ≡ l.endian)
