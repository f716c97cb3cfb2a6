use Rattle.std.proofs.Common.{length}
use Rattle.std.specs.List.{IsDistinct}
use Rattle.std.specs.Str.{bytes_eq}
use Rattle.checkpoint_records.specs.Rules.{ids_of}
use Rattle.session_return.proofs.obstacles.ids_differ.Given as goal

abbrev pub invariant-loop-left : goal.invariant-loop-left
invariant-loop-left l = (IsDistinct bytes_eq (ids_of l.left) → IsDistinct bytes_eq (ids_of l.entries)) × (IsDistinct bytes_eq (ids_of l.entries) → IsDistinct bytes_eq (ids_of l.left))

abbrev pub decreases-loop-left : goal.decreases-loop-left
decreases-loop-left l = length l.left
