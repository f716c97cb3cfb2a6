use Rattle.std.proofs.Common.{◌≡◌, length}
use Rattle.std.specs.List.{list_any}
use Rattle.ice_values.specs.Walks.{walk_left}
use Rattle.client_quirks.specs.Meanings.{is_amended}
use Rattle.client_quirks.proofs.views.sets_amended.Given as goal

abbrev pub decreases-loop-view : goal.decreases-loop-view
decreases-loop-view l = length (walk_left l.left)

abbrev pub invariant-loop-view : goal.invariant-loop-view
invariant-loop-view l = (list_any is_amended (walk_left l.left) ≡ list_any is_amended (walk_left l.fn.walk)) × (l.left.endian ≡ l.endian)
