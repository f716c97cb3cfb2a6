use Rattle.std.proofs.Common.{◌≡◌, length}
use Rattle.std.specs.Prelude.{codes}
use Rattle.std.specs.List.{list_any}
use Rattle.ice_values.specs.Walks.{walk_left}
use Rattle.xsmp_properties.specs.Tables.{is_named}
use Rattle.manager_machine.proofs.settings.sets_discard.Given as goal

abbrev pub decreases-loop-view : goal.decreases-loop-view
decreases-loop-view l = length (walk_left l.left)

abbrev pub invariant-loop-view : goal.invariant-loop-view
invariant-loop-view l = list_any (is_named (codes "DiscardCommand")) (walk_left l.left) ≡ list_any (is_named (codes "DiscardCommand")) (walk_left l.fn.walk)
