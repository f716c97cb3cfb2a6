use Rattle.std.proofs.Common.{◌≡◌, take}
use Rattle.owned_lists.proofs.lists.ListOfDuplicate.copy.Given as goal

abbrev pub invariant-loop-item : goal.invariant-loop-item
invariant-loop-item g l = l.twin ≡ take l.item-index l.item-items
