use Rattle.std.proofs.Common.{length}
use Rattle.session_places.proofs.ListLaws.{Goes}
use Rattle.session_places.proofs.addresses.session_places.Given as goal

abbrev pub invariant-loop-address : goal.invariant-loop-address
invariant-loop-address l = Goes l.text l.places l.rest

abbrev pub decreases-loop-address : goal.decreases-loop-address
decreases-loop-address l = length l.rest
