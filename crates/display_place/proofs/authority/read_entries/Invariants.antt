use Rattle.std.proofs.Common.{length}
use Rattle.display_place.proofs.EntryLaws.{Goes}
use Rattle.display_place.proofs.authority.read_entries.Given as goal

abbrev pub invariant-loop-entries : goal.invariant-loop-entries
invariant-loop-entries l = Goes l.bytes l.entries l.rest

abbrev pub decreases-loop-entries : goal.decreases-loop-entries
decreases-loop-entries l = length l.rest
