use Rattle.std.proofs.Common.{◌≡◌, ◌++◌, drop}
use Rattle.start_waves.specs.Ranks.{ranks_of}
use Rattle.start_waves.proofs.ranks.ranks_of.Given as goal

abbrev pub invariant-loop-entry : goal.invariant-loop-entry
invariant-loop-entry l = l.ranks ++ ranks_of (drop l.entry-index l.entries) ≡ ranks_of l.entries
