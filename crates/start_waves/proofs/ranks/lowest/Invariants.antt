use Rattle.std.proofs.Common.{◌≡◌, take}
use Rattle.start_waves.specs.Ranks.{lowest}
use Rattle.start_waves.proofs.ranks.lowest.Given as goal

abbrev pub invariant-loop-it : goal.invariant-loop-it
invariant-loop-it l = l.lowest ≡ lowest (take l.it-index l.programs)
