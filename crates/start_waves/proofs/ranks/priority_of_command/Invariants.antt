use Rattle.std.proofs.Common.{◌≡◌, take}
use Rattle.start_waves.specs.Ranks.{priority_of_command}
use Rattle.start_waves.proofs.ranks.priority_of_command.Given as goal

abbrev pub invariant-loop-it : goal.invariant-loop-it
invariant-loop-it l = l.lowest ≡ priority_of_command l.command (take l.it-index l.ranks)
