use Rattle.std.proofs.Common.{length}
use Rattle.trace_reading.proofs.CommandLemmas.{Putting}
use Rattle.trace_reading.proofs.commands.put_command.Given as goal

abbrev pub invariant-loop-rest : goal.invariant-loop-rest
invariant-loop-rest l = Putting l.text l.left l.initial.out l.out

abbrev pub decreases-loop-rest : goal.decreases-loop-rest
decreases-loop-rest l = length l.left
