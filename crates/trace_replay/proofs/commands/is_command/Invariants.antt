use Rattle.std.proofs.Common.{◌↔◌, length}
use Rattle.trace_replay.specs.Commands.{fields_of, GoOn, IsCommand}
use Rattle.trace_replay.proofs.commands.is_command.Given as goal

abbrev pub invariant-loop-next : goal.invariant-loop-next
invariant-loop-next l = GoOn l.place (fields_of l.left) ↔ IsCommand l.text

abbrev pub decreases-loop-next : goal.decreases-loop-next
decreases-loop-next l = length l.left
