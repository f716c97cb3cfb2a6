use Rattle.std.proofs.Common.{length}
use Rattle.trace_replay.proofs.TraceLemmas.{ReadTo}
use Rattle.trace_replay.proofs.reading.read_lines.Given as goal

abbrev pub invariant-loop-left : goal.invariant-loop-left
invariant-loop-left l = ReadTo l.limit l.text l.left l.opening l.number l.lines

abbrev pub decreases-loop-left : goal.decreases-loop-left
decreases-loop-left l = length l.left
