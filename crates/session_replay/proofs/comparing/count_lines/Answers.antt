use Rattle.std.proofs.Common.{length, ap, arith}
use Rattle.trace_replay.proofs.TraceLemmas.{length-lines_of}
use Rattle.session_replay.proofs.comparing.count_lines.Goals as goal

pub overflow_add-count : goal.overflow_add-count
overflow_add-count c =
    let few = length-lines_of c.args.text.now in
    let some = ap length c.next_line.ensures.lines in
    omega (arith, c.loop-left.invariant, some, few)
