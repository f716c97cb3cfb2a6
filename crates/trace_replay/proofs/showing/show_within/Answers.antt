use Rattle.std.proofs.Common.{inl, inr, arith, rules}
use Rattle.trace_replay.proofs.TraceLemmas.{begins, counts, crowds, empty_by, empty_of, opens_too_long, says_none, too_long, within_by}
use Rattle.trace_replay.proofs.ReadingLemmas.{shows_all, shows_none, shows_on}
use Rattle.trace_replay.proofs.showing.show_within.Goals as goal
use Rattle.trace_replay.proofs.showing.show_within.Goals.{else-is_empty-via-then-is_empty+else-trace-limit, else-is_empty-via-else-is_empty, else-is_empty-2-via-then-is_empty-2+else-trace-limit-2, else-is_empty-2-via-else-is_empty-2}

pub returns-in-Some : goal.returns-in-Some
returns-in-Some c =
    let found = rw c.in-Some.is at c.in_ok-crowded.ensures in
    crowds c.args.limit c.args.trace.now c.in_ok-opening.opening c.in-Some.at c.in_ok-opening.ensures found.0 found.1

pub returns-then-trace-limit : goal.returns-then-trace-limit
returns-then-trace-limit c =
    opens_too_long c.args.limit c.args.trace.now c.behind-left.result.now c.in_ok-opening.opening c.size-number.result c.in_ok-opening.ensures c.behind-left.ensures c.size-number.ensures (empty_by c.behind-left.result.now c.if-is_empty.ensures) (omega arith) (rw c.in-None.is at c.in_ok-crowded.ensures)

pub loop-left-init : goal.loop-left-init
loop-left-init c =
    shows_none c.args.limit c.args.trace.now c.behind-left.result.now c.in_ok-opening.opening c.new-watch.result c.new-text.result c.size-number.result
    (begins c.args.limit c.args.trace.now c.behind-left.result.now c.in_ok-opening.opening c.size-number.result c.in_ok-opening.ensures c.behind-left.ensures c.size-number.ensures
    (within_by c.args.limit c.args.trace.now c.behind-left.result.now (elim c.else-is_empty.branch [
      | else-is_empty-via-then-is_empty+else-trace-limit w ↦ inr (omega arith)
      | else-is_empty-via-else-is_empty w ↦ inl w.if-is_empty.ensures
    ])) (rw c.in-None.is at c.in_ok-crowded.ensures))
    c.new-text.ensures c.new-watch.ensures (omega arith)

pub overflow_add-number : goal.overflow_add-number
overflow_add-number c =
    let few = counts c.args.limit c.args.trace.now c.loop-left.left.now c.next_line.result.0.now c.next_line.result.1.now c.in_ok-opening.opening c.loop-left.number c.loop-left.invariant.said c.loop-left.invariant.read c.next_line.ensures.lines in
    omega (arith, few)

pub returns-then-trace-limit-2 : goal.returns-then-trace-limit-2
returns-then-trace-limit-2 c =
    too_long c.args.limit c.args.trace.now c.loop-left.left.now c.next_line.result.0.now c.next_line.result.1.now c.in_ok-opening.opening c.loop-left.number c.loop-left.invariant.said c.loop-left.invariant.read c.next_line.ensures.lines (empty_by c.next_line.result.1.now c.if-is_empty-2.ensures) (omega arith)

pub returns-in-Err-BadLine : goal.returns-in-Err-BadLine
returns-in-Err-BadLine c =
    says_none c.args.limit c.args.trace.now c.loop-left.left.now c.next_line.result.0.now c.next_line.result.1.now c.in_ok-opening.opening c.loop-left.number c.loop-left.invariant.said c.loop-left.invariant.read c.next_line.ensures.lines (rw c.in-Err-BadLine.field-0-is at c.in-Err-BadLine.ensures.refused)

pub loop-left-preserved : goal.loop-left-preserved
loop-left-preserved c =
    shows_on c.args.limit c.args.trace.now c.loop-left.left.now c.next_line.result.0.now c.next_line.result.1.now c.in_ok-opening.opening c.loop-left.watch c.take_line.new.watch c.loop-left.text c.take_line.new.out c.loop-left.number c.in-Ok.ensures.taken.0 c.loop-left.invariant c.next_line.ensures.lines c.in-Ok.ensures.taken.1 c.in-Ok.ensures.taken.2
    (within_by c.args.limit c.args.trace.now c.next_line.result.1.now (elim c.else-is_empty-2.branch [
      | else-is_empty-2-via-then-is_empty-2+else-trace-limit-2 w ↦ inr (omega arith)
      | else-is_empty-2-via-else-is_empty-2 w ↦ inl w.if-is_empty-2.ensures
    ]))

pub returns : goal.returns
returns c = shows_all c.args.limit c.args.trace.now c.loop-left.left.now c.in_ok-opening.opening c.loop-left.watch c.loop-left.text c.loop-left.number c.loop-left.invariant (empty_of c.loop-left.left.now (search rules))
