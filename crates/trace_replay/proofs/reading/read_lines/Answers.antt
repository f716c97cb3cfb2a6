use Rattle.std.proofs.Common.{inl, inr, arith, rules}
use Rattle.trace_replay.proofs.TraceLemmas.{begins, counts, crowds, empty_by, empty_of, ends, goes_on, opens_too_long, says_none, too_long, within_by}
use Rattle.trace_replay.proofs.reading.read_lines.Goals as goal
use Rattle.trace_replay.proofs.reading.read_lines.Goals.{else-is_empty-via-then-is_empty+else-text-limit, else-is_empty-via-else-is_empty, else-is_empty-2-via-then-is_empty-2+else-text-limit-2, else-is_empty-2-via-else-is_empty-2}

pub returns-in-Some : goal.returns-in-Some
returns-in-Some c =
    let found = rw c.in-Some.is at c.in_ok-crowded.ensures in
    record { reads = crowds c.args.limit c.args.text.now c.in_ok-opening.opening c.in-Some.at c.in_ok-opening.ensures found.0 found.1 }

pub returns-then-text-limit : goal.returns-then-text-limit
returns-then-text-limit c = record {
  reads =
      opens_too_long c.args.limit c.args.text.now c.behind-left.result.now c.in_ok-opening.opening c.size-number.result c.in_ok-opening.ensures c.behind-left.ensures c.size-number.ensures (empty_by c.behind-left.result.now c.if-is_empty.ensures) (omega arith) (rw c.in-None.is at c.in_ok-crowded.ensures);
}

pub loop-left-init : goal.loop-left-init
loop-left-init c =
    rw (c.new-lines.ensures) (begins c.args.limit c.args.text.now c.behind-left.result.now c.in_ok-opening.opening c.size-number.result c.in_ok-opening.ensures c.behind-left.ensures c.size-number.ensures
    (within_by c.args.limit c.args.text.now c.behind-left.result.now (elim c.else-is_empty.branch [
      | else-is_empty-via-then-is_empty+else-text-limit w ↦ inr (omega arith)
      | else-is_empty-via-else-is_empty w ↦ inl w.if-is_empty.ensures
    ])) (rw c.in-None.is at c.in_ok-crowded.ensures))

pub overflow_add-number : goal.overflow_add-number
overflow_add-number c =
    let few = counts c.args.limit c.args.text.now c.loop-left.left.now c.next_line.result.0.now c.next_line.result.1.now c.in_ok-opening.opening c.loop-left.number c.loop-left.lines c.loop-left.invariant c.next_line.ensures.lines in
    omega (arith, few)

pub returns-then-text-limit-2 : goal.returns-then-text-limit-2
returns-then-text-limit-2 c = record {
  reads =
      too_long c.args.limit c.args.text.now c.loop-left.left.now c.next_line.result.0.now c.next_line.result.1.now c.in_ok-opening.opening c.loop-left.number c.loop-left.lines c.loop-left.invariant c.next_line.ensures.lines (empty_by c.next_line.result.1.now c.if-is_empty-2.ensures) (omega arith);
}

pub returns-in-Err-BadLine : goal.returns-in-Err-BadLine
returns-in-Err-BadLine c = record {
  reads =
      says_none c.args.limit c.args.text.now c.loop-left.left.now c.next_line.result.0.now c.next_line.result.1.now c.in_ok-opening.opening c.loop-left.number c.loop-left.lines c.loop-left.invariant c.next_line.ensures.lines (rw c.in-Err-BadLine.field-0-is at c.in-Err-BadLine.ensures.refused);
}

pub loop-left-preserved : goal.loop-left-preserved
loop-left-preserved c =
    rw (c.in-Ok.ensures.taken.2) (goes_on c.args.limit c.args.text.now c.loop-left.left.now c.next_line.result.0.now c.next_line.result.1.now c.in_ok-opening.opening c.loop-left.number c.loop-left.lines c.in-Ok.ensures.taken.0 c.loop-left.invariant c.next_line.ensures.lines c.in-Ok.ensures.taken.1
    (within_by c.args.limit c.args.text.now c.next_line.result.1.now (elim c.else-is_empty-2.branch [
      | else-is_empty-2-via-then-is_empty-2+else-text-limit-2 w ↦ inr (omega arith)
      | else-is_empty-2-via-else-is_empty-2 w ↦ inl w.if-is_empty-2.ensures
    ])))

pub returns : goal.returns
returns c = record {
  reads =
      ends c.args.limit c.args.text.now c.loop-left.left.now c.in_ok-opening.opening c.loop-left.number c.loop-left.lines c.loop-left.invariant (empty_of c.loop-left.left.now (search rules));
}
