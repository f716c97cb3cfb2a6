use Rattle.std.proofs.Common.{arith, length, sym}
use Rattle.std.proofs.lemmas.Bool.{eqb-true, false≢true}
use Rattle.checkpoint_records.proofs.PlaceLaws.{one_counted, others_counted}
use Rattle.checkpoint_records.proofs.counts.count_sessions.Goals as goal

pub returns-then-is_empty : goal.returns-then-is_empty
returns-then-is_empty c =
    omega (arith, others_counted c.args.book.now.name c.args.book.now.entries c.as_slice.result.now c.args.book.now.others c.as_slice-others.result.now c.as_slice.ensures c.as_slice-others.ensures (eqb-true (length c.as_slice.result.now) 0 (sym c.if-is_empty.ensures)))

pub returns-else-is_empty : goal.returns-else-is_empty
returns-else-is_empty c =
    omega (arith, one_counted c.args.book.now.name c.args.book.now.entries c.as_slice.result.now c.args.book.now.others c.as_slice-others.result.now c.as_slice.ensures c.as_slice-others.ensures (λ e. absurd (false≢true (rw e at c.if-is_empty.ensures))))
