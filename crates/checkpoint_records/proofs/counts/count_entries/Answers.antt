use Rattle.std.proofs.Common.{length, ap, arith}
use Rattle.checkpoint_records.proofs.PlaceLaws.{all_counted, counted_more}
use Rattle.checkpoint_records.proofs.counts.count_entries.Goals as goal

pub loop-other-init : goal.loop-other-init
loop-other-init c = omega (arith, ap length c.as_slice-count.ensures)

pub loop-other-preserved : goal.loop-other-preserved
loop-other-preserved c = omega (arith, counted_more c.as_slice-other-items.result.now c.loop-other.other-index c.other-item.result c.loop-other-test.true c.other-item.is, ap length c.as_slice.ensures, c.loop-other.invariant)

pub returns : goal.returns
returns c =
    all_counted c.args.book.now.entries c.as_slice-other-items.result.now c.args.book.now.others c.loop-other.other-index c.loop-other.count c.as_slice-other-items.ensures c.loop-other-test.false c.loop-other.invariant
