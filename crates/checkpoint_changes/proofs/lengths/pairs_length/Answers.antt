use Rattle.std.proofs.Common.{arith}
use Rattle.checkpoint_changes.proofs.LengthLaws.{length-pairs}
use Rattle.checkpoint_changes.proofs.lengths.pairs_length.Goals as goal

pub loop-name-preserved : goal.loop-name-preserved
loop-name-preserved c = omega (arith, length-pairs c.args.pairs.now c.loop-name.name-index c.loop-name-item.result c.loop-name-test.true c.loop-name-item.is)
