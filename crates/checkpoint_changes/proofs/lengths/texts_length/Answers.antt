use Rattle.std.proofs.Common.{arith}
use Rattle.ice_values.specs.Properties.{array8}
use Rattle.ice_values.specs.declared.numbers.Endian.TheVariants.{Lsb}
use Rattle.ice_values.proofs.LengthLaws.{length-more}
use Rattle.checkpoint_changes.proofs.lengths.texts_length.Goals as goal

pub loop-text-preserved : goal.loop-text-preserved
loop-text-preserved c = omega (arith, length-more (array8 Lsb) c.args.texts.now c.loop-text.text-index c.text-item.result c.loop-text-test.true c.text-item.is)
