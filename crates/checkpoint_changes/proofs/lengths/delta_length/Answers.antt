use Rattle.std.proofs.Common.{arith}
use Rattle.ice_values.proofs.LengthLaws.{length-more}
use Rattle.checkpoint_records.specs.declared.head.Format.TheVariants.{Several}
use Rattle.checkpoint_changes.specs.Changes.{change_cells}
use Rattle.checkpoint_changes.proofs.LengthLaws.{length-whole}
use Rattle.checkpoint_changes.proofs.lengths.delta_length.Goals as goal

pub loop-change-preserved : goal.loop-change-preserved
loop-change-preserved c = omega (arith, length-more (change_cells Several) c.as_slice-change-items.result.now c.loop-change.change-index c.change-item.result c.loop-change-test.true c.change-item.is)

pub returns : goal.returns
returns c = length-whole c.as_slice-change-items.result.now c.args.delta.now c.loop-change.change-index c.loop-change.total c.as_slice-change-items.ensures c.loop-change-test.false c.loop-change.invariant
