use Rattle.ice_values.proofs.WriteLaws.{adds_item}
use Rattle.ice_values.proofs.spelled.put_many.Goals as goal

pub loop-item-preserved : goal.loop-item-preserved
loop-item-preserved g c =
    adds_item (g.T.Spelled.cells c.args.endian) c.args.items.now c.loop-item.item-index c.item-item.result c.args.out.now c.loop-item.out c.put.new.out c.loop-item-test.true c.item-item.is c.loop-item.invariant c.in_ok-put.ensures.ok
