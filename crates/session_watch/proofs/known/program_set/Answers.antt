use Rattle.session_watch.proofs.Noting.{set_more}
use Rattle.session_watch.proofs.known.program_set.Goals as goal

pub loop-property-preserved : goal.loop-property-preserved
loop-property-preserved c =
    set_more c.args.properties.now c.loop-property.property-index c.property-item.result c.loop-property.program c.args.before c.in_ok-program.program c.loop-property.invariant c.loop-property-test.true c.property-item.is c.in_ok-program.ensures
