use Rattle.ice_cookie.proofs.Differences.{at_end}
use Rattle.ice_cookie.proofs.cookies.differing.Goals as goal

pub returns : goal.returns
returns c = at_end c.args.own.now c.args.shown.now c.loop-at.at c.loop-at.count c.requires c.loop-at-test.false c.loop-at.invariant.0
