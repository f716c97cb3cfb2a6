use Rattle.ice_values.proofs.WalkLaws.{list_walked}
use Rattle.ice_values.proofs.walk.cut_walk.Goals as goal

pub returns-clause-exact : goal.returns-clause-exact
returns-clause-exact c =
    list_walked c.args.endian c.in_ok-count.count c.args.bytes.now c.in_ok-count.rest.now c.in_ok-items.items.now c.in_ok-rest.rest.now c.in_ok-count.ensures c.in_ok-items.ensures.exact c.in_ok-rest.ensures
