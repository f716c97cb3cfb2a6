use Rattle.std.proofs.Common.{rules, ◌≡◌, Some}
use Rattle.client_quirks.proofs.Stands.{order_some}
use Rattle.client_quirks.proofs.side.next_order.Goals as goal

pub returns-in-Some : goal.returns-in-Some
returns-in-Some c =
    let some : c.args.cutter.now ≡ Some c.in-Some.cutter = search rules in
    order_some c.args.cutter.now c.in-Some.cutter c.between.result some c.between.ensures.stands
