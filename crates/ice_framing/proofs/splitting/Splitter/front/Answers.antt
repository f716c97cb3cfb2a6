use Rattle.std.proofs.Common.{rules, ◌≡◌, Some, length, arith}
use Rattle.std.proofs.lemmas.Bool.Decides.{nat_tests}
use Rattle.ice_framing.proofs.Fronts.{front_cut, front_later}
use Rattle.ice_framing.proofs.splitting.Splitter.front.Goals as goal

pub returns-clause-first : goal.returns-clause-first
returns-clause-first c =
    let order : c.self.inside.order ≡ Some c.in_ok-endian.endian = search rules in
    let none : length c.self.inside.held.items ≡ 0 = grind (arith, nat_tests) in
    front_cut c.args.self.now c.self.inside.order c.self.inside.held.items c.args.rest.now c.in_ok-len.len c.in_ok-endian.endian c.split_at.result.0.now c.self.view_is order none c.in_ok-len.ensures c.split_at.ensures.front

pub returns-clause-later : goal.returns-clause-later
returns-clause-later c =
    let order : c.self.inside.order ≡ Some c.in_ok-endian.endian = search rules in
    front_later c.self.inside.order c.args.rest.now c.in_ok-len.len c.in_ok-endian.endian c.split_at.result.0.now order c.in_ok-len.ensures c.split_at.ensures.front
