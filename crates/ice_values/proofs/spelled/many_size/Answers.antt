use Rattle.std.proofs.Common.{arith}
use Rattle.ice_values.proofs.LengthLaws.{item_within}
use Rattle.ice_values.proofs.spelled.many_size.Goals as goal

pub returns-in_err-size-clause-none : goal.returns-in_err-size-clause-none
returns-in_err-size-clause-none g c = rw c.from_residual.ensures (λ e.
    let within = item_within (g.T.Spelled.cells e) c.args.items.now c.loop-value.value-index c.value-item.result c.loop-value-test.true c.value-item.is in
    omega (arith, c.in_err-size.ensures.none e, within))

pub returns-in_err-total-clause-none : goal.returns-in_err-total-clause-none
returns-in_err-total-clause-none g c = rw c.from_residual-in_err-total.ensures (λ e.
    let within = item_within (g.T.Spelled.cells e) c.args.items.now c.loop-value.value-index c.value-item.result c.loop-value-test.true c.value-item.is in
    omega (arith, c.in_err-total.ensures.none, c.loop-value.invariant.0 e, c.in_ok-size.ensures.is e, within))
