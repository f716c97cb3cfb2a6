use Rattle.std.proofs.Common.{arith}
use Rattle.ice_values.specs.declared.numbers.Endian.TheVariants.{Lsb}
use Rattle.ice_values.proofs.view.PropertyView.size.Goals as goal

pub returns-in_err-name-clause-none : goal.returns-in_err-name-clause-none
returns-in_err-name-clause-none c = rw c.from_residual.ensures (omega (arith, c.in_err-name.ensures.none Lsb))

pub returns-in_err-kind-clause-none : goal.returns-in_err-kind-clause-none
returns-in_err-kind-clause-none c = rw c.from_residual-in_err-kind.ensures (omega (arith, c.in_err-kind.ensures.none Lsb))

pub returns-in_err-front-clause-none : goal.returns-in_err-front-clause-none
returns-in_err-front-clause-none c = rw c.from_residual-in_err-front.ensures (omega (arith, c.in_err-front.ensures.none, c.in_ok-name.ensures.is Lsb, c.in_ok-kind.ensures.is Lsb))

pub returns-in_err-total-clause-none : goal.returns-in_err-total-clause-none
returns-in_err-total-clause-none c = rw c.from_residual-in_err-total.ensures (omega (arith, c.in_err-total.ensures.none, c.in_ok-front.ensures.some, c.in_ok-name.ensures.is Lsb, c.in_ok-kind.ensures.is Lsb))

pub returns-clause-some : goal.returns-clause-some
returns-clause-some c = omega (arith, c.in_ok-total.ensures.some, c.in_ok-front.ensures.some, c.in_ok-name.ensures.is Lsb, c.in_ok-kind.ensures.is Lsb)
