use Rattle.std.proofs.Common.{arith, ap, length}
use Rattle.ice_values.proofs.LengthLaws.{length-text16}
use Rattle.ice_values.proofs.text.Text16Spelled.size.Goals as goal

pub returns-then-count-clause-none : goal.returns-then-count-clause-none
returns-then-count-clause-none c = λ e. omega (arith, ap length c.as_slice-count.ensures.value, length-text16 e c.args.self.now)

pub returns-clause-is : goal.returns-clause-is
returns-clause-is c = λ e. omega (arith, ap length c.as_slice-count.ensures.value, c.pad.ensures.is, length-text16 e c.args.self.now)
