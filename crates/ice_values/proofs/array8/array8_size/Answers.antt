use Rattle.std.proofs.Common.{arith}
use Rattle.ice_values.proofs.LengthLaws.{length-array8}
use Rattle.ice_values.proofs.array8.array8_size.Goals as goal

pub returns-then-count-clause-none : goal.returns-then-count-clause-none
returns-then-count-clause-none c = λ e. omega (arith, length-array8 e c.args.bytes.now)

pub returns-clause-is : goal.returns-clause-is
returns-clause-is c = λ e. omega (arith, c.pad.ensures.is, length-array8 e c.args.bytes.now)
