use Rattle.std.proofs.Common.{arith}
use Rattle.ice_values.proofs.LengthLaws.{length-proof_data}
use Rattle.ice_values.proofs.lengths.proof_len.Goals as goal

pub returns-clause-is : goal.returns-clause-is
returns-clause-is c = λ e. omega (arith, c.len-count.ensures, length-proof_data e c.args.proof.now)
