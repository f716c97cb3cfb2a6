use Rattle.std.proofs.Common.{rules}
use Rattle.session_answers.proofs.Values.{spelled, units}
use Rattle.session_answers.proofs.errors.values_at.Goals as goal

pub returns-clause-spelled : goal.returns-clause-spelled
returns-clause-spelled c = spelled c.args.at c.args.bytes.now c.put_bytes.new.out c.put_zeros.new.out c.pad.result (search rules) c.pad.ensures.is c.in_ok-put_zeros.ensures.ok

pub returns-clause-units : goal.returns-clause-units
returns-clause-units c = units c.args.at c.args.bytes.now c.put_zeros.new.out (returns-clause-spelled c)
