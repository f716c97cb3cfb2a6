use Rattle.xsmp_messages.proofs.Dispatch.{minors, cut_is_refused}
use Rattle.xsmp_messages.proofs.laws.cut_bytes_are_refused.Goals as goal

pub returns-clause-minors : goal.returns-clause-minors
returns-clause-minors c = λ n. minors n

pub returns-clause-refused : goal.returns-clause-refused
returns-clause-refused c = λ e bytes fits short. cut_is_refused e bytes fits short
