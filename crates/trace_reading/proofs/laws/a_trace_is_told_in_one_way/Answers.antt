use Rattle.trace_reading.proofs.Once.{one_telling}
use Rattle.trace_reading.proofs.laws.a_trace_is_told_in_one_way.Goals as goal

pub returns : goal.returns
returns c = λ limit trace. one_telling limit trace
