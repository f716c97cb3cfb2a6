use Rattle.trace_replay.proofs.Once.{one_answer}
use Rattle.trace_replay.proofs.laws.a_trace_has_one_answer.Goals as goal

pub returns : goal.returns
returns c = λ limit trace. one_answer limit trace
