use Rattle.session_replay.proofs.Once.{one_verdict}
use Rattle.session_replay.proofs.laws.a_trace_has_one_verdict.Goals as goal

pub returns : goal.returns
returns c = one_verdict
