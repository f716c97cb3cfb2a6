use Rattle.trace_replay.proofs.FlowLemmas.{stays_ended}
use Rattle.trace_replay.proofs.flows.Progress.take.Goals as goal

pub returns-in-Ended-clause-takes : goal.returns-in-Ended-clause-takes
returns-in-Ended-clause-takes c = λ stream read.
    stays_ended stream c.args.piece.now c.nothing.result c.nothing.ensures.0 (rw c.in-Ended.is at read) c.nothing.ensures.1 c.nothing.ensures.2
