use Rattle.trace_replay.proofs.TraceLemmas.{sized}
use Rattle.trace_replay.proofs.reading.read_trace.Goals as goal

pub returns-in_ok-events_of-in-Whole-clause-sized : goal.returns-in_ok-events_of-in-Whole-clause-sized
returns-in_ok-events_of-in-Whole-clause-sized c =
    rw (c.in_ok-events_of-in-Whole.ensures) (sized c.args.limit c.args.text.now c.in-Whole.opening c.in-Whole.lines (rw c.in-Whole.is at c.in_ok-opening.ensures.reads))
