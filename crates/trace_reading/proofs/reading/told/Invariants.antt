use Rattle.trace_reading.proofs.TellingLemmas.{Telling}
use Rattle.trace_reading.proofs.reading.told.Given as goal

abbrev pub invariant-loop-said : goal.invariant-loop-said
invariant-loop-said l = Telling l.opening l.lines l.said-index l.teller l.text
