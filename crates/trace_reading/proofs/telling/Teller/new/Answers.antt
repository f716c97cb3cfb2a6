use Rattle.std.proofs.Common.{rules}
use Rattle.trace_reading.proofs.TellingLemmas.{stands_first}
use Rattle.trace_reading.proofs.telling.Teller.new.Goals as goal

pub returns : goal.returns
returns c = stands_first c.new-watch.result c.new-programs.result c.new-watch.ensures (λ q. search rules)
