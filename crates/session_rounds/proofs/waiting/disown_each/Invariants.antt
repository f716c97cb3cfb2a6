use Rattle.std.proofs.Common.{◌≡◌, ◌++◌, map, take, drop}
use Rattle.session_model.specs.Waits.{disowned}
use Rattle.session_rounds.proofs.waiting.disown_each.Given as goal

abbrev pub invariant-loop-wait : goal.invariant-loop-wait
invariant-loop-wait l = l.wait-items ≡ map (disowned l.conn) (take l.wait-index l.initial.wait-items) ++ drop l.wait-index l.initial.wait-items
