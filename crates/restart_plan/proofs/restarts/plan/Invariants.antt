use Rattle.std.proofs.Common.{◌≡◌, ◌++◌, drop}
use Rattle.restart_plan.specs.Restarts.{opening_restarts}
use Rattle.restart_plan.proofs.restarts.plan.Given as goal

abbrev pub invariant-loop-entry : goal.invariant-loop-entry
invariant-loop-entry l = l.commands ++ opening_restarts (drop l.entry-index l.entry-items) ≡ opening_restarts l.book.entries
