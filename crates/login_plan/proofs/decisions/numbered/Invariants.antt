use Rattle.std.proofs.Common.{◌≡◌, drop}
use Rattle.login_plan.specs.Plans.{numbered}
use Rattle.login_plan.proofs.decisions.numbered.Given as goal

abbrev pub invariant-loop-kept : goal.invariant-loop-kept
invariant-loop-kept l = numbered l.number (drop l.kept-index l.shelf) ≡ numbered l.number l.shelf
