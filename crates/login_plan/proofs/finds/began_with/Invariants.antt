use Rattle.std.proofs.Common.{◌≡◌, drop}
use Rattle.login_plan.specs.Logins.{began_with}
use Rattle.login_plan.proofs.finds.began_with.Given as goal

abbrev pub invariant-loop-kept : goal.invariant-loop-kept
invariant-loop-kept l = began_with l.name (drop l.kept-index l.shelf) ≡ began_with l.name l.shelf
