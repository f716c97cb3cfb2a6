use Rattle.std.proofs.Common.{◌≡◌, ◌++◌, drop, filter}
use Rattle.login_plan.specs.Logins.{may_be_offered}
use Rattle.login_plan.proofs.finds.all_offered.Given as goal

abbrev pub invariant-loop-kept : goal.invariant-loop-kept
invariant-loop-kept l = l.all ++ filter (may_be_offered l.lost l.name) (drop l.kept-index l.shelf) ≡ filter (may_be_offered l.lost l.name) l.shelf
