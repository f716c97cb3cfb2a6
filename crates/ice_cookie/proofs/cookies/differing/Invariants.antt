use Rattle.std.proofs.Common.{◌≡◌, ◌+◌, ◌≤◌, drop}
use Rattle.ice_cookie.proofs.Differences.{differences}
use Rattle.ice_cookie.proofs.cookies.differing.Given as goal

abbrev pub invariant-loop-at : goal.invariant-loop-at
invariant-loop-at l = (l.count + differences (drop l.at l.own) (drop l.at l.shown) ≡ differences l.own l.shown) × (l.count ≤ l.at)
