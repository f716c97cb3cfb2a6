use Rattle.std.proofs.Common.{◌≤◌}
use Rattle.unix_links.proofs.sockets.Sockets.next.Given as goal

abbrev pub invariant-loop : goal.invariant-loop
invariant-loop l = l.fn.hours.read ≤ l.hours.since
