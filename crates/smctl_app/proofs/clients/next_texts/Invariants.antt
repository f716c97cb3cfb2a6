use Rattle.std.proofs.Common.{◌≡◌}
use Rattle.smctl_app.proofs.clients.next_texts.Given as goal

abbrev pub invariant-loop : goal.invariant-loop
invariant-loop g l = (g.T.Talk.sent l.connection ≡ g.T.Talk.sent l.fn.connection) × (g.T.Talk.seen l.connection ≡ g.T.Talk.seen l.fn.connection)
