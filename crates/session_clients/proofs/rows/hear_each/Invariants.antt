use Rattle.std.proofs.Common.{◌≡◌, ◌++◌, map, take, drop}
use Rattle.session_model.specs.Phases.{may_interact}
use Rattle.session_clients.specs.Rows.{client_heard}
use Rattle.session_clients.proofs.rows.hear_each.Given as goal

abbrev pub invariant-loop-row : goal.invariant-loop-row
invariant-loop-row l = l.row-items ≡ map (client_heard l.conn l.message (may_interact l.wanted)) (take l.row-index l.initial.row-items) ++ drop l.row-index l.initial.row-items
