use Rattle.std.proofs.Common.{◌≡◌, ◌++◌, map, take, drop}
use Rattle.session_clients.specs.Rows.{client_registered}
use Rattle.session_clients.proofs.rows.register_each.Given as goal

abbrev pub invariant-loop-row : goal.invariant-loop-row
invariant-loop-row l = l.row-items ≡ map (client_registered l.conn l.id l.table) (take l.row-index l.initial.row-items) ++ drop l.row-index l.initial.row-items
