use Rattle.std.proofs.Common.{◌≡◌, ◌++◌, map, take, drop}
use Rattle.session_model.specs.Moves.{Unset}
use Rattle.session_clients.specs.Rows.{client_by}
use Rattle.session_clients.proofs.rows.unset_each.Given as goal

abbrev pub invariant-loop-row : goal.invariant-loop-row
invariant-loop-row l = l.row-items ≡ map (client_by (Unset l.conn)) (take l.row-index l.initial.row-items) ++ drop l.row-index l.initial.row-items
