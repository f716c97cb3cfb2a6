use Rattle.std.proofs.Common.{◌≡◌, ◌++◌, map, take, drop}
use Rattle.ice_values.specs.Walks.{walk_left}
use Rattle.session_clients.specs.Rows.{client_setting}
use Rattle.session_clients.proofs.rows.set_each.Given as goal

abbrev pub invariant-loop-row : goal.invariant-loop-row
invariant-loop-row l = l.row-items ≡ map (client_setting l.conn (walk_left l.walk)) (take l.row-index l.initial.row-items) ++ drop l.row-index l.initial.row-items
