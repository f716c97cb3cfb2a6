use Rattle.std.proofs.Common.{◌≡◌, ◌++◌, map, take, drop}
use Rattle.session_model.specs.declared.events.SessionEvent.TheVariants.{Tick}
use Rattle.session_model.specs.Moves.{Outside}
use Rattle.session_clients.specs.Rows.{client_by}
use Rattle.session_clients.proofs.rows.tick_each.Given as goal

abbrev pub invariant-loop-row : goal.invariant-loop-row
invariant-loop-row l = l.row-items ≡ map (client_by (Outside (Tick l.milliseconds))) (take l.row-index l.initial.row-items) ++ drop l.row-index l.initial.row-items
