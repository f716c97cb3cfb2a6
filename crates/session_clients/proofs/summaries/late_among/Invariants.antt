use Rattle.std.proofs.Common.{◌≡◌, ◌++◌, drop}
use Rattle.std.specs.Prelude.{filter}
use Rattle.session_model.specs.Replies.{is_late}
use Rattle.session_clients.specs.Clients.{phase_in, quiet_in}
use Rattle.session_clients.proofs.summaries.late_among.Given as goal

abbrev pub invariant-loop-conn : goal.invariant-loop-conn
invariant-loop-conn l = l.late ++ filter (λ c. is_late l.patience l.milliseconds (phase_in c l.rows) (quiet_in c l.rows)) (drop l.conn-index l.conns) ≡ filter (λ c. is_late l.patience l.milliseconds (phase_in c l.rows) (quiet_in c l.rows)) l.conns
