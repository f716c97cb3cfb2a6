use Rattle.std.proofs.Common.{◌≡◌, ◌+◌, ◌≤◌, drop, length, not}
use Rattle.std.specs.Prelude.{filter, filter_map}
use Rattle.session_model.specs.Tables.{is_kept_id}
use Rattle.session_clients.specs.Clients.{id_in}
use Rattle.session_clients.proofs.summaries.count_new_ids.Given as goal

abbrev pub invariant-loop-conn : goal.invariant-loop-conn
invariant-loop-conn l = record {
  counted : l.count + length (filter (λ id. not (is_kept_id id l.book)) (filter_map (λ c. id_in c l.rows) (drop l.conn-index l.conns))) ≡ length (filter (λ id. not (is_kept_id id l.book)) (filter_map (λ c. id_in c l.rows) l.conns));
  fits : l.count ≤ l.conn-index;
}
