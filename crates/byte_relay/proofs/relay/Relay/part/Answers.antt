use Rattle.std.proofs.Common.{rules, ◌||◌, ◌==◌, not}
use Rattle.std.proofs.lemmas.Fn.{filter_same}
use Rattle.byte_relay.specs.Relaying.{partner}
use Rattle.byte_relay.specs.declared.row.Row.{Row}
use Rattle.byte_relay.proofs.relay.Relay.part.Goals as goal

pub returns-clause-rows : goal.returns-clause-rows
returns-clause-rows c = filter_same _ (λ (row : Row). not (row.conn == c.args.conn || row.conn == partner c.args.conn)) _ (λ x kept f r. search rules) c.args.self.now.rows.items _ c.retain.ensures.filtered
