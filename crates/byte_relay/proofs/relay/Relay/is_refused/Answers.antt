use Rattle.std.proofs.Common.{rules, ◌≡◌, ◌==◌, false, length, refl}
use Rattle.byte_relay.proofs.Shown.{as_many}
use Rattle.byte_relay.proofs.relay.Relay.is_refused.Goals as goal

pub returns-else-conn-eq0 : goal.returns-else-conn-eq0
returns-else-conn-eq0 c = λ lines shows.
    let apart : (c.args.conn == 0) ≡ false = search rules in
    let len : c.len.result ≡ length c.args.self.now.rows.items = search rules in
    rw (apart, len, as_many c.args.self.now.rows.items lines shows) refl
