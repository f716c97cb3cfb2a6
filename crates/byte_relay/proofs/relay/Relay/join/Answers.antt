use Rattle.std.proofs.Common.{[]}
use Rattle.byte_relay.proofs.Shown.{one_more, shows_new}
use Rattle.byte_relay.proofs.relay.Relay.join.Goals as goal

pub returns-clause-shows : goal.returns-clause-shows
returns-clause-shows c = λ lines shows.
    rw c.in_ok-push.ensures.items (one_more c.args.self.now.rows.items lines c.in_ok-row.row (record { number = c.args.conn; stream = [] }) shows (shows_new c.in_ok-row.row c.args.conn c.in_ok-row.ensures.conn c.in_ok-row.ensures.fresh c.in_ok-row.ensures.splitter))
