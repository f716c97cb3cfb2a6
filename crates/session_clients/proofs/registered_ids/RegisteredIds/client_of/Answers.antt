use Rattle.std.proofs.Common.{rules, ◌≡◌, ap, ◌∙◌}
use Rattle.session_clients.specs.Ids.{conn_of}
use Rattle.session_clients.proofs.IdLaws.{conn-client}
use Rattle.session_clients.proofs.registered_ids.RegisteredIds.client_of.Goals as goal

pub returns : goal.returns
returns c clients is =
    let found : c.conn_among.result ≡ conn_of c.args.id.now c.args.self.now = search rules in
    found ∙ ap (conn_of c.args.id.now) is ∙ conn-client c.args.id.now clients
