use Rattle.std.proofs.Common.{rules, ◌≡◌, ◌==◌, ap, ◌∙◌, not}
use Rattle.std.proofs.lemmas.Fn.{filter_same}
use Rattle.session_clients.specs.declared.client.Client.{Client}
use Rattle.session_clients.specs.Clients.{without_row}
use Rattle.session_clients.proofs.SpanLaws.{once-left}
use Rattle.session_clients.proofs.live_rows.LiveRows.leave.Goals as goal

pub returns : goal.returns
returns c =
    let rows : c.retain.new.self.items ≡ without_row c.args.conn c.self.inside.items.items = filter_same _ (λ (k : Client). not (k.conn == c.args.conn)) _ (λ x kept f r. search rules) c.self.inside.items.items _ c.retain.ensures.filtered in
    rows ∙ ap (without_row c.args.conn) c.self.view_is

pub invariant_of-self : goal.invariant_of-self
invariant_of-self c =
    let rows : c.retain.new.self.items ≡ without_row c.args.conn c.self.inside.items.items = filter_same _ (λ (k : Client). not (k.conn == c.args.conn)) _ (λ x kept f r. search rules) c.self.inside.items.items _ c.retain.ensures.filtered in
    once-left c.self.inside.each_once c.args.conn c.self.inside.items.items _ rows c.self.invariant
