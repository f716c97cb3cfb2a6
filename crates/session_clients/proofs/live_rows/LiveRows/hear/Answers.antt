use Rattle.std.proofs.Common.{rules, ◌≡◌, ap, sym, ◌∙◌, map, subst, is_ok, refl, List}
use Rattle.session_model.specs.Phases.{may_interact}
use Rattle.std.proofs.lemmas.Result.{on_ok_weaker}
use Rattle.session_clients.specs.declared.client.Client.{Client}
use Rattle.session_clients.specs.Rows.{StandsWithin, client_heard}
use Rattle.session_clients.proofs.OtherRowLaws.{for-heard}
use Rattle.session_clients.proofs.SpanLaws.{changed, once-ok}
use Rattle.session_clients.proofs.live_rows.LiveRows.hear.Goals as goal

pub returns : goal.returns
returns c =
    let r = c.self.inside in
    let span = c.span_of-span.result in
    let step = client_heard c.args.conn c.args.message.now (may_interact c.args.wanted) in
    let stands : StandsWithin c.args.conn r.items.items span.start span.end = subst (λ (rows : List Client). StandsWithin c.args.conn rows span.start span.end) (sym c.self.view_is) c.span_of-span.ensures in
    on_ok_weaker c.hear_each-heard.result (λ h. changed c.args.conn step (for-heard c.args.conn c.args.message.now (may_interact c.args.wanted)) r.items.items c.deref_mut.result.now c.hear_each-heard.new.rows span.start span.end r.items.len c.deref_mut.ensures.value c.deref_mut.ensures.len stands h ∙ ap (map step) c.self.view_is) c.hear_each-heard.ensures

pub invariant_of-self : goal.invariant_of-self
invariant_of-self c =
    let r = c.self.inside in
    let span = c.span_of-span.result in
    let step = client_heard c.args.conn c.args.message.now (may_interact c.args.wanted) in
    let stands : StandsWithin c.args.conn r.items.items span.start span.end = subst (λ (rows : List Client). StandsWithin c.args.conn rows span.start span.end) (sym c.self.view_is) c.span_of-span.ensures in
    let ok : c.is_ok.result ≡ is_ok c.hear_each-heard.result = search rules in
    once-ok r.each_once c.is_ok.result c.hear_each-heard.result step r.items.items _ ok (λ k. refl) (on_ok_weaker c.hear_each-heard.result (λ h. changed c.args.conn step (for-heard c.args.conn c.args.message.now (may_interact c.args.wanted)) r.items.items c.deref_mut.result.now c.hear_each-heard.new.rows span.start span.end r.items.len c.deref_mut.ensures.value c.deref_mut.ensures.len stands h) c.hear_each-heard.ensures) c.self.invariant
