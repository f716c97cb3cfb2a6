use Rattle.std.proofs.Common.{rules, ◌≡◌, ap, sym, ◌∙◌, map, subst, is_ok, refl, List}
use Rattle.ice_values.specs.Walks.{walk_left}
use Rattle.std.proofs.lemmas.Result.{on_ok_weaker}
use Rattle.session_clients.specs.declared.client.Client.{Client}
use Rattle.session_clients.specs.Rows.{StandsWithin, client_setting}
use Rattle.session_clients.proofs.OtherRowLaws.{for-setting}
use Rattle.session_clients.proofs.SpanLaws.{changed, once-ok}
use Rattle.session_clients.proofs.live_rows.LiveRows.set.Goals as goal

pub returns : goal.returns
returns c =
    let r = c.self.inside in
    let span = c.span_of-span.result in
    let step = client_setting c.args.conn (walk_left c.args.walk) in
    let stands : StandsWithin c.args.conn r.items.items span.start span.end = subst (λ (rows : List Client). StandsWithin c.args.conn rows span.start span.end) (sym c.self.view_is) c.span_of-span.ensures in
    on_ok_weaker c.set_each-set.result (λ h. changed c.args.conn step (for-setting c.args.conn (walk_left c.args.walk)) r.items.items c.deref_mut.result.now c.set_each-set.new.rows span.start span.end r.items.len c.deref_mut.ensures.value c.deref_mut.ensures.len stands h ∙ ap (map step) c.self.view_is) c.set_each-set.ensures

pub invariant_of-self : goal.invariant_of-self
invariant_of-self c =
    let r = c.self.inside in
    let span = c.span_of-span.result in
    let step = client_setting c.args.conn (walk_left c.args.walk) in
    let stands : StandsWithin c.args.conn r.items.items span.start span.end = subst (λ (rows : List Client). StandsWithin c.args.conn rows span.start span.end) (sym c.self.view_is) c.span_of-span.ensures in
    let ok : c.is_ok.result ≡ is_ok c.set_each-set.result = search rules in
    once-ok r.each_once c.is_ok.result c.set_each-set.result step r.items.items _ ok (λ k. refl) (on_ok_weaker c.set_each-set.result (λ h. changed c.args.conn step (for-setting c.args.conn (walk_left c.args.walk)) r.items.items c.deref_mut.result.now c.set_each-set.new.rows span.start span.end r.items.len c.deref_mut.ensures.value c.deref_mut.ensures.len stands h) c.set_each-set.ensures) c.self.invariant
