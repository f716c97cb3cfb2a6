use Rattle.std.proofs.Common.{refl, ap, sym, ◌∙◌, map, subst, List}
use Rattle.session_model.specs.Moves.{Unset}
use Rattle.session_clients.specs.declared.client.Client.{Client}
use Rattle.session_clients.specs.Rows.{StandsWithin, client_by}
use Rattle.session_clients.proofs.OtherRowLaws.{for-unset}
use Rattle.session_clients.proofs.SpanLaws.{changed, once-kept}
use Rattle.session_clients.proofs.live_rows.LiveRows.unset.Goals as goal

pub returns : goal.returns
returns c =
    let r = c.self.inside in
    let span = c.span_of-span.result in
    let step = client_by (Unset c.args.conn) in
    let stands : StandsWithin c.args.conn r.items.items span.start span.end = subst (λ (rows : List Client). StandsWithin c.args.conn rows span.start span.end) (sym c.self.view_is) c.span_of-span.ensures in
    changed c.args.conn step (for-unset c.args.conn) r.items.items c.deref_mut.result.now c.unset_each.new.rows span.start span.end r.items.len c.deref_mut.ensures.value c.deref_mut.ensures.len stands c.unset_each.ensures ∙ ap (map step) c.self.view_is

pub invariant_of-self : goal.invariant_of-self
invariant_of-self c =
    let r = c.self.inside in
    let span = c.span_of-span.result in
    let step = client_by (Unset c.args.conn) in
    let stands : StandsWithin c.args.conn r.items.items span.start span.end = subst (λ (rows : List Client). StandsWithin c.args.conn rows span.start span.end) (sym c.self.view_is) c.span_of-span.ensures in
    once-kept r.each_once step r.items.items _ (λ k. refl) (changed c.args.conn step (for-unset c.args.conn) r.items.items c.deref_mut.result.now c.unset_each.new.rows span.start span.end r.items.len c.deref_mut.ensures.value c.deref_mut.ensures.len stands c.unset_each.ensures) c.self.invariant
