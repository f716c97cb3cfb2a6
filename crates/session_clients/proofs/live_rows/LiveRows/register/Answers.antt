use Rattle.std.proofs.Common.{rules, ◌≡◌, refl, is_ok}
use Rattle.std.proofs.lemmas.Result.{on_ok_weaker}
use Rattle.session_clients.specs.Rows.{client_registered}
use Rattle.session_clients.proofs.SpanLaws.{changed-all, once-ok}
use Rattle.session_clients.proofs.live_rows.LiveRows.register.Goals as goal

pub invariant_of-self : goal.invariant_of-self
invariant_of-self c =
    let r = c.self.inside in
    let step = client_registered c.args.conn c.args.id c.args.table in
    let ok : c.is_ok.result ≡ is_ok c.register_in-registered.result = search rules in
    once-ok r.each_once c.is_ok.result c.register_in-registered.result step r.items.items _ ok (λ k. refl) (on_ok_weaker c.register_in-registered.result (λ h. changed-all step r.items.items c.deref_mut.result.now c.register_in-registered.new.rows r.items.len c.deref_mut.ensures.value c.deref_mut.ensures.len h) c.register_in-registered.ensures) c.self.invariant
