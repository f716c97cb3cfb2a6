use Rattle.std.proofs.Common.{refl}
use Rattle.session_model.specs.declared.events.SessionEvent.TheVariants.{Tick}
use Rattle.session_model.specs.Moves.{Outside}
use Rattle.session_clients.specs.Rows.{client_by}
use Rattle.session_clients.proofs.SpanLaws.{changed-all, once-kept}
use Rattle.session_clients.proofs.live_rows.LiveRows.tick.Goals as goal

pub invariant_of-self : goal.invariant_of-self
invariant_of-self c =
    let r = c.self.inside in
    let step = client_by (Outside (Tick c.args.milliseconds)) in
    once-kept r.each_once step r.items.items _ (λ k. refl) (changed-all step r.items.items c.deref_mut.result.now c.tick_each.new.rows r.items.len c.deref_mut.ensures.value c.deref_mut.ensures.len c.tick_each.ensures) c.self.invariant
