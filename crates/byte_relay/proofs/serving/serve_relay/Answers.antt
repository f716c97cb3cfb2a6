use Rattle.std.proofs.Common.{rules, ◌≡◌, ◌+◌, true, false, refl, sym, ◌∙◌, arith}
use Rattle.sm_world.proofs.Adding.{never_fallen, fallen_never}
use Rattle.byte_relay.specs.Relaying.{is_end}
use Rattle.byte_relay.proofs.Running.{loop_begins, loop_goes_on, loop_cut_short, loop_ends}
use Rattle.byte_relay.proofs.serving.serve_relay.Goals as goal

pub loop-init : goal.loop-init
loop-init g c = record { held = loop_begins c.args.to (g.W.Told.outside c.args.world.now) c.new-relay.result.rows.items c.new-relay.ensures.none; order = c.new-relay.ensures.order; input = refl; counts = never_fallen _ }

pub returns-then-is_end-clause-relays : goal.returns-then-is_end-clause-relays
returns-then-is_end-clause-relays g c =
    let ends : is_end c.in-Ok.event ≡ true = sym c.is_end.ensures ∙ search rules in
    loop_ends c.args.to (g.W.Told.outside c.args.world.now) (g.W.Told.outside c.loop.world) c.loop.counter c.args.turns c.loop.relay.rows.items c.loop.invariant.held (g.W.Told.outside c.hear.new.world) c.in-Ok.event c.in-Ok.ensures.effects c.in-Ok.ensures.coming (sym ends) c.loop-test.true

pub returns-in-Err-take-clause-relays : goal.returns-in-Err-take-clause-relays
returns-in-Err-take-clause-relays g c =
    let goes : is_end c.in-Ok.event ≡ false = sym c.is_end.ensures ∙ search rules in
    let steps = (rw c.loop.invariant.order at c.in-Err-take.ensures.steps) _ c.loop.invariant.held.shows in
    loop_cut_short c.args.to (g.W.Told.outside c.args.world.now) (g.W.Told.outside c.loop.world) c.loop.counter c.args.turns c.loop.relay.rows.items c.loop.invariant.held (g.W.Told.outside c.hear.new.world) c.in-Ok.event c.in-Ok.ensures.effects c.in-Ok.ensures.coming (g.W.Told.outside c.take.new.world) c.in-Err-take.fault (sym goes) c.loop-test.true steps.0.of_links steps.0

pub loop-preserved : goal.loop-preserved
loop-preserved g c =
    let goes : is_end c.in-Ok.event ≡ false = sym c.is_end.ensures ∙ search rules in
    let steps = (rw c.loop.invariant.order at c.in-Ok-take.ensures.steps) _ c.loop.invariant.held.shows in
    record {
      held = loop_goes_on c.args.to (g.W.Told.outside c.args.world.now) (g.W.Told.outside c.loop.world) c.loop.counter c.args.turns c.loop.relay.rows.items c.loop.invariant.held (g.W.Told.outside c.hear.new.world) c.in-Ok.event c.in-Ok.ensures.effects c.in-Ok.ensures.coming (g.W.Told.outside c.take.new.world) (c.loop.counter + 1) c.take.new.self.rows.items (omega arith) (sym goes) steps.0.coming steps.0 steps.1;
      order = c.take.ensures.order ∙ c.loop.invariant.order;
      input = steps.0.input ∙ (c.in-Ok.ensures.input ∙ c.loop.invariant.input);
      counts = fallen_never _ _ _ c.loop.invariant.counts (fallen_never _ _ _ c.in-Ok.ensures.counts steps.0.counts);
    }
