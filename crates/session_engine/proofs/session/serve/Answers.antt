use Rattle.std.proofs.Common.{◌+◌, refl, sym, ◌∙◌, ap, arith, subst}
use Rattle.sm_world.proofs.Adding.{fallen_never}
use Rattle.session_model.specs.declared.marks.Marks.{Marks}
use Rattle.session_engine.specs.Causes.{HasCause}
use Rattle.session_engine.specs.Turns.{is_end}
use Rattle.session_engine.specs.declared.fault.ServeFault.{ServeFault}
use Rattle.session_engine.specs.declared.fault.ServeFault.TheVariants.{Spent}
use Rattle.session_engine.specs.declared.session.Session.{Session}
use Rattle.session_engine.specs.declared.session.Stepped.TheVariants.{Finished}
use Rattle.session_engine.proofs.Loop.{caused_since, keeps_word, loop_begins, loop_cut_short, loop_ends, loop_goes_on, loop_over, loop_silent, loop_unopened, ready, shown_in, spent_is_not_worn, step_cut_short, step_ends, step_goes, together}
use Rattle.session_engine.proofs.session.serve.Goals as goal

pub returns-in-Err-clause-serves : goal.returns-in-Err-clause-serves
returns-in-Err-clause-serves g c = loop_unopened c.args.config c.args.turns (g.W.Told.outside c.args.world.now) (g.W.Told.outside c.start.new.world) c.in-Err.fault c.in-Err.ensures.starts

pub returns-in-Err-clause-headline : goal.returns-in-Err-clause-headline
returns-in-Err-clause-headline g c = keeps_word c.args.config c.args.turns (g.W.Told.outside c.args.world.now) (g.W.Told.outside c.start.new.world) _ c.requires.named (returns-in-Err-clause-serves g c)

pub returns-in-Err-clause-ready : goal.returns-in-Err-clause-ready
returns-in-Err-clause-ready g c = ready c.args.config c.args.turns (g.W.Told.outside c.args.world.now) (g.W.Told.outside c.start.new.world) _ (returns-in-Err-clause-serves g c) c.in-Err.ensures.first

pub returns-in-Err-hear-clause-serves : goal.returns-in-Err-hear-clause-serves
returns-in-Err-hear-clause-serves g c = rw (c.fault.ensures) (loop_silent c.args.config c.args.turns c.loop.counter (g.W.Told.outside c.args.world.now) (g.W.Told.outside c.loop.world) (g.W.Told.outside c.hear.new.world) (together c.loop.engine c.loop.shell c.loop.store) c.in-Err-hear.halt c.loop-test.true c.in-Err-hear.ensures.able c.in-Err-hear.ensures.effects c.in-Err-hear.ensures.store c.loop.invariant.held)

pub returns-in-Err-hear-clause-headline : goal.returns-in-Err-hear-clause-headline
returns-in-Err-hear-clause-headline g c = keeps_word c.args.config c.args.turns (g.W.Told.outside c.args.world.now) (g.W.Told.outside c.hear.new.world) _ c.requires.named (returns-in-Err-hear-clause-serves g c)

pub returns-in-Err-hear-clause-ready : goal.returns-in-Err-hear-clause-ready
returns-in-Err-hear-clause-ready g c = ready c.args.config c.args.turns (g.W.Told.outside c.args.world.now) (g.W.Told.outside c.hear.new.world) _ (returns-in-Err-hear-clause-serves g c) (c.in-Err-hear.ensures.first ∙ c.loop.invariant.first)

pub returns-in-Err-hear-clause-cause : goal.returns-in-Err-hear-clause-cause
returns-in-Err-hear-clause-cause g c =
    subst (λ (fault : ServeFault). HasCause (g.W.Told.outside c.args.world.now).faults (g.W.Told.outside c.hear.new.world).faults fault) (sym c.fault.ensures)
    (caused_since c.in-Err-hear.halt (g.W.Told.outside c.args.world.now).faults (g.W.Told.outside c.loop.world).faults (g.W.Told.outside c.hear.new.world).faults c.loop.invariant.counts c.in-Err-hear.ensures.counts.cause)

pub returns-in-Ended-clause-serves : goal.returns-in-Ended-clause-serves
returns-in-Ended-clause-serves g c =
    let before : Session = together c.loop.engine c.loop.shell c.loop.store in
    let marks : Marks = c.take_event.new.engine.manager.session.marks in
    let steps = step_ends (g.W.Told.outside c.hear.new.world) (g.W.Told.outside c.take_event.new.world) before c.in-Ok-hear.event c.take_event.new.engine c.in-Ok-take_event.next marks refl c.in-Ok-take_event.ensures.carried (λ m shows. sym (c.in-Ok-take_event.ensures.turn m shows) ∙ ap is_end c.in-Ended.is) in
    loop_ends c.args.config c.args.turns c.loop.counter (g.W.Told.outside c.args.world.now) (g.W.Told.outside c.loop.world) (g.W.Told.outside c.hear.new.world) (g.W.Told.outside c.take_event.new.world) before c.in-Ok-hear.event (Finished marks) marks refl c.loop-test.true c.loop.invariant.held c.in-Ok-hear.ensures.effects c.in-Ok-hear.ensures.coming (c.in-Ok-take_event.ensures.alone.size ∙ (c.in-Ok-hear.ensures.store ∙ c.loop.invariant.size)) steps

pub returns-in-Ended-clause-headline : goal.returns-in-Ended-clause-headline
returns-in-Ended-clause-headline g c = keeps_word c.args.config c.args.turns (g.W.Told.outside c.args.world.now) (g.W.Told.outside c.take_event.new.world) _ c.requires.named (returns-in-Ended-clause-serves g c)

pub returns-in-Ended-clause-ready : goal.returns-in-Ended-clause-ready
returns-in-Ended-clause-ready g c = ready c.args.config c.args.turns (g.W.Told.outside c.args.world.now) (g.W.Told.outside c.take_event.new.world) _ (returns-in-Ended-clause-serves g c) (c.in-Ok-take_event.ensures.alone.first ∙ (c.in-Ok-hear.ensures.first ∙ c.loop.invariant.first))

pub returns-in-Err-take_event-clause-serves : goal.returns-in-Err-take_event-clause-serves
returns-in-Err-take_event-clause-serves g c =
    let before : Session = together c.loop.engine c.loop.shell c.loop.store in
    let steps = step_cut_short (g.W.Told.outside c.hear.new.world) (g.W.Told.outside c.take_event.new.world) before c.in-Ok-hear.event c.take_event.new.engine c.in-Err-take_event.halt c.fault-in-Err-take_event.result c.fault-in-Err-take_event.ensures c.in-Err-take_event.ensures.carried in
    loop_cut_short c.args.config c.args.turns c.loop.counter (g.W.Told.outside c.args.world.now) (g.W.Told.outside c.loop.world) (g.W.Told.outside c.hear.new.world) (g.W.Told.outside c.take_event.new.world) before c.in-Ok-hear.event c.fault-in-Err-take_event.result c.loop-test.true c.loop.invariant.held c.in-Ok-hear.ensures.effects c.in-Ok-hear.ensures.coming (c.in-Err-take_event.ensures.alone.size ∙ (c.in-Ok-hear.ensures.store ∙ c.loop.invariant.size)) steps

pub returns-in-Err-take_event-clause-headline : goal.returns-in-Err-take_event-clause-headline
returns-in-Err-take_event-clause-headline g c = keeps_word c.args.config c.args.turns (g.W.Told.outside c.args.world.now) (g.W.Told.outside c.take_event.new.world) _ c.requires.named (returns-in-Err-take_event-clause-serves g c)

pub returns-in-Err-take_event-clause-ready : goal.returns-in-Err-take_event-clause-ready
returns-in-Err-take_event-clause-ready g c = ready c.args.config c.args.turns (g.W.Told.outside c.args.world.now) (g.W.Told.outside c.take_event.new.world) _ (returns-in-Err-take_event-clause-serves g c) (c.in-Err-take_event.ensures.alone.first ∙ (c.in-Ok-hear.ensures.first ∙ c.loop.invariant.first))

pub returns-in-Err-take_event-clause-cause : goal.returns-in-Err-take_event-clause-cause
returns-in-Err-take_event-clause-cause g c =
    subst (λ (fault : ServeFault). HasCause (g.W.Told.outside c.args.world.now).faults (g.W.Told.outside c.take_event.new.world).faults fault) (sym c.fault-in-Err-take_event.ensures)
    (caused_since c.in-Err-take_event.halt (g.W.Told.outside c.args.world.now).faults (g.W.Told.outside c.hear.new.world).faults (g.W.Told.outside c.take_event.new.world).faults (fallen_never (g.W.Told.outside c.args.world.now).faults (g.W.Told.outside c.loop.world).faults (g.W.Told.outside c.hear.new.world).faults c.loop.invariant.counts c.in-Ok-hear.ensures.counts.counts) c.in-Err-take_event.ensures.alone.counts.cause)

pub loop-init : goal.loop-init
loop-init g c =
    let held = loop_begins c.args.config (g.W.Told.outside c.args.world.now) (g.W.Told.outside c.start.new.world) c.in-Ok.session c.in-Ok.ensures.coming c.in-Ok.ensures.starts in
    record { held = held; shown = shown_in c.args.config (g.W.Told.outside c.args.world.now) (g.W.Told.outside c.start.new.world) 0 c.in-Ok.session held; size = c.in-Ok.ensures.size; input = c.in-Ok.ensures.input; first = c.in-Ok.ensures.first; counts = c.in-Ok.ensures.counts }

pub loop-preserved : goal.loop-preserved
loop-preserved g c =
    let before : Session = together c.loop.engine c.loop.shell c.loop.store in
    let next : Session = together c.take_event.new.engine c.take_event.new.shell c.in-Ok-take_event.next in
    let size = c.in-Ok-take_event.ensures.alone.size ∙ (c.in-Ok-hear.ensures.store ∙ c.loop.invariant.size) in
    let steps = step_goes (g.W.Told.outside c.hear.new.world) (g.W.Told.outside c.take_event.new.world) before next c.in-Ok-hear.event c.take_event.new.engine c.in-Ok-take_event.ensures.carried refl (λ m shows. sym (c.in-Ok-take_event.ensures.turn m shows) ∙ ap is_end c.in-GoesOn.is) in
    let held = loop_goes_on c.args.config c.loop.counter (c.loop.counter + 1) (g.W.Told.outside c.args.world.now) (g.W.Told.outside c.loop.world) (g.W.Told.outside c.hear.new.world) (g.W.Told.outside c.take_event.new.world) before next c.in-Ok-hear.event (omega arith) c.loop.invariant.held c.in-Ok-hear.ensures.effects c.in-Ok-hear.ensures.coming c.in-Ok-take_event.ensures.alone.coming size steps in
    record {
      held = held;
      shown = shown_in c.args.config (g.W.Told.outside c.args.world.now) (g.W.Told.outside c.take_event.new.world) (c.loop.counter + 1) next held;
      size = size;
      input = c.in-Ok-take_event.ensures.alone.input ∙ (c.in-Ok-hear.ensures.input ∙ c.loop.invariant.input);
      first = c.in-Ok-take_event.ensures.alone.first ∙ (c.in-Ok-hear.ensures.first ∙ c.loop.invariant.first);
      counts = fallen_never _ _ _ c.loop.invariant.counts (fallen_never _ _ _ c.in-Ok-hear.ensures.counts.counts c.in-Ok-take_event.ensures.alone.counts.counts);
    }

pub returns-clause-serves : goal.returns-clause-serves
returns-clause-serves g c = loop_over c.args.config c.args.turns c.loop.counter (g.W.Told.outside c.args.world.now) (g.W.Told.outside c.loop.world) (g.W.Told.outside c.loop.world) (together c.loop.engine c.loop.shell c.loop.store) Spent (omega (arith, c.loop.auto.counter-end)) spent_is_not_worn refl tt (λ e. omega (arith, c.loop.auto.counter-end, c.loop-test.false)) refl refl c.loop.invariant.held

pub returns-clause-headline : goal.returns-clause-headline
returns-clause-headline g c = keeps_word c.args.config c.args.turns (g.W.Told.outside c.args.world.now) (g.W.Told.outside c.loop.world) _ c.requires.named (returns-clause-serves g c)

pub returns-clause-ready : goal.returns-clause-ready
returns-clause-ready g c = ready c.args.config c.args.turns (g.W.Told.outside c.args.world.now) (g.W.Told.outside c.loop.world) _ (returns-clause-serves g c) c.loop.invariant.first
