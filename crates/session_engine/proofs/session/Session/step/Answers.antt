use Rattle.std.proofs.Common.{refl, sym, ◌∙◌, ap}
use Rattle.session_engine.specs.Machine.{step}
use Rattle.session_engine.specs.Turns.{is_end}
use Rattle.session_engine.specs.declared.session.Session.{Session}
use Rattle.session_engine.proofs.Loop.{step_cut_short, step_ends, step_goes}
use Rattle.session_engine.proofs.session.Session.step.Goals as goal

pub returns-in-GoesOn-clause-steps : goal.returns-in-GoesOn-clause-steps
returns-in-GoesOn-clause-steps g c =
    let next : Session = record { engine = c.take_event.new.engine; shell = c.take_event.new.shell; store = c.in-Ok.store } in
    step_goes (g.W.Told.outside c.args.world.now) (g.W.Told.outside c.take_event.new.world) c.args.self next c.args.event c.take_event.new.engine c.in-Ok.ensures.carried refl (λ m shows. sym (c.in-Ok.ensures.turn m shows) ∙ ap is_end c.in-GoesOn.is)

pub returns-in-GoesOn-clause-shown : goal.returns-in-GoesOn-clause-shown
returns-in-GoesOn-clause-shown g c = ((step c.requires.shown.0 c.args.event).next, (c.in-Ok.ensures.carried c.requires.shown.0 c.requires.shown.1).shows refl)

pub returns-in-Ok-clause-steps : goal.returns-in-Ok-clause-steps
returns-in-Ok-clause-steps g c = step_ends (g.W.Told.outside c.args.world.now) (g.W.Told.outside c.take_event.new.world) c.args.self c.args.event c.take_event.new.engine c.in-Ok.store c.marks.result c.marks.ensures c.in-Ok.ensures.carried (λ m shows. sym (c.in-Ok.ensures.turn m shows) ∙ ap is_end c.in-Ended.is)

pub returns-clause-steps : goal.returns-clause-steps
returns-clause-steps g c = step_cut_short (g.W.Told.outside c.args.world.now) (g.W.Told.outside c.take_event.new.world) c.args.self c.args.event c.take_event.new.engine c.in-Err.halt c.fault.result c.fault.ensures c.in-Err.ensures.carried
