use Rattle.std.proofs.Common.{subst, Option}
use Rattle.outer_agent.specs.Standing.{Stand}
use Rattle.nested_session.specs.Standing.{HasAgent}
use Rattle.nested_session.proofs.Talking.{none_ended, said_ended}
use Rattle.nested_session.proofs.saying.say_end.Goals as goal

pub returns-in-None-clause-said : goal.returns-in-None-clause-said
returns-in-None-clause-said g c = λ run has. none_ended (g.W.Told.outside c.args.world.now).told c.args.success run (subst (λ (a : Option Stand). HasAgent a run) c.in-None.is has)

pub returns-in-Ok-send_outer-clause-said : goal.returns-in-Ok-send_outer-clause-said
returns-in-Ok-send_outer-clause-said g c = λ run has.
    said_ended (g.W.Told.outside c.args.world.now).told (g.W.Told.outside c.send_outer.new.world).told c.args.success c.in-Some.agent c.ended.new.self c.in-Ok.bytes run c.in-Ok.ensures.ended
    (rw c.as_slice.ensures at c.in-Ok-send_outer.ensures.effects) (subst (λ (a : Option Stand). HasAgent a run) c.in-Some.is has)
