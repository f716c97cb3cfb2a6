use Rattle.std.proofs.Common.{◌∙◌}
use Rattle.sm_world.proofs.Adding.{fallen_never}
use Rattle.nested_session.proofs.CauseLaws.{cause_if}
use Rattle.nested_session.proofs.LoopLaws.{loop_silent, loop_takes}
use Rattle.nested_session.proofs.serving.turn.Goals as goal

pub returns-in-Err-clause-further : goal.returns-in-Err-clause-further
returns-in-Err-clause-further g c = λ config turns count agent first begun few held. loop_silent config turns agent first count begun (g.W.Told.outside c.args.world.now) (g.W.Told.outside c.hear.new.world) c.args.nest c.in-Err.fault few c.in-Err.ensures.able c.in-Err.ensures.effects c.in-Err.ensures.size held

pub returns-clause-further : goal.returns-clause-further
returns-clause-further g c = λ config turns count agent first begun few held. loop_takes config turns agent first count begun (g.W.Told.outside c.args.world.now) (g.W.Told.outside c.hear.new.world) (g.W.Told.outside c.take.new.world) c.args.nest c.in-Ok.event _ few held c.in-Ok.ensures.effects c.in-Ok.ensures.coming c.take.ensures.alone.coming (c.take.ensures.alone.size ∙ (c.in-Ok.ensures.size ∙ c.requires.size)) (c.take.ensures.makes config)

pub returns-clause-cause : goal.returns-clause-cause
returns-clause-cause g c = cause_if _ (g.W.Told.outside c.args.world.now).faults (g.W.Told.outside c.hear.new.world).faults (g.W.Told.outside c.take.new.world).faults c.in-Ok.ensures.counts c.take.ensures.alone.cause

pub returns-clause-counts : goal.returns-clause-counts
returns-clause-counts g c = fallen_never _ _ _ c.in-Ok.ensures.counts c.take.ensures.alone.counts
