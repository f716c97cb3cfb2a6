use Rattle.std.proofs.Common.{Some, None}
use Rattle.session_model.specs.Readings as of
use Rattle.nested_session.specs.Nesting.{ended_for}
use Rattle.nested_session.proofs.SaidLaws.{outcome_at, tell_cut, tell_none, tell_said}
use Rattle.nested_session.proofs.nest.Nest.tell.Goals as goal

pub returns-in-None-clause-tells : goal.returns-in-None-clause-tells
returns-in-None-clause-tells g c = λ config opening current base events n script all is goes.
    tell_none config opening current base events (g.W.Told.outside c.args.world.now).told c.args.self n script all
    (outcome_at c.args.self.awaited n.awaited c.args.marks (of.marks n.machine.session) None goes.ready.awaited is c.in-None.ensures) goes

pub returns-in-Ok-clause-tells : goal.returns-in-Ok-clause-tells
returns-in-Ok-clause-tells g c = λ config opening current base events n script all is goes.
    tell_said config opening current base events (g.W.Told.outside c.args.world.now).told (g.W.Told.outside c.say_end.new.world).told c.args.self n script all c.in-Some.success c.in-Ok.agent
    (outcome_at c.args.self.awaited n.awaited c.args.marks (of.marks n.machine.session) (Some c.in-Some.success) goes.ready.awaited is c.in-Some.ensures) (c.in-Ok.ensures.said n.agent goes.ready.agent) goes

pub returns-in-Err-clause-tells : goal.returns-in-Err-clause-tells
returns-in-Err-clause-tells g c = λ config opening current base events n script all is goes.
    tell_cut config opening current base events (g.W.Told.outside c.args.world.now).told (g.W.Told.outside c.say_end.new.world).told c.args.self n script all c.in-Err.fault (ended_for c.in-Some.success n.agent)
    (c.in-Err.ensures.said n.agent goes.ready.agent) goes
