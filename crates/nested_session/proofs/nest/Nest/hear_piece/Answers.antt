use Rattle.std.proofs.Common.{sym}
use Rattle.sm_world.proofs.Adding.{adds-none}
use Rattle.session_engine.specs.declared.fault.ServeFault.TheVariants.{NoMemory}
use Rattle.nested_session.specs.Nesting.{piece_for}
use Rattle.nested_session.proofs.ActLaws.{unsaid}
use Rattle.nested_session.proofs.TakeLaws.{heard_acting, heard_alone}
use Rattle.nested_session.proofs.nest.Nest.hear_piece.Goals as goal

pub returns-in-None-clause-makes : goal.returns-in-None-clause-makes
returns-in-None-clause-makes g c = λ config opening current base events n script all goes.
    heard_alone config opening current base events (g.W.Told.outside c.args.world.now).told c.args.self n script all c.args.bytes.now c.in-None.is goes

pub returns-in-Ok-clause-makes : goal.returns-in-Ok-clause-makes
returns-in-Ok-clause-makes g c = λ config opening current base events n script all goes.
    heard_acting config opening current base events (g.W.Told.outside c.args.world.now).told (g.W.Told.outside c.carry_all.new.world).told c.args.self n script all c.args.bytes.now c.in-Some.agent c.hear.new.self c.in-Ok.acts c.carry_all.result c.in-Some.is c.in-Ok.ensures.hears goes
    (rw c.as_slice.ensures at (c.carry_all.ensures.makes config opening current base events))

pub returns-in-Err-clause-makes : goal.returns-in-Err-clause-makes
returns-in-Err-clause-makes g c = λ config opening current base events n script all goes.
    unsaid config opening current base events (g.W.Told.outside c.args.world.now).told (g.W.Told.outside c.args.world.now).told c.args.self n script all (piece_for c.args.bytes.now n n.agent) NoMemory (sym (adds-none (g.W.Told.outside c.args.world.now).told)) tt goes
