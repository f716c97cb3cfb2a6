use Rattle.std.proofs.Common.{◌≡◌, subst, List, ℕ}
use Rattle.sm_world.specs.Outside.{adds}
use Rattle.outer_agent.specs.declared.acts.AgentAct.TheVariants.{Drop, Send}
use Rattle.nested_session.specs.Nesting.{carried}
use Rattle.nested_session.specs.Standing.{sent_on}
use Rattle.nested_session.proofs.ActLaws.{dropped, forgotten, sent_act, unsaid}
use Rattle.nested_session.proofs.nest.Nest.carry.Goals as goal

pub returns-in-Ok-clause-makes : goal.returns-in-Ok-clause-makes
returns-in-Ok-clause-makes g c = rw c.in-Send.is (λ config opening current base events n script all other goes.
    sent_act config opening current base events (g.W.Told.outside c.args.world.now).told (g.W.Told.outside c.send_outer.new.world).told c.args.self n script all c.in-Send.bytes c.args.later.now
    (subst (λ (xs : List ℕ). (g.W.Told.outside c.send_outer.new.world).told ≡ adds (g.W.Told.outside c.args.world.now).told (sent_on xs)) c.as_slice.ensures c.in-Ok.ensures.effects) other goes)

pub returns-in-Err-clause-makes : goal.returns-in-Err-clause-makes
returns-in-Err-clause-makes g c = rw c.in-Send.is (λ config opening current base events n script all other goes.
    unsaid config opening current base events (g.W.Told.outside c.args.world.now).told (g.W.Told.outside c.send_outer.new.world).told c.args.self n script all (carried (Send c.in-Send.bytes) c.args.later.now n) c.in-Err.fault c.in-Err.ensures.effects c.in-Err.ensures.able goes)

pub returns-in-Checkpoint-clause-makes : goal.returns-in-Checkpoint-clause-makes
returns-in-Checkpoint-clause-makes g c = rw c.in-Checkpoint.is (λ config opening current base events n script all other goes. c.save.ensures.makes config opening current base events n script all goes)

pub returns-in-Forget-clause-makes : goal.returns-in-Forget-clause-makes
returns-in-Forget-clause-makes g c = rw (c.in-Forget.is, c.forget.ensures) (λ config opening current base events n script all other goes.
    forgotten config opening current base events (g.W.Told.outside c.args.world.now).told c.args.self n script all goes)

pub returns-in-Shutdown-clause-makes : goal.returns-in-Shutdown-clause-makes
returns-in-Shutdown-clause-makes g c = rw c.in-Shutdown.is (λ config opening current base events n script all other goes. c.shut_down.ensures.makes config opening current base events n script all goes)

pub returns-in-Ok-shut_outer-clause-makes : goal.returns-in-Ok-shut_outer-clause-makes
returns-in-Ok-shut_outer-clause-makes g c = rw (c.in-Drop.is, c.part.ensures) (λ config opening current base events n script all other goes.
    dropped config opening current base events (g.W.Told.outside c.args.world.now).told (g.W.Told.outside c.shut_outer.new.world).told c.args.self n script all c.args.later.now c.in-Ok-shut_outer.ensures.effects goes)

pub returns-in-Err-shut_outer-clause-makes : goal.returns-in-Err-shut_outer-clause-makes
returns-in-Err-shut_outer-clause-makes g c = rw c.in-Drop.is (λ config opening current base events n script all other goes.
    unsaid config opening current base events (g.W.Told.outside c.args.world.now).told (g.W.Told.outside c.shut_outer.new.world).told c.args.self n script all (carried Drop c.args.later.now n) c.in-Err-shut_outer.fault c.in-Err-shut_outer.ensures.effects c.in-Err-shut_outer.ensures.able goes)
