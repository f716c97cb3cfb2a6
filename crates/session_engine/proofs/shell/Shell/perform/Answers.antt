use Rattle.std.proofs.Common.{Err, List, subst}
use Rattle.sm_world.specs.Outside.{Added}
use Rattle.session_engine.specs.Acts.{acts_for_all}
use Rattle.session_engine.specs.Saved.{Performs}
use Rattle.session_engine.specs.declared.acts.Act.{Act}
use Rattle.session_engine.proofs.Performing.{told_stopped, told_then}
use Rattle.session_engine.proofs.shell.Shell.perform.Goals as goal

pub returns-in-Ok-clause-done : goal.returns-in-Ok-clause-done
returns-in-Ok-clause-done g c =
    subst (λ (acts : List Act). Added (g.W.Told.outside c.args.world.now).told (g.W.Told.outside c.perform_did.new.world).told (Performs c.args.store acts c.perform_did.result)) c.into_queues-said.ensures.is
    (told_then c.args.store c.in-Ok.store c.into_queues-said.result.0.items (acts_for_all c.into_queues-said.result.1.items) c.perform_did.result _ _ _ c.in-Ok.ensures.done c.perform_did.ensures.done)

pub returns-in-Err-clause-done : goal.returns-in-Err-clause-done
returns-in-Err-clause-done g c =
    subst (λ (acts : List Act). Added (g.W.Told.outside c.args.world.now).told (g.W.Told.outside c.perform_said.new.world).told (Performs c.args.store acts (Err c.in-Err.halt))) c.into_queues-said.ensures.is
    (told_stopped c.args.store c.into_queues-said.result.0.items (acts_for_all c.into_queues-said.result.1.items) c.in-Err.halt _ _ c.in-Err.ensures.done)
