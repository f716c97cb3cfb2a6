use Rattle.nested_session.specs.Nesting.{outcome_for}
use Rattle.nested_session.proofs.Ending.{closed_cut, finish_done, finish_unclosed}
use Rattle.nested_session.proofs.nest.finish.Goals as goal

pub returns-in-Ok-say_close-clause-makes : goal.returns-in-Ok-say_close-clause-makes
returns-in-Ok-say_close-clause-makes g c = λ config opening current base events n script all is ends.
    finish_done config opening current base events (g.W.Told.outside c.args.world.now).told (g.W.Told.outside c.say_outcome.new.world).told (g.W.Told.outside c.say_close.new.world).told n script all c.args.ended c.args.agent c.in-Ok.agent _ is
    (c.in-Ok.ensures.said n.agent ends.agent_is) (c.in-Ok-say_close.ensures.said (outcome_for c.args.ended n.agent).next (c.in-Ok.ensures.said n.agent ends.agent_is).1) ends

pub returns-in-Err-say_close-clause-makes : goal.returns-in-Err-say_close-clause-makes
returns-in-Err-say_close-clause-makes g c = λ config opening current base events n script all is ends.
    finish_unclosed config opening current base events (g.W.Told.outside c.args.world.now).told (g.W.Told.outside c.say_outcome.new.world).told (g.W.Told.outside c.say_close.new.world).told n script all c.args.ended c.args.agent c.in-Ok.agent c.in-Err-say_close.fault is
    (c.in-Ok.ensures.said n.agent ends.agent_is) (c.in-Err-say_close.ensures.said (outcome_for c.args.ended n.agent).next (c.in-Ok.ensures.said n.agent ends.agent_is).1) ends

pub returns-in-Err-clause-makes : goal.returns-in-Err-clause-makes
returns-in-Err-clause-makes g c = λ config opening current base events n script all is ends.
    closed_cut config opening current base events (g.W.Told.outside c.args.world.now).told (g.W.Told.outside c.say_outcome.new.world).told n script all (outcome_for c.args.ended n.agent) c.in-Err.fault
    (c.in-Err.ensures.said n.agent ends.agent_is) ends.ended
