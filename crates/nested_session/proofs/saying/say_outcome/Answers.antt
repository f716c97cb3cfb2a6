use Rattle.nested_session.proofs.Talking.{outcome_said}
use Rattle.nested_session.proofs.saying.say_outcome.Goals as goal

pub returns-in-Some-clause-said : goal.returns-in-Some-clause-said
returns-in-Some-clause-said g c = λ run has.
    outcome_said (g.W.Told.outside c.args.world.now).told (g.W.Told.outside c.say_end.new.world).told c.args.ended c.in-Some.success run c.say_end.result c.in-Some.is (c.say_end.ensures.said run has)
