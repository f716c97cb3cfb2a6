use Rattle.std.proofs.Common.{◌∙◌, sym}
use Rattle.nested_session.proofs.TakeLaws.{takes_inner, takes_outer}
use Rattle.nested_session.proofs.nest.Nest.take.Goals as goal

pub returns-then-is_outer-clause-makes : goal.returns-then-is_outer-clause-makes
returns-then-is_outer-clause-makes g c = λ config opening current base before earlier events n script all added later goes.
    takes_outer config opening current base before earlier events (g.W.Told.outside c.args.world.now).told (g.W.Told.outside c.hear_outer.new.world).told c.args.self n script all c.args.event c.hear_outer.result (sym c.is_outer.ensures ∙ c.if-is_outer.true) added later goes
    (c.hear_outer.ensures.makes config opening current base events)

pub returns-clause-makes : goal.returns-clause-makes
returns-clause-makes g c = λ config opening current base before earlier events n script all added later goes.
    takes_inner config opening current base before earlier events (g.W.Told.outside c.args.world.now).told (g.W.Told.outside c.feed.new.world).told c.args.self n script all c.args.event c.feed.result (sym c.is_outer.ensures ∙ c.if-is_outer.false) added later goes
    (c.feed.ensures.makes config opening current base)
