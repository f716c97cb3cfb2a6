use Rattle.std.proofs.Common.{[]}
use Rattle.nested_session.proofs.ActLaws.{shuts_down}
use Rattle.nested_session.proofs.nest.Nest.shut_down.Goals as goal

pub returns-clause-makes : goal.returns-clause-makes
returns-clause-makes g c = λ config opening current base events n script all goes.
    shuts_down config opening current base events (g.W.Told.outside c.args.world.now).told (g.W.Told.outside c.feed.new.world).told c.args.self n script all [] c.feed.result goes (c.feed.ensures.makes config opening current base)
