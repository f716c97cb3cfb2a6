use Rattle.smclient_app.proofs.Following.{came_back}
use Rattle.smclient_app.proofs.joining.follow.Goals as goal

pub returns-clause-ran : goal.returns-clause-ran
returns-clause-ran g c =
    came_back g.S.Saves.answers g.D.Dies.gives g.C.Cancels.hears (g.P.Told.outside c.args.peer.now) (g.P.Told.outside c.run.new.peer) c.args.join.now c.run.new.join.lines c.args.turns (record { save = c.args.save; die = c.args.others.0; cancelled = c.args.others.1 }) c.new-joiner.result c.run.new.self c.parts-save.result c.run.result c.new-joiner.ensures c.run.ensures.joins c.parts-save.ensures.callbacks
