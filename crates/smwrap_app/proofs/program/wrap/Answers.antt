use Rattle.smwrap_app.specs.Words.{chosen_of}
use Rattle.smwrap_app.proofs.ProgramLaws.{unconnected, unplanned, wrapped}
use Rattle.smwrap_app.proofs.program.wrap.Goals as goal

pub returns-in-Err-clause-runs : goal.returns-in-Err-clause-runs
returns-in-Err-clause-runs g c = unplanned (chosen_of c.args.choices.now) c.args.turns (g.P.Told.outside c.args.peer.now) (g.F.Told.outside c.args.files.now)

pub returns-in-Ok-connect-clause-runs : goal.returns-in-Ok-connect-clause-runs
returns-in-Ok-connect-clause-runs g c =
    wrapped (chosen_of c.args.choices.now) c.args.turns (g.P.Told.outside c.args.peer.now) (g.P.Told.outside c.connect.new.self) (g.P.Told.outside c.join.new.peer) (g.F.Told.outside c.args.files.now) (g.F.Told.outside c.begin.new.files) (g.F.Told.outside c.join.new.files) c.in-Ok-begin.cookie c.join.result c.in-Ok-connect.field-0
    c.in-Ok-begin.ensures.begins c.in-Ok-connect.ensures.effects c.in-Ok-connect.ensures.uses c.join.ensures

pub returns-in-Err-connect-clause-runs : goal.returns-in-Err-connect-clause-runs
returns-in-Err-connect-clause-runs g c =
    rw c.peer_fault.ensures
    (unconnected c.in-Err-connect.failure (chosen_of c.args.choices.now) c.args.turns (g.P.Told.outside c.args.peer.now) (g.P.Told.outside c.connect.new.self) (g.F.Told.outside c.args.files.now) (g.F.Told.outside c.begin.new.files) c.in-Ok-begin.cookie
    c.in-Ok-begin.ensures.begins c.in-Err-connect.ensures.effects c.in-Err-connect.ensures.uses)
