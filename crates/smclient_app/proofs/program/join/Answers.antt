use Rattle.smclient_app.proofs.ProgramLaws.{stopped, went}
use Rattle.smclient_app.proofs.program.join.Goals as goal

pub returns-in-Err-clause-runs : goal.returns-in-Err-clause-runs
returns-in-Err-clause-runs g c =
    stopped c.args.choices.now (g.P.Told.outside c.args.world.now) (g.P.Told.outside c.connect.new.peer) c.args.turns c.in-Err.fault c.in-Err.ensures.told c.in-Err.ensures.early

pub returns-clause-runs : goal.returns-clause-runs
returns-clause-runs g c =
    went c.args.choices.now (g.P.Told.outside c.args.world.now) (g.P.Told.outside c.connect.new.peer) (g.P.Told.outside c.join_session-answer.new.peer) (g.P.Told.outside c.print_lines-printed.new.world) c.args.turns c.in-Ok.join c.join_session-answer.new.join.lines c.join_session-answer.result c.print_lines-printed.result c.ending.result
    c.in-Ok.ensures.ready c.in-Ok.ensures.told c.in-Ok.ensures.counts c.join_session-answer.ensures.joins
    (rw c.as_slice.ensures at c.print_lines-printed.ensures.prints) c.print_lines-printed.ensures.counts c.print_lines-printed.ensures.cause c.ending.ensures
