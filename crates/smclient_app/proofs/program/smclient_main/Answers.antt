use Rattle.std.proofs.Common.{map, string_bytes}
use Rattle.smclient_app.proofs.ProgramLaws.{answered}
use Rattle.smclient_app.proofs.program.smclient_main.Goals as goal

pub returns-clause-answers : goal.returns-clause-answers
returns-clause-answers g c =
    answered (map string_bytes c.args.words.now) (g.P.Told.outside c.args.world.now) (g.P.Told.outside c.run_words-ending.new.world) (g.P.Told.outside c.conclude.new.world) c.args.turns c.conclude.result c.run_words-ending.result c.run_words-ending.ensures.runs c.conclude.ensures.tried c.conclude.ensures.silent c.conclude.ensures.status
