use Rattle.std.proofs.Common.{map, string_bytes}
use Rattle.smnest_app.proofs.Ending.{answers}
use Rattle.smnest_app.proofs.program.smnest_main.Goals as goal

pub returns-clause-answers : goal.returns-clause-answers
returns-clause-answers g c =
    answers (map string_bytes c.args.words.now) c.args.identity (g.W.Told.outside c.args.world.now) (g.W.Told.outside c.run_words-ending.new.world) (g.W.Told.outside c.conclude.new.world) c.args.turns c.conclude.result c.run_words-ending.result c.run_words-ending.ensures.runs c.conclude.ensures.tried c.conclude.ensures.prints c.conclude.ensures.silent c.conclude.ensures.status
