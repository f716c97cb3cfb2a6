use Rattle.std.proofs.Common.{Err, ap, map, string_bytes}
use Rattle.smclient_app.proofs.ProgramLaws.{bad_words, by_words}
use Rattle.smclient_app.proofs.program.run_words.Goals as goal

pub returns-in-Err-BadWords-clause-runs : goal.returns-in-Err-BadWords-clause-runs
returns-in-Err-BadWords-clause-runs g c = bad_words (map string_bytes c.args.words.now) (g.P.Told.outside c.args.world.now) c.args.turns (c.in-Err-BadWords.ensures.bad (ap Err c.in-Err-BadWords.field-0-is))

pub returns-clause-runs : goal.returns-clause-runs
returns-clause-runs g c =
    by_words (map string_bytes c.args.words.now) c.in-Ok.choices (g.P.Told.outside c.args.world.now) (g.P.Told.outside c.join.new.world) c.args.turns c.join.result c.in-Ok.ensures.chosen c.join.ensures.runs
