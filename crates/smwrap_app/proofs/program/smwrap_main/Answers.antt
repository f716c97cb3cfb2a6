use Rattle.std.proofs.Common.{map, string_bytes}
use Rattle.smwrap_app.proofs.ProgramLaws.{concludes}
use Rattle.smwrap_app.proofs.program.smwrap_main.Goals as goal

pub returns-clause-answers : goal.returns-clause-answers
returns-clause-answers g c =
    concludes (map string_bytes c.args.words.now) c.args.turns (g.P.Told.outside c.args.peer.now) (g.P.Told.outside c.run_words-ending.new.peer) (g.F.Told.outside c.args.files.now) (g.F.Told.outside c.run_words-ending.new.files) (g.F.Told.outside c.conclude.new.world) c.conclude.result c.run_words-ending.result
    c.run_words-ending.ensures.runs c.conclude.ensures.tried c.conclude.ensures.silent c.conclude.ensures.status
