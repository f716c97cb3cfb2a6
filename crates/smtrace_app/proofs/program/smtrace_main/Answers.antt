use Rattle.std.proofs.Common.{map, string_bytes}
use Rattle.smtrace_app.proofs.Printing.{answers}
use Rattle.smtrace_app.proofs.program.smtrace_main.Goals as goal

pub returns-clause-answers : goal.returns-clause-answers
returns-clause-answers g c =
    answers (map string_bytes c.args.words.now) (g.C.Told.outside c.args.console.now) (g.C.Told.outside c.run_words-ending.new.console) (g.C.Told.outside c.conclude.new.world) c.conclude.result c.run_words-ending.result c.run_words-ending.ensures.runs c.conclude.ensures.tried c.conclude.ensures.silent c.conclude.ensures.status
