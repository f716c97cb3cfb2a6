use Rattle.std.proofs.Common.{map, string_bytes}
use Rattle.smwrap_app.specs.Words.{chosen_of}
use Rattle.smwrap_app.proofs.ProgramLaws.{fits, no_memory}
use Rattle.smwrap_app.proofs.program.run_words.Goals as goal

pub wrap-requires : goal.wrap-requires
wrap-requires g c = fits (map string_bytes c.args.words.now) (chosen_of c.in-Ok-Some.choices) (rw c.in-Ok-Some.field-0-is at c.in-Ok-Some.ensures)

pub returns-in-Err-clause-runs : goal.returns-in-Err-clause-runs
returns-in-Err-clause-runs g c = no_memory (map string_bytes c.args.words.now) c.args.turns (g.P.Told.outside c.args.peer.now) (g.F.Told.outside c.args.files.now)
