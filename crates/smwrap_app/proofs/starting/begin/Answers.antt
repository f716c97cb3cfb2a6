use Rattle.smwrap_app.specs.Words.{chosen_of}
use Rattle.smwrap_app.proofs.ProgramLaws.{begun}
use Rattle.smwrap_app.proofs.starting.begin.Goals as goal

pub returns-in-Ok-start-clause-begins : goal.returns-in-Ok-start-clause-begins
returns-in-Ok-start-clause-begins g c =
    begun (chosen_of c.args.choices.now) (g.F.Told.outside c.args.files.now) (g.F.Told.outside c.fetch_cookie.new.files) (g.F.Told.outside c.put_back.new.files) (g.F.Told.outside c.start.new.files) c.in-Ok.cookie c.in-Ok-start.field-0 c.in-Ok-put_back.field-0
    c.in-Ok.ensures.found c.in-Ok.ensures.told c.in-Ok.ensures.uses (rw c.requires at c.in-Ok-put_back.ensures.puts) c.in-Ok-put_back.ensures.uses (rw c.requires at c.in-Ok-start.ensures.told) c.in-Ok-start.ensures.uses
