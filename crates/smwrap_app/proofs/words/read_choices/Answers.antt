use Rattle.std.proofs.Common.{map, string_bytes}
use Rattle.smwrap_app.proofs.WordLaws.{either_at}
use Rattle.smwrap_app.proofs.words.read_choices.Goals as goal

pub returns-in-Ok-None : goal.returns-in-Ok-None
returns-in-Ok-None c = either_at c.read_at-in-Ok-None.result (map string_bytes c.args.words.now) (rw c.in-Ok-None.field-0-is at c.in-Ok-None.ensures) c.read_at-in-Ok-None.ensures
