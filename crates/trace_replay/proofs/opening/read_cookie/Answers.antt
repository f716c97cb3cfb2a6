use Rattle.std.proofs.Common.{codes}
use Rattle.control_lines.specs.Lines.{lines_of}
use Rattle.trace_replay.specs.Openings.{IsCookie}
use Rattle.trace_replay.proofs.OpeningLemmas.{begins_not}
use Rattle.trace_replay.proofs.opening.read_cookie.Goals as goal

pub returns-in_default : goal.returns-in_default
returns-in_default c = begins_not (codes "cookie ") IsCookie (lines_of c.args.text.now) (rw c.in_default.is at c.first_field.ensures)
