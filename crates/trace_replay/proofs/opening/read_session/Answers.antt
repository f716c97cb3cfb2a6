use Rattle.std.proofs.Common.{codes, subst, sym}
use Rattle.control_lines.specs.Lines.{lines_of}
use Rattle.checkpoint_records.specs.Rules.{IsName}
use Rattle.trace_replay.specs.Openings.{IsSession}
use Rattle.trace_replay.proofs.OpeningLemmas.{begins_none, begins_not, begins_so}
use Rattle.trace_replay.proofs.opening.read_session.Goals as goal

pub returns-in_default : goal.returns-in_default
returns-in_default c = begins_not (codes "session ") IsSession (lines_of c.args.text.now) (rw c.in_default.is at c.first_field.ensures)
