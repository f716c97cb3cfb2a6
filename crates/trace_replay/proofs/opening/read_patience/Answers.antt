use Rattle.std.proofs.Common.{arith, codes}
use Rattle.control_lines.specs.Lines.{lines_of}
use Rattle.trace_replay.specs.Openings.{IsPatience}
use Rattle.trace_replay.proofs.OpeningLemmas.{begins_none, begins_not, no_patience}
use Rattle.trace_replay.proofs.opening.read_patience.Goals as goal

pub returns-in_default : goal.returns-in_default
returns-in_default c = begins_not (codes "patience ") IsPatience (lines_of c.args.text.now) (rw c.in_default.is at c.first_field.ensures)

pub returns-then-number-eq0 : goal.returns-then-number-eq0
returns-then-number-eq0 c =
    begins_none (codes "patience ") IsPatience (lines_of c.args.text.now) c.in-Some.field.now (rw c.in-Some.is at c.first_field.ensures)
    (no_patience c.in-Some.field.now c.in-Some-2.number (rw c.in-Some-2.is at c.in_ok-number.ensures) c.if-number-eq0.true)
