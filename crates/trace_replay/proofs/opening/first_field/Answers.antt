use Rattle.std.proofs.lemmas.Bool.Decides.{Decides-eqb}
use Rattle.std.proofs.lemmas.Slice.Eq.{strip_prefix_is}
use Rattle.control_lines.specs.Lines.{lines_of}
use Rattle.trace_replay.proofs.OpeningLemmas.{first_by}
use Rattle.trace_replay.proofs.opening.first_field.Goals as goal

pub returns : goal.returns
returns c =
    first_by c.next_line.result.0.now c.args.word.now (lines_of c.next_line.result.1.now) (lines_of c.args.text.now) c.strip_prefix.result c.next_line.ensures.lines
    (strip_prefix_is Decides-eqb c.next_line.result.0.now c.args.word.now c.strip_prefix.result c.strip_prefix.ensures.cases)
