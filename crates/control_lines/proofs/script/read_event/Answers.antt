use Rattle.std.proofs.Common.{codes}
use Rattle.std.proofs.lemmas.Bool.Decides.{Decides-eqb}
use Rattle.std.proofs.lemmas.Slice.Eq.{strip_prefix_is}
use Rattle.control_lines.proofs.Refusals.{only_piece}
use Rattle.control_lines.proofs.script.read_event.Goals as goal

pub returns-in-None-clause-refused : goal.returns-in-None-clause-refused
returns-in-None-clause-refused c =
    only_piece c.args.line.now c.in-Some-strip_prefix-4.fields.now (rw c.in-Some-strip_prefix-4.is at (strip_prefix_is Decides-eqb c.args.line.now (codes "piece ") c.strip_prefix-5.result c.strip_prefix-5.ensures.cases)) (rw c.in-None.is at c.in_ok-conn.ensures)
