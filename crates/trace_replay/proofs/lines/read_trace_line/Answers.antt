use Rattle.std.proofs.Common.{codes, refl, sym, ◌∙◌}
use Rattle.std.proofs.lemmas.Bool.Decides.{Decides-eqb}
use Rattle.std.proofs.lemmas.Slice.Eq.{strip_prefix_is, slice_eq-Decides}
use Rattle.std.proofs.lemmas.Bool.{false≢true}
use Rattle.trace_replay.proofs.LineLemmas.{only_sent, no_line}
use Rattle.trace_replay.proofs.lines.read_trace_line.Goals as goal

pub returns-in-None-clause-refused : goal.returns-in-None-clause-refused
returns-in-None-clause-refused c =
    only_sent c.args.line.now c.in-Some.fields.now (rw c.in-Some.is at (strip_prefix_is Decides-eqb c.args.line.now (codes "sent ") c.strip_prefix.result c.strip_prefix.ensures.cases)) (rw c.in-None.is at c.in_ok-conn.ensures)

pub returns-in-Err-BadLine-clause-refused : goal.returns-in-Err-BadLine-clause-refused
returns-in-Err-BadLine-clause-refused c =
    no_line c.args.line.now
    (rw c.in-Err-BadLine.field-0-is at c.in-Err-BadLine.ensures.refused)
    (λ e. false≢true (c.if-eq.ensures ∙ (slice_eq-Decides Decides-eqb c.args.line.now c.as_slice.result.now _ refl).1 (e ∙ sym c.as_slice.ensures)))
    (rw c.in_default.is at (strip_prefix_is Decides-eqb c.args.line.now (codes "sent ") c.strip_prefix.result c.strip_prefix.ensures.cases))
    (rw c.in_default-strip_prefix.is at (strip_prefix_is Decides-eqb c.args.line.now (codes "shut ") c.strip_prefix-2.result c.strip_prefix-2.ensures.cases))
    (rw c.in_default-strip_prefix-2.is at (strip_prefix_is Decides-eqb c.args.line.now (codes "printed ") c.strip_prefix-3.result c.strip_prefix-3.ensures.cases))
    ((rw c.in_default-command_text.is at c.command_text.ensures.none) refl)
