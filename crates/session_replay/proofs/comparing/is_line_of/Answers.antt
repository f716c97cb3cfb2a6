use Rattle.std.proofs.Common.{codes, refl, ◌∙◌}
use Rattle.std.proofs.lemmas.Bool.{false≢true}
use Rattle.std.proofs.lemmas.Bool.Decides.{Decides-eqb}
use Rattle.std.proofs.lemmas.Slice.Eq.{slice_eq-Decides, strip_prefix_is}
use Rattle.session_replay.proofs.ComparingLemmas.{line_by}
use Rattle.session_replay.proofs.comparing.is_line_of.Goals as goal

pub returns-in-Some-strip_prefix : goal.returns-in-Some-strip_prefix
returns-in-Some-strip_prefix c =
    line_by c.args.made.now c.args.line.now c.in-Some.own.now c.in-Some-strip_prefix.other.now c.eq-in-Some-strip_prefix.result
    (rw c.in-Some.is at (strip_prefix_is Decides-eqb c.args.made.now (codes "started ") c.strip_prefix.result c.strip_prefix.ensures.cases))
    (rw c.in-Some-strip_prefix.is at (strip_prefix_is Decides-eqb c.args.line.now (codes "unstarted ") c.strip_prefix-2.result c.strip_prefix-2.ensures.cases))
    (λ e. false≢true (c.if-eq.ensures ∙ (slice_eq-Decides Decides-eqb c.args.line.now c.args.made.now _ refl).1 e))
    (slice_eq-Decides Decides-eqb c.in-Some-strip_prefix.other.now c.in-Some.own.now c.eq-in-Some-strip_prefix.result c.eq-in-Some-strip_prefix.ensures)
