-- A trace has one verdict at most.
use Rattle.std.proofs.Common.{◌≡◌, ℕ, ◌+◌, List, ◌++◌, length, refl, sym, ◌∙◌, ap, subst, arith, length-append}
use Rattle.sm_world.specs.declared.events.Event.{Event}
use Rattle.control_lines.specs.Laws.{MeansOne}
use Rattle.control_lines.specs.Lines.{lines_of}
use Rattle.trace_replay.specs.Traces.{events_in}
use Rattle.trace_replay.specs.declared.opening.Opening.{Opening}
use Rattle.trace_replay.proofs.Once.{one_trace}
use Rattle.trace_replay.proofs.TraceLemmas.{never_both, same_place}
use Rattle.session_replay.specs.Comparing.{AreLinesOf}
use Rattle.session_replay.specs.Verdicts.{IsJudged, Judges, ReplaysWithin}
use Rattle.session_replay.specs.declared.replaying.Verdict.{Verdict}
use Rattle.session_replay.specs.declared.replaying.Verdict.TheVariants.{Same, Differs, Malformed}
use Rattle.session_replay.proofs.ComparingLemmas.{never_part, same_length}

one_judgement : (trace : List ℕ) (opening : Opening) (events : List Event) → MeansOne (Judges trace opening events)
one_judgement trace opening events Same Same one two = refl
one_judgement trace opening events Same (Differs at) one (n, (left, part, size), number) =
    absurd (never_part part.done part.next part.goes_on.front left (rw (part.made_parts, part.goes_on.parts) at one) part.goes_on.are part.part)
one_judgement trace opening events Same (Malformed at) one two = absurd two
one_judgement trace opening events (Differs at) Same (n, (left, part, size), number) two =
    absurd (never_part part.done part.next part.goes_on.front left (rw (part.made_parts, part.goes_on.parts) at two) part.goes_on.are part.part)
one_judgement trace opening events (Differs at) (Differs other) (n, (left, part, count), number) (n', (left', part', count'), number') =
    let same = same_length part.done part.next part.goes_on.front left part'.done part'.next part'.goes_on.front left' (sym part.made_parts ∙ part'.made_parts) (sym part.goes_on.parts ∙ part'.goes_on.parts) part.goes_on.are part'.goes_on.are part.part part'.part in
    let size = ap length (sym part.goes_on.parts ∙ part'.goes_on.parts) in
    ap Differs (omega (arith, number, number', count, count', same, size, length-append part.goes_on.front left, length-append part'.goes_on.front left'))
one_judgement trace opening events (Differs at) (Malformed other) one two = absurd two
one_judgement trace opening events (Malformed at) other one two = absurd one

both_judged : (limit : ℕ) (trace : List ℕ) (one other : Verdict) → IsJudged limit trace one → IsJudged limit trace other → one ≡ other
both_judged limit trace one other is is' =
    let same = one_trace (lines_of trace) is.opening is'.opening is.said is'.said is.says.all is'.says.all in
    let also : Judges trace is.opening (events_in is.said) other = subst (λ (o : Opening). Judges trace o (events_in is.said) other) (sym same.0) (subst (λ said. Judges trace is'.opening (events_in said) other) (sym same.1) is'.judged) in
    one_judgement trace is.opening (events_in is.said) one other is.judged also

pub one_verdict : (limit : ℕ) (trace : List ℕ) → MeansOne (ReplaysWithin limit trace)
one_verdict limit trace Same Same one two = refl
one_verdict limit trace Same (Differs at) one two = both_judged limit trace Same (Differs at) one two
one_verdict limit trace Same (Malformed at) one two = absurd (never_both limit trace at one.opening one.said one.says two)
one_verdict limit trace (Differs at) Same one two = both_judged limit trace (Differs at) Same one two
one_verdict limit trace (Differs at) (Differs other) one two = both_judged limit trace (Differs at) (Differs other) one two
one_verdict limit trace (Differs at) (Malformed other) one two = absurd (never_both limit trace other one.opening one.said one.says two)
one_verdict limit trace (Malformed at) Same one two = absurd (never_both limit trace at two.opening two.said two.says one)
one_verdict limit trace (Malformed at) (Differs other) one two = absurd (never_both limit trace at two.opening two.said two.says one)
one_verdict limit trace (Malformed at) (Malformed other) one two = ap Malformed (same_place limit trace at other one two)
