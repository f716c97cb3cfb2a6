-- A trace is told in one way.
use Rattle.std.proofs.Common.{◌≡◌, ℕ, List, sym, ◌∙◌, ap}
use Rattle.control_lines.specs.Laws.{MeansOne}
use Rattle.control_lines.specs.Lines.{lines_of}
use Rattle.trace_replay.specs.declared.showing.ShowAnswer.TheVariants.{Text, Malformed}
use Rattle.trace_replay.proofs.Once.{one_trace}
use Rattle.trace_replay.proofs.TraceLemmas.{never_both, same_place}
use Rattle.trace_reading.specs.Reads.{ReadsWithin}
use Rattle.trace_reading.specs.Told.{told}

pub one_telling : (limit : ℕ) (trace : List ℕ) → MeansOne (ReadsWithin limit trace)
one_telling limit trace (Text text) (Text other) one two =
    let same = one_trace (lines_of trace) one.opening two.opening one.said two.said one.says.all two.says.all in
    ap Text (one.text_is ∙ (ap (λ o. told o one.said) same.0 ∙ (ap (told two.opening) same.1 ∙ sym two.text_is)))
one_telling limit trace (Text text) (Malformed at) one two = absurd (never_both limit trace at one.opening one.said one.says two)
one_telling limit trace (Malformed at) (Text text) one two = absurd (never_both limit trace at two.opening two.said two.says one)
one_telling limit trace (Malformed at) (Malformed other) one two = ap Malformed (same_place limit trace at other one two)
