use Rattle.std.proofs.Common.{◌≡◌, Ok, arith, refl, sym, ◌∙◌, ap}
use Rattle.std.specs.Fmt.{decimal}
use Rattle.std.proofs.lemmas.Bool.{false≢true}
use Rattle.std.proofs.lemmas.Bool.Decides.{Decides-eqb}
use Rattle.std.proofs.lemmas.Fmt.{parse-decimal, IsAscii-decimal}
use Rattle.std.proofs.lemmas.Slice.Eq.{slice_eq-Decides}
use Rattle.std.proofs.lemmas.Str.{IsUtf8-from_ascii}
use Rattle.control_lines.proofs.fields.read_number.Goals as goal

pub returns-in_default : goal.returns-in_default
returns-in_default c = λ n small e.
    c.in_default.ensures.cases.0 (rw e (IsUtf8-from_ascii _ (IsAscii-decimal n (omega arith))))

pub returns-in_default-parse : goal.returns-in_default-parse
returns-in_default-parse c = λ n small e.
    c.in_default-parse.not-Ok n (parse-decimal 64 n c.in-Ok.text.now c.parse.result small (omega arith) (c.in-Ok.ensures.cases.0 ∙ e) c.parse.ensures.value.0)

pub returns : goal.returns
returns c = λ n small e.
    let parsed : c.parse.result ≡ Ok n = parse-decimal 64 n c.in-Ok.text.now c.parse.result small (omega arith) (c.in-Ok.ensures.cases.0 ∙ e) c.parse.ensures.value.0 in
    let is_n : c.in-Ok-parse.number ≡ n = cc in
    let same : c.as_bytes.result.now ≡ c.args.field.now = c.as_bytes.ensures.value ∙ (c.in_ok-spelled.ensures.ok ∙ (ap decimal is_n ∙ sym e)) in
    false≢true (c.if-eq.ensures ∙ (slice_eq-Decides Decides-eqb c.as_bytes.result.now c.args.field.now _ refl).1 same)
