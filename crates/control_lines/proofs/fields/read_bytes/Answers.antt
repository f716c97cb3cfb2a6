use Rattle.std.proofs.Common.{ℕ, List, sym, ◌∙◌, subst}
use Rattle.std.specs.Fmt.{decimal}
use Rattle.control_lines.specs.Fields.{IsHex}
use Rattle.control_lines.proofs.Splitting.{splits_same, without_inside, decimal_without}
use Rattle.control_lines.proofs.fields.read_bytes.Goals as goal

pub returns-in_default : goal.returns-in_default
returns-in_default c = λ n bytes says. without_inside 32 (decimal n) says.text (rw says.fields_are at (rw c.in_default.is at c.split_once.ensures))

pub returns-in_default-2 : goal.returns-in_default-2
returns-in_default-2 c = λ n bytes says.
    let same = splits_same 32 c.in-Some.number.now c.in-Some.text.now (decimal n) says.text c.in-Some.ensures.first (decimal_without n says.number) (sym c.in-Some.ensures.parts ∙ says.fields_are) in
    (rw c.in_default-2.is at c.in_ok-conn.ensures) n says.number same.0

pub returns-in_default-3 : goal.returns-in_default-3
returns-in_default-3 c = λ n bytes says.
    let same = splits_same 32 c.in-Some.number.now c.in-Some.text.now (decimal n) says.text c.in-Some.ensures.first (decimal_without n says.number) (sym c.in-Some.ensures.parts ∙ says.fields_are) in
    let P : List ℕ → Type 0 = λ text. IsHex text bytes in
    (rw c.in_default-3.is at c.in_ok-bytes.ensures) bytes (subst P (sym same.1) says.hex)
