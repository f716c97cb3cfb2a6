use Rattle.std.proofs.Common.{◌∙◌, arith, sym}
use Rattle.std.proofs.lemmas.Fmt.{decimal_injective}
use Rattle.copy_lines.proofs.numbers.number_in.Goals as goal

pub returns-then-number-eq0 : goal.returns-then-number-eq0
returns-then-number-eq0 c = λ n some small e.
    let spelled = rw c.in-Some.is at c.in_ok-number.ensures in
    let same = decimal_injective c.in-Some.number n (omega arith) (omega (arith, small)) (sym spelled ∙ e) in
    omega (arith, same, some, c.in-Ok.ensures, c.if-number-eq0.true)

pub returns-in-Err : goal.returns-in-Err
returns-in-Err c = λ n some small e.
    let spelled = rw c.in-Some.is at c.in_ok-number.ensures in
    let same = decimal_injective c.in-Some.number n (omega arith) (omega (arith, small)) (sym spelled ∙ e) in
    c.in-Err.ensures (omega (arith, same, small))
