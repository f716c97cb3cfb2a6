use Rattle.std.proofs.Common.{sym, ◌∙◌, arith}
use Rattle.std.specs.Fmt.{decimal}
use Rattle.std.proofs.lemmas.Fmt.{decimal_injective}
use Rattle.smwrap_app.proofs.WordLaws.{some_is}
use Rattle.smwrap_app.proofs.words.number_of.Goals as goal

pub returns-in-Err : goal.returns-in-Err
returns-in-Err c = λ n has.
    let spelled = rw c.in-Some-2.is at c.in_ok-number.ensures in
    let text = some_is c.in-Some.text.now (decimal n) (sym c.in-Some.ensures ∙ has.found) in
    let same = decimal_injective c.in-Some-2.number n (omega arith) (omega (arith, has.small)) (sym spelled ∙ (c.as_bytes.ensures.value ∙ text)) in
    c.in-Err.ensures (omega (arith, same, has.small))
