use Rattle.std.proofs.Common.{sym, ◌∙◌, arith}
use Rattle.std.proofs.lemmas.Fmt.{decimal_injective}
use Rattle.display_place.proofs.tails.read_below.Goals as goal

pub returns-else-number-limit : goal.returns-else-number-limit
returns-else-number-limit c = λ n small e.
    let spelled = rw c.in-Some.is at c.in_ok-number.ensures in
    let same = decimal_injective c.in-Some.number n (omega arith) (omega arith) (sym spelled ∙ e) in
    omega (arith, same, small, c.if-number-limit.false)
