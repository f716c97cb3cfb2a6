use Rattle.std.proofs.Common.{sym, ◌∙◌, arith}
use Rattle.std.proofs.lemmas.Fmt.{decimal_injective}
use Rattle.control_lines.proofs.fields.read_conn.Goals as goal

pub returns-in-Err : goal.returns-in-Err
returns-in-Err c = λ n small e.
    let spelled = rw c.in-Some.is at c.in_ok-number.ensures in
    let same = decimal_injective c.in-Some.number n (omega arith) (omega arith) (sym spelled ∙ e) in
    c.in-Err.ensures (omega (arith, same))
