use Rattle.std.proofs.Common.{length, ap, arith}
use Rattle.control_lines.proofs.Meanings.{same_bytes}
use Rattle.control_lines.proofs.script.read_piece.Goals as goal

pub returns-in_default : goal.returns-in_default
returns-in_default c = λ n bytes says. (rw c.in_default.is at c.in_ok-conn.ensures) n bytes says.said

pub returns-then-len-gt-PIECE_LIMIT : goal.returns-then-len-gt-PIECE_LIMIT
returns-then-len-gt-PIECE_LIMIT c = λ n bytes says.
    let same = same_bytes c.args.fields.now n c.in-Some.conn bytes c.in-Some.bytes says.said (rw c.in-Some.is at c.in_ok-conn.ensures) in
    omega (arith, ap length same, says.within)
