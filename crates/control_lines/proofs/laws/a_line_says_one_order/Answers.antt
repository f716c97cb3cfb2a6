use Rattle.control_lines.proofs.Meanings.{one_order}
use Rattle.control_lines.proofs.laws.a_line_says_one_order.Goals as goal

pub returns : goal.returns
returns c = one_order
