use Rattle.control_lines.proofs.Again.{says_again}
use Rattle.control_lines.proofs.laws.a_line_says_its_event.Goals as goal

pub returns : goal.returns
returns c = says_again
