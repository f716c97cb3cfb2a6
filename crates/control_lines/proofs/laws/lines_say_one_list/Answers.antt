use Rattle.control_lines.proofs.Meanings.{one_list}
use Rattle.control_lines.proofs.laws.lines_say_one_list.Goals as goal

pub returns : goal.returns
returns c = one_list
