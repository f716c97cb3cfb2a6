use Rattle.control_lines.proofs.Meanings.{one_given}
use Rattle.control_lines.proofs.laws.a_line_gives_one_event.Goals as goal

pub returns : goal.returns
returns c = one_given
