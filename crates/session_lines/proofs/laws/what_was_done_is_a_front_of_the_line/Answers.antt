use Rattle.session_lines.proofs.Passing.{done-is}
use Rattle.session_lines.proofs.laws.what_was_done_is_a_front_of_the_line.Goals as goal

pub returns : goal.returns
returns c = done-is
