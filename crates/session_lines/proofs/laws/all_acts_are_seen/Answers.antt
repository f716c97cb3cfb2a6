use Rattle.session_lines.proofs.Script.{acts-line}
use Rattle.session_lines.proofs.laws.all_acts_are_seen.Goals as goal

pub returns : goal.returns
returns c = acts-line
