use Rattle.session_lines.proofs.Script.{events-line}
use Rattle.session_lines.proofs.laws.all_events_are_seen.Goals as goal

pub returns : goal.returns
returns c = events-line
