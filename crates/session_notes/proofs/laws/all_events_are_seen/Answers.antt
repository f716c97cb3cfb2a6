use Rattle.session_notes.proofs.Inner.{all-events}
use Rattle.session_notes.proofs.laws.all_events_are_seen.Goals as goal

pub returns : goal.returns
returns c = all-events
