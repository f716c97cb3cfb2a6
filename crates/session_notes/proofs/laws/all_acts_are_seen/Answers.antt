use Rattle.session_notes.proofs.Seen.{all-acts}
use Rattle.session_notes.proofs.laws.all_acts_are_seen.Goals as goal

pub returns : goal.returns
returns c = all-acts
