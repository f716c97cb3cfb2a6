use Rattle.session_notes.proofs.Settled.{saves-complete}
use Rattle.session_notes.proofs.laws.completed_saves_stand.Goals as goal

pub returns : goal.returns
returns c = saves-complete
