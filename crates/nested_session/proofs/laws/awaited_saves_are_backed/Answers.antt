use Rattle.nested_session.proofs.Backing.{backed_since}
use Rattle.nested_session.proofs.laws.awaited_saves_are_backed.Goals as goal

pub returns : goal.returns
returns c = backed_since
