use Rattle.nested_session.proofs.OffNests.{tags_true}
use Rattle.nested_session.proofs.laws.tags_are_true.Goals as goal

pub returns : goal.returns
returns c = tags_true
