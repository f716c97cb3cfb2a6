use Rattle.nested_session.proofs.AwaitedLaws.{awaited_is_due}
use Rattle.nested_session.proofs.laws.awaited_is_due.Goals as goal

pub returns : goal.returns
returns c = awaited_is_due
