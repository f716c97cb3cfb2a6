use Rattle.nested_session.proofs.AwaitedLaws.{awaited_ends_are_said}
use Rattle.nested_session.proofs.laws.awaited_ends_are_said.Goals as goal

pub returns : goal.returns
returns c = awaited_ends_are_said
