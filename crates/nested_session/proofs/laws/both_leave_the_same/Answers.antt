use Rattle.nested_session.proofs.Images.{leave_the_same}
use Rattle.nested_session.proofs.laws.both_leave_the_same.Goals as goal

pub returns : goal.returns
returns c = leave_the_same
