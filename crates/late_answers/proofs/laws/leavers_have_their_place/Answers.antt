use Rattle.late_answers.proofs.Parted.{leavers_have_their_place}
use Rattle.late_answers.proofs.laws.leavers_have_their_place.Goals as goal

pub returns : goal.returns
returns c = leavers_have_their_place
