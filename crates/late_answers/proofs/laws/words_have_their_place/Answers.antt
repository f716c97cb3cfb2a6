use Rattle.late_answers.proofs.Placed.{words_have_their_place}
use Rattle.late_answers.proofs.laws.words_have_their_place.Goals as goal

pub returns : goal.returns
returns c = words_have_their_place
