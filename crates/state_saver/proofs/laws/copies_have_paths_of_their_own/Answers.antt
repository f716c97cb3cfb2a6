use Rattle.state_saver.proofs.PlanLaws.{own_paths}
use Rattle.state_saver.proofs.laws.copies_have_paths_of_their_own.Goals as goal

pub returns : goal.returns
returns c = own_paths
