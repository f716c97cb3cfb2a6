use Rattle.end_schedules.proofs.Companies.{all-agree}
use Rattle.end_schedules.proofs.laws.all_ends_agree.Goals as goal

pub returns : goal.returns
returns c = all-agree
