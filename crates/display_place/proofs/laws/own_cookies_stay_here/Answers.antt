use Rattle.display_place.proofs.ChoiceLaws.{own_stays_here}
use Rattle.display_place.proofs.laws.own_cookies_stay_here.Goals as goal

pub returns : goal.returns
returns c = own_stays_here
