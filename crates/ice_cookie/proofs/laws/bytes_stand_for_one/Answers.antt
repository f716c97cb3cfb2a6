use Rattle.ice_cookie.proofs.AuthorityLaws.{stands_for_one}
use Rattle.ice_cookie.proofs.laws.bytes_stand_for_one.Goals as goal

pub returns : goal.returns
returns c = stands_for_one
