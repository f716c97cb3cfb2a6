use Rattle.display_place.proofs.EntryLaws.{hold_one}
use Rattle.display_place.proofs.laws.bytes_hold_one_list.Goals as goal

pub returns : goal.returns
returns c = hold_one
