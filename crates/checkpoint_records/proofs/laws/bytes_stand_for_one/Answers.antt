use Rattle.checkpoint_records.proofs.BookLaws.{stands_for_one}
use Rattle.checkpoint_records.proofs.laws.bytes_stand_for_one.Goals as goal

pub returns : goal.returns
returns c = stands_for_one
