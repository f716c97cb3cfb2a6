use Rattle.end_bytes.proofs.FromTheFirst.{keep-from-the-first}
use Rattle.end_bytes.proofs.laws.both_ends_keep_from_the_first_byte.Goals as goal

pub returns : goal.returns
returns c = keep-from-the-first
