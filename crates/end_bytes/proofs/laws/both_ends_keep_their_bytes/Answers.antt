use Rattle.end_bytes.proofs.Keeping.{keep-bytes}
use Rattle.end_bytes.proofs.laws.both_ends_keep_their_bytes.Goals as goal

pub returns : goal.returns
returns c = keep-bytes
