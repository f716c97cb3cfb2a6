use Rattle.end_bytes.proofs.Parts.{parts-heard}
use Rattle.end_bytes.proofs.laws.parts_are_heard.Goals as goal

pub returns : goal.returns
returns c = parts-heard
