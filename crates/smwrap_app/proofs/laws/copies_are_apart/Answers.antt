use Rattle.smwrap_app.proofs.CopyLaws.{apart_by}
use Rattle.smwrap_app.proofs.laws.copies_are_apart.Goals as goal

pub returns : goal.returns
returns c = apart_by
