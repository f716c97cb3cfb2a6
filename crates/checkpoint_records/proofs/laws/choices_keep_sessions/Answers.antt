use Rattle.checkpoint_records.proofs.NameLaws.{choices_keep}
use Rattle.checkpoint_records.proofs.laws.choices_keep_sessions.Goals as goal

pub returns : goal.returns
returns c = choices_keep
