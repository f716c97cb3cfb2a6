use Rattle.checkpoint_records.proofs.ChoiceLaws.{choices_keep_rules}
use Rattle.checkpoint_records.proofs.laws.choices_keep_rules.Goals as goal

pub returns : goal.returns
returns c = choices_keep_rules
