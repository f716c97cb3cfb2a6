use Rattle.checkpoint_records.proofs.NameLaws.{choices_undone}
use Rattle.checkpoint_records.proofs.laws.choices_are_undone.Goals as goal

pub returns : goal.returns
returns c = choices_undone
