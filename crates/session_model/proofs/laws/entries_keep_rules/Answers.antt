use Rattle.session_model.proofs.TidyRun.{entries-keep}
use Rattle.session_model.proofs.laws.entries_keep_rules.Goals as goal

pub returns : goal.returns
returns c = entries-keep
