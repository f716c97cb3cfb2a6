use Rattle.session_return.proofs.Kept.{rules_kept}
use Rattle.session_return.proofs.laws.returns_keep_rules.Goals as goal

pub returns : goal.returns
returns c = rules_kept
