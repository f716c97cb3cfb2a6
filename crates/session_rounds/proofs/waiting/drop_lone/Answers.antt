use Rattle.std.proofs.Common.{rules, not}
use Rattle.std.proofs.lemmas.Fn.{filter_same}
use Rattle.session_model.specs.declared.waits.Wait.{Wait}
use Rattle.session_model.specs.Waits.{is_only}
use Rattle.session_rounds.proofs.waiting.drop_lone.Goals as goal

pub returns : goal.returns
returns c = filter_same _ (λ (wait : Wait). not (is_only c.args.conn wait.wanted.only)) _ (λ x kept f r. search rules) _ _ c.retain.ensures.filtered
