use Rattle.std.proofs.Common.{rules, ◌∙◌, not, ◌==◌}
use Rattle.std.proofs.lemmas.Fn.{filter_same}
use Rattle.interact_queue.proofs.queue.InteractQueue.leave.Goals as goal

pub returns-clause-waiting : goal.returns-clause-waiting
returns-clause-waiting c = filter_same _ (λ other. not (other == c.args.conn)) _ (λ x kept f r. search rules) _ _ c.retain.ensures.filtered ∙ search rules
