use Rattle.std.proofs.Common.{rules, not, List, ℕ}
use Rattle.std.specs.Str.{bytes_eq}
use Rattle.std.proofs.lemmas.Fn.{filter_same}
use Rattle.manager_machine.proofs.registrations.drop_id.Goals as goal

pub returns : goal.returns
returns c = filter_same _ (λ (other : List ℕ). not (bytes_eq c.args.id.now other)) _ (λ x kept f r. search rules) _ _ c.retain.ensures.filtered
