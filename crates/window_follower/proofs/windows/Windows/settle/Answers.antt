use Rattle.std.proofs.Common.{rules, not, ap, ◌∙◌}
use Rattle.std.proofs.lemmas.Fn.{filter_same}
use Rattle.window_follower.specs.Windows.{has_left, settled}
use Rattle.window_follower.specs.declared.windows.Followed.{Followed}
use Rattle.window_follower.proofs.windows.Windows.settle.Goals as goal

pub returns : goal.returns
returns c = filter_same _ (λ (row : Followed). not (has_left row)) _ (λ x kept f r. search rules) _ _ c.retain.ensures.filtered ∙ ap settled c.self.view_is
