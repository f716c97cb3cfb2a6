use Rattle.std.proofs.Common.{rules, not, ◌==◌, ap, ◌∙◌}
use Rattle.std.proofs.lemmas.Fn.{filter_same}
use Rattle.window_follower.specs.Windows.{forgotten}
use Rattle.window_follower.specs.declared.windows.Followed.{Followed}
use Rattle.window_follower.proofs.windows.Windows.forget.Goals as goal

pub returns : goal.returns
returns c = filter_same _ (λ (row : Followed). not (row.window == c.args.window)) _ (λ x kept f r. search rules) _ _ c.retain.ensures.filtered ∙ ap (forgotten c.args.window) c.self.view_is
