use Rattle.std.proofs.Common.{◌≡◌, IfOk, ap, subst, ◌∙◌}
use Rattle.window_follower.specs.Following.{asking}
use Rattle.window_follower.specs.Follower.{Sends, wishing}
use Rattle.window_follower.specs.declared.following.Following.{Following}
use Rattle.window_follower.specs.declared.question.Question.{Question}
use Rattle.window_follower.proofs.following.Following.wish.Goals as goal

pub returns : goal.returns
returns c =
    let asked : c.ask.new.self ≡ wishing c.args.wish c.args.self.now = c.in_ok-ask.ensures ∙ ap (λ (question : Question). asking question c.args.self.now) c.question.ensures in
    subst (λ (s : Following). IfOk c.send.result (λ requests. Sends s requests c.send.new.self)) asked c.send.ensures
