use Rattle.std.proofs.Common.{rules, ◌≡◌, ◌++◌, ℕ, min, length, take, ap, ◌∙◌, List}
use Rattle.std.proofs.lemmas.List.{take_min}
use Rattle.window_follower.specs.Asked.{room, moved}
use Rattle.window_follower.specs.declared.question.Question.{Question}
use Rattle.window_follower.proofs.Sending.{step_sent, step_moved, moved_all}
use Rattle.window_follower.proofs.asked.AskedQueue.send_waiting.Goals as goal

pub loop-turn-preserved : goal.loop-turn-preserved
loop-turn-preserved c = (
  step_sent c.loop-turn._turn c.args.self.now c.loop-turn.self c.args.sent.now c.loop-turn.sent c.send_first.new.sent c.loop-turn.invariant.0 c.loop-turn.invariant.1 c.in_ok-send_first.ensures.sent,
  step_moved c.loop-turn._turn c.args.self.now c.loop-turn.self c.send_first.new.self c.loop-turn.invariant.1 c.in_ok-send_first.ensures.after,
)

pub returns-clause-sent : goal.returns-clause-sent
returns-clause-sent c =
    let turn : c.loop-turn._turn ≡ min (room c.args.self.now) (length c.args.self.now.waiting) = search rules in
    c.loop-turn.invariant.0 ∙ ap (λ (xs : List Question). c.args.sent.now ++ xs) (ap (λ (n : ℕ). take n c.args.self.now.waiting) turn ∙ take_min (room c.args.self.now) c.args.self.now.waiting)

pub returns-clause-after : goal.returns-clause-after
returns-clause-after c =
    let turn : c.loop-turn._turn ≡ min (room c.args.self.now) (length c.args.self.now.waiting) = search rules in
    c.loop-turn.invariant.1 ∙ (ap (λ (n : ℕ). moved n c.args.self.now) turn ∙ moved_all (room c.args.self.now) c.args.self.now)
