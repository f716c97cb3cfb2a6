use Rattle.std.proofs.Common.{◌≡◌, take}
use Rattle.window_follower.specs.Following.{asking_all}
use Rattle.window_follower.specs.Answers.{questions_below}
use Rattle.window_follower.specs.declared.mode.Mode.TheVariants.{Bare}
use Rattle.window_follower.proofs.following.Following.ask_shown.Given as goal

abbrev pub invariant-loop-window : goal.invariant-loop-window
invariant-loop-window l = l.self ≡ asking_all (questions_below Bare l.depth (take l.window-index l.windows)) l.fn.self
