use Rattle.std.proofs.Common.{◌≡◌, drop}
use Rattle.window_follower.specs.Following.{come_all}
use Rattle.window_follower.proofs.following.Following.come_all.Given as goal

-- What all of them bring is what those that are left bring to what came.
abbrev pub invariant-loop-window : goal.invariant-loop-window
invariant-loop-window l = come_all l.windows l.fn.self ≡ come_all (drop l.window-index l.windows) l.self
