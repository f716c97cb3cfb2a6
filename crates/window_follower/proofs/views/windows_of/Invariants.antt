use Rattle.std.proofs.Common.{◌≡◌, flat_map, take}
use Rattle.window_follower.specs.Views.{window_if}
use Rattle.window_follower.proofs.views.windows_of.Given as goal

abbrev pub invariant-loop-row : goal.invariant-loop-row
invariant-loop-row l = l.windows ≡ flat_map (window_if l.rows l.process) (take l.row-index l.rows)
