use Rattle.std.proofs.Common.{◌≡◌}
use Rattle.desktop_world.specs.Untold.{world_outside}
use Rattle.desktop_world.proofs.world.DesktopWorld.start_each.Given as goal

abbrev pub invariant-loop-command : goal.invariant-loop-command
invariant-loop-command l = world_outside l.self ≡ world_outside l.fn.self
