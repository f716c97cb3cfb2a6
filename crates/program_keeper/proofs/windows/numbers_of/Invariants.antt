use Rattle.std.proofs.Common.{◌≡◌, map, take}
use Rattle.program_keeper.specs.Windows.{number_of}
use Rattle.program_keeper.proofs.windows.numbers_of.Given as goal

abbrev pub invariant-loop-window : goal.invariant-loop-window
invariant-loop-window l = l.numbers ≡ map number_of (take l.window-index l.windows)
