use Rattle.std.proofs.Common.{◌≡◌, length, None}
use Rattle.program_keeper.specs.Windows.{next_main}
use Rattle.program_keeper.proofs.windows.next_main.Given as goal

-- What was found and what is left bring what all of them bring.
abbrev pub invariant-loop-window : goal.invariant-loop-window
invariant-loop-window l = next_main l.windows l.found l.left ≡ next_main l.windows None l.windows

abbrev pub decreases-loop-window : goal.decreases-loop-window
decreases-loop-window l = length l.left
