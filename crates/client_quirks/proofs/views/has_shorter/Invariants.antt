use Rattle.std.proofs.Common.{◌≡◌, length}
use Rattle.std.specs.List.{list_any}
use Rattle.frame_speech.specs.Settings.{values_left}
use Rattle.client_quirks.specs.Meanings.{is_shorter}
use Rattle.client_quirks.proofs.views.has_shorter.Given as goal

abbrev pub decreases-loop-value : goal.decreases-loop-value
decreases-loop-value l = length (values_left l.left)

abbrev pub invariant-loop-value : goal.invariant-loop-value
invariant-loop-value l = list_any (is_shorter l.name) (values_left l.left) ≡ list_any (is_shorter l.name) (values_left l.fn.walk)
