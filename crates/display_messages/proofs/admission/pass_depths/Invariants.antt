use Rattle.std.proofs.Common.{◌≡◌, ◌-◌}
use Rattle.display_messages.specs.Setups.{behind_many, behind_depth}
use Rattle.display_messages.proofs.admission.pass_depths.Given as goal

abbrev pub invariant-loop-passed : goal.invariant-loop-passed
invariant-loop-passed l = behind_many behind_depth (l.count - l._passed) l.rest ≡ behind_many behind_depth l.count l.bytes
