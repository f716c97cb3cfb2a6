use Rattle.std.proofs.Common.{◌≡◌, ◌++◌}
use Rattle.smd_app.specs.Exercises.{each, sends}
use Rattle.smd_app.proofs.exercise.push_from_all.Given as goal

abbrev pub invariant-loop-count : goal.invariant-loop-count
invariant-loop-count l = l.events ≡ l.initial.events ++ each (sends l.bytes) l.count
