use Rattle.std.proofs.Common.{◌≡◌, ◌++◌}
use Rattle.smd_app.specs.Exercises.{each, round_events}
use Rattle.smd_app.proofs.exercise.push_rounds.Given as goal

abbrev pub invariant-loop-count : goal.invariant-loop-count
invariant-loop-count l = l.events ≡ l.initial.events ++ each (round_events l.exercise.pattern) l.count
