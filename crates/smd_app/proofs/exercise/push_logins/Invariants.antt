use Rattle.std.proofs.Common.{◌≡◌, ◌++◌}
use Rattle.smd_app.specs.Exercises.{each, login_events}
use Rattle.smd_app.proofs.exercise.push_logins.Given as goal

abbrev pub invariant-loop-count : goal.invariant-loop-count
invariant-loop-count l = l.events ≡ l.initial.events ++ each (login_events) l.count
