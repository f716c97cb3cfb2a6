use Rattle.std.proofs.Common.{◌≡◌, ◌++◌}
use Rattle.smd_app.specs.Exercises.{each, second_answer}
use Rattle.smd_app.proofs.exercise.push_second_answers.Given as goal

abbrev pub invariant-loop-count : goal.invariant-loop-count
invariant-loop-count l = l.events ≡ l.initial.events ++ each (second_answer l.bits) l.count
