use Rattle.smd_app.proofs.Exercising.{script_sized}
use Rattle.smd_app.proofs.exercise.exercise_script.Goals as goal

pub returns-clause-sized : goal.returns-clause-sized
returns-clause-sized c =
    script_sized c.args.exercise.pattern c.args.exercise.rounds c.new-events.result c.push_logins.new.events c.push_rounds.new.events c.push_ending.new.events c.new-events.ensures c.in_ok-push_logins.ensures c.in_ok-push_rounds.ensures c.in_ok-push_ending.ensures
