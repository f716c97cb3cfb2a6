use Rattle.std.proofs.Common.{Err, refl, sym, ◌∙◌}
use Rattle.sm_world.proofs.Adding.{adds-none}
use Rattle.program_frame.proofs.InputLemmas.{err_is}
use Rattle.smd_app.proofs.Printing.{exercise_quiet, exercise_refused, exercise_spent, exercise_ended}
use Rattle.smd_app.specs.Exercises.{exercise_events}
use Rattle.smd_app.specs.declared.fault.Fault.TheVariants.{NoMemory}
use Rattle.smd_app.proofs.program.run_exercise.Goals as goal

pub returns-in_err-rehearsal-clause-runs : goal.returns-in_err-rehearsal-clause-runs
returns-in_err-rehearsal-clause-runs g c =
    let old = g.W.Told.outside c.args.world.now in
    rw (err_is c.from_residual-in_err-rehearsal.result _ c.from_residual-in_err-rehearsal.ensures.1)
    (exercise_quiet old.told old.told old.faults.console old.faults.console (exercise_events c.args.exercise.pattern c.args.exercise.rounds) c.args.turns (Err NoMemory) (sym (adds-none old.told)) refl)

pub returns-then-not-rehearsal-clause-runs : goal.returns-then-not-rehearsal-clause-runs
returns-then-not-rehearsal-clause-runs g c =
    exercise_spent (g.W.Told.outside c.args.world.now) (exercise_events c.args.exercise.pattern c.args.exercise.rounds) c.args.turns c.in_ok-rehearsal.rehearsal (rw c.in_ok-events.ensures.events at c.in_ok-rehearsal.ensures) c.if-not-rehearsal.true

pub returns-in_err-summary-clause-runs : goal.returns-in_err-summary-clause-runs
returns-in_err-summary-clause-runs g c =
    let old = g.W.Told.outside c.args.world.now in
    rw (err_is c.from_residual-in_err-summary.result _ c.from_residual-in_err-summary.ensures.1)
    (exercise_quiet old.told old.told old.faults.console old.faults.console (exercise_events c.args.exercise.pattern c.args.exercise.rounds) c.args.turns (Err NoMemory) (sym (adds-none old.told)) refl)

pub returns-in_err-print-clause-runs : goal.returns-in_err-print-clause-runs
returns-in_err-print-clause-runs g c =
    rw (err_is c.from_residual-in_err-print.result _ c.from_residual-in_err-print.ensures.1)
    (exercise_refused (g.W.Told.outside c.args.world.now) (g.W.Told.outside c.print.new.self) (exercise_events c.args.exercise.pattern c.args.exercise.rounds) c.args.turns c.in_err-print.field-0.0 c.in_err-print.ensures.effects c.in_err-print.ensures.uses)

pub returns-clause-runs : goal.returns-clause-runs
returns-clause-runs g c =
    exercise_ended (g.W.Told.outside c.args.world.now) (g.W.Told.outside c.print.new.self) (exercise_events c.args.exercise.pattern c.args.exercise.rounds) c.args.turns c.in_ok-rehearsal.rehearsal c.effects.result.now c.as_bytes.result.now (rw c.in_ok-events.ensures.events at c.in_ok-rehearsal.ensures) c.if-not-rehearsal.false c.effects.ensures (c.as_bytes.ensures.value ∙ c.in_ok-summary.ensures) c.in_ok-print.ensures.effects
