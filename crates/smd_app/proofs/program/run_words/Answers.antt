use Rattle.std.proofs.Common.{map, string_bytes, rules, inl, inr, refl, Err}
use Rattle.program_frame.proofs.InputLemmas.{err_is}
use Rattle.smd_app.proofs.Ending.{does, does_nothing, means_none}
use Rattle.smd_app.proofs.Wording.{session_fits}
use Rattle.smd_app.specs.Words.{AreServe, Rehearse, Exercise, Serve, places_of}
use Rattle.smd_app.specs.declared.fault.Fault.TheVariants.{BadWords, NoMemory}
use Rattle.smd_app.proofs.program.run_words.Goals as goal

pub returns-in-Some-clause-runs : goal.returns-in-Some-clause-runs
returns-in-Some-clause-runs g c =
    does (map string_bytes c.args.words.now) c.args.identity.now c.args.turns (g.W.Told.outside c.args.world.now) (g.W.Told.outside c.rehearse.new.world) c.rehearse.result (Rehearse c.in-Some.patience) (rw c.in-Some.is at c.in_ok-patience.ensures) (c.rehearse.ensures.runs c.args.identity.now)

pub serve_session-requires-clause-session : goal.serve_session-requires-clause-session
serve_session-requires-clause-session g c =
    let are : AreServe (map string_bytes c.args.words.now) (places_of c.in-Some-2.paths) = rw c.in-Some-2.is at c.in_ok-paths.ensures in
    session_fits _ c.in-Some-2.paths.session.now are.session

pub returns-in-Some-2-clause-runs : goal.returns-in-Some-2-clause-runs
returns-in-Some-2-clause-runs g c =
    does (map string_bytes c.args.words.now) c.args.identity.now c.args.turns (g.W.Told.outside c.args.world.now) (g.W.Told.outside c.serve_session.new.world) c.serve_session.result (Serve (places_of c.in-Some-2.paths)) (rw c.in-Some-2.is at c.in_ok-paths.ensures) c.serve_session.ensures.runs

pub returns-in_err-exercise-clause-runs : goal.returns-in_err-exercise-clause-runs
returns-in_err-exercise-clause-runs g c =
    rw (err_is c.from_residual-in_err-exercise.result _ c.from_residual-in_err-exercise.ensures.1)
    (does_nothing (map string_bytes c.args.words.now) c.args.identity.now c.args.turns (g.W.Told.outside c.args.world.now) (g.W.Told.outside c.args.world.now) (Err NoMemory) (inr refl))

pub returns-in-Some-3-clause-runs : goal.returns-in-Some-3-clause-runs
returns-in-Some-3-clause-runs g c =
    does (map string_bytes c.args.words.now) c.args.identity.now c.args.turns (g.W.Told.outside c.args.world.now) (g.W.Told.outside c.run_exercise.new.world) c.run_exercise.result (Exercise c.in-Some-3.exercise.pattern c.in-Some-3.exercise.rounds) (rw c.in-Some-3.is at c.in_ok-exercise.ensures) c.run_exercise.ensures.runs

pub returns-in-None-clause-runs : goal.returns-in-None-clause-runs
returns-in-None-clause-runs g c =
    does_nothing (map string_bytes c.args.words.now) c.args.identity.now c.args.turns (g.W.Told.outside c.args.world.now) (g.W.Told.outside c.args.world.now) (Err BadWords) (inl (means_none (map string_bytes c.args.words.now) (search rules) (rw c.in_default-2.is at c.in_ok-paths.ensures) (rw c.in-None.is at c.in_ok-exercise.ensures), refl))
