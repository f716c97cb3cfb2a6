use Rattle.std.proofs.Common.{◌∙◌, List, ℕ, map, string_bytes, codes, inl, inr, refl, sym, subst, Err}
use Rattle.std.proofs.lemmas.Bool.{false≢true}
use Rattle.program_frame.proofs.InputLemmas.{err_is}
use Rattle.sm_world.specs.Outside.{Added}
use Rattle.smd_app.proofs.Wording.{session_fits}
use Rattle.outer_agent.specs.Words.{AreFew}
use Rattle.smd_app.specs.declared.fault.Fault.TheVariants.{BadWords, NoMemory}
use Rattle.smnest_app.proofs.Ending.{does, does_nothing}
use Rattle.smnest_app.proofs.Wording.{means_none, not_some, short_id, too_many}
use Rattle.smnest_app.specs.Statuses.{RunsTask}
use Rattle.word_pairs.specs.Words.{option_in}
use Rattle.smnest_app.specs.Words.{Rehearse, Serve, places_of}
use Rattle.smnest_app.specs.declared.fault.Fault.TheVariants.{Session}
use Rattle.smnest_app.proofs.program.run_words.Goals as goal

pub returns-in_err-own-clause-runs : goal.returns-in_err-own-clause-runs
returns-in_err-own-clause-runs g c =
    rw (err_is c.from_residual.result _ c.from_residual.ensures.1)
    (does_nothing (map string_bytes c.args.words.now) c.args.identity.now c.args.turns (g.W.Told.outside c.args.world.now) (g.W.Told.outside c.args.world.now) (Err (Session NoMemory)) (inr refl))

pub returns-then-not-are_few-clause-runs : goal.returns-then-not-are_few-clause-runs
returns-then-not-are_few-clause-runs g c =
    let ws : List (List ℕ) = map string_bytes c.args.words.now in
    let many : AreFew ws → ⊥ = λ few. false≢true (sym c.if-not-are_few.true ∙ c.are_few.ensures.1 (subst AreFew (sym c.in_ok-own.ensures) few)) in
    does_nothing ws c.args.identity.now c.args.turns (g.W.Told.outside c.args.world.now) (g.W.Told.outside c.args.world.now) (Err (Session BadWords)) (inl (too_many ws many, refl))

pub returns-in-Some-clause-runs : goal.returns-in-Some-clause-runs
returns-in-Some-clause-runs g c =
    let ws : List (List ℕ) = map string_bytes c.args.words.now in
    let old = g.W.Told.outside c.args.world.now in
    let new = g.W.Told.outside c.rehearse.new.world in
    does ws c.args.identity.now c.args.turns old new c.rehearse.result (Rehearse c.in-Some.id.now)
    (record { few = subst AreFew c.in_ok-own.ensures (c.are_few.ensures.0 c.if-not-are_few.false); ask = c.in-Some.ensures })
    (subst (λ (own : List (List ℕ)). Added old.told new.told (RunsTask own (Rehearse c.in-Some.id.now) c.args.identity.now c.args.turns old new c.rehearse.result)) c.in_ok-own.ensures (c.rehearse.ensures.runs c.args.identity.now))

pub rehearse-requires-clause-id : goal.rehearse-requires-clause-id
rehearse-requires-clause-id g c = short_id (option_in (map string_bytes c.args.words.now) (codes "--outer-id")) c.in-Some.id.now c.in-Some.ensures.is

pub returns-in_err-paths-clause-runs : goal.returns-in_err-paths-clause-runs
returns-in_err-paths-clause-runs g c =
    rw (err_is c.from_residual-in_err-paths.result _ c.from_residual-in_err-paths.ensures.1)
    (does_nothing (map string_bytes c.args.words.now) c.args.identity.now c.args.turns (g.W.Told.outside c.args.world.now) (g.W.Told.outside c.args.world.now) (Err (Session NoMemory)) (inr refl))

pub returns-in-Some-2-clause-runs : goal.returns-in-Some-2-clause-runs
returns-in-Some-2-clause-runs g c =
    let ws : List (List ℕ) = map string_bytes c.args.words.now in
    let old = g.W.Told.outside c.args.world.now in
    let new = g.W.Told.outside c.serve_inside.new.world in
    does ws c.args.identity.now c.args.turns old new c.serve_inside.result (Serve (places_of c.in-Some-2.paths))
    (record { few = subst AreFew c.in_ok-own.ensures (c.are_few.ensures.0 c.if-not-are_few.false); ask = rw c.in-Some-2.is at c.in_ok-paths.ensures })
    (subst (λ (own : List (List ℕ)). Added old.told new.told (RunsTask own (Serve (places_of c.in-Some-2.paths)) c.args.identity.now c.args.turns old new c.serve_inside.result)) c.in_ok-own.ensures c.serve_inside.ensures.runs)

pub serve_inside-requires-clause-socket : goal.serve_inside-requires-clause-socket
serve_inside-requires-clause-socket g c = (rw c.in-Some-2.is at c.in_ok-paths.ensures).own.socket.path.few

pub serve_inside-requires-clause-session : goal.serve_inside-requires-clause-session
serve_inside-requires-clause-session g c = session_fits (option_in (map string_bytes c.args.words.now) (codes "--session")) c.in-Some-2.paths.own.session.now (rw c.in-Some-2.is at c.in_ok-paths.ensures).session

pub serve_inside-requires-clause-id : goal.serve_inside-requires-clause-id
serve_inside-requires-clause-id g c = short_id (option_in (map string_bytes c.args.words.now) (codes "--outer-id")) c.in-Some-2.paths.id.now (rw c.in-Some-2.is at c.in_ok-paths.ensures).id

pub returns-in-None-clause-runs : goal.returns-in-None-clause-runs
returns-in-None-clause-runs g c =
    let ws : List (List ℕ) = map string_bytes c.args.words.now in
    does_nothing ws c.args.identity.now c.args.turns (g.W.Told.outside c.args.world.now) (g.W.Told.outside c.args.world.now) (Err (Session BadWords))
    (inl (means_none ws (not_some _ c.read_rehearsal.result c.read_rehearsal.ensures c.in_default.not-Some) (rw c.in-None.is at c.in_ok-paths.ensures), refl))
