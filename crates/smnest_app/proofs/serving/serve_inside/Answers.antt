use Rattle.std.proofs.Common.{ℕ, List, Result, Ok, Err, subst, sym}
use Rattle.checkpoint_records.specs.Rules.{IsName}
use Rattle.client_engine.specs.Driving.{Run}
use Rattle.nested_session.specs.Serving.{Nesting, run_of}
use Rattle.outer_agent.specs.Script.{Keeper}
use Rattle.session_engine.specs.declared.config.Config.{Config}
use Rattle.session_engine.specs.declared.fault.ServeFault.{ServeFault}
use Rattle.smd_app.specs.Sessions.{config_of}
use Rattle.smnest_app.proofs.SessionLemmas.{Promised, begun_so, cut_behind, left_out, served_behind, unprepared}
use Rattle.smnest_app.specs.Words.{places_of}
use Rattle.smnest_app.proofs.serving.serve_inside.Goals as goal

pub returns-in-Err-clause-runs : goal.returns-in-Err-clause-runs
returns-in-Err-clause-runs g c =
    left_out c.args.words c.args.identity.now (places_of c.args.paths.now) c.args.turns (g.W.Told.outside c.args.world.now) (g.W.Told.outside c.fetch_cookie.new.world) c.in-Err.fault c.in-Err.ensures.told c.in-Err.ensures.none

pub returns-in-Err-set_up-clause-runs : goal.returns-in-Err-set_up-clause-runs
returns-in-Err-set_up-clause-runs g c =
    cut_behind c.args.words c.args.identity.now (places_of c.args.paths.now) c.args.turns c.in-Ok.cookie (g.W.Told.outside c.args.world.now) (g.W.Told.outside c.fetch_cookie.new.world) (g.W.Told.outside c.set_up.new.world) c.in-Err-set_up.fault
    c.in-Ok.ensures.found c.in-Ok.ensures.told c.in-Ok.ensures.kept c.in-Err-set_up.ensures.cut

pub returns-in-Err-agent_for-clause-runs : goal.returns-in-Err-agent_for-clause-runs
returns-in-Err-agent_for-clause-runs g c =
    unprepared c.args.words c.args.identity.now (places_of c.args.paths.now) c.args.turns c.in-Ok.cookie (g.W.Told.outside c.args.world.now) (g.W.Told.outside c.fetch_cookie.new.world) (g.W.Told.outside c.set_up.new.world)
    c.in-Ok.ensures.found c.in-Ok.ensures.told c.in-Ok-set_up.ensures.ok

pub returns-in-Err-config_for-clause-runs : goal.returns-in-Err-config_for-clause-runs
returns-in-Err-config_for-clause-runs g c =
    unprepared c.args.words c.args.identity.now (places_of c.args.paths.now) c.args.turns c.in-Ok.cookie (g.W.Told.outside c.args.world.now) (g.W.Told.outside c.fetch_cookie.new.world) (g.W.Told.outside c.set_up.new.world)
    c.in-Ok.ensures.found c.in-Ok.ensures.told c.in-Ok-set_up.ensures.ok

pub serve_nested-requires-clause-named : goal.serve_nested-requires-clause-named
serve_nested-requires-clause-named g c = subst (λ (config : Config). IsName config.session) (sym c.in-Ok-config_for.ensures) c.requires.session

pub returns-in-Ok-serve_nested-clause-runs : goal.returns-in-Ok-serve_nested-clause-runs
returns-in-Ok-serve_nested-clause-runs g c =
    let old = g.W.Told.outside c.args.world.now in
    let mid = g.W.Told.outside c.set_up.new.world in
    let new = g.W.Told.outside c.serve_nested.new.world in
    let places = places_of c.args.paths.now in
    let config : Config = config_of c.args.identity.now places.own in
    let answer : Result (Unit {0}) ServeFault = Ok c.in-Ok-serve_nested.field-0 in
    let agent : Run Keeper = run_of c.in-Ok-agent_for.begun.0 in
    let first : List ℕ = c.in-Ok-agent_for.begun.1 in
    served_behind c.args.words c.args.identity.now places c.args.turns c.in-Ok.cookie old (g.W.Told.outside c.fetch_cookie.new.world) mid new answer
    c.in-Ok.ensures.found c.in-Ok.ensures.told c.in-Ok.ensures.kept c.in-Ok-set_up.ensures.ok c.in-Ok-set_up.ensures.kept
    (begun_so (λ agent first. Nesting config c.args.turns agent first mid new answer) c.args.words places.id c.in-Ok.cookie c.in-Ok-agent_for.begun.0 first c.in-Ok-agent_for.ensures.agent c.in-Ok-agent_for.ensures.first
    (subst (λ (made : Config). Nesting made c.args.turns agent first mid new answer) c.in-Ok-config_for.ensures c.in-Ok-serve_nested.ensures.nests))
    (begun_so (Promised config mid new answer) c.args.words places.id c.in-Ok.cookie c.in-Ok-agent_for.begun.0 first c.in-Ok-agent_for.ensures.agent c.in-Ok-agent_for.ensures.first
    (subst (λ (made : Config). Promised made mid new answer agent first) c.in-Ok-config_for.ensures c.in-Ok-serve_nested.ensures.headline))
    c.in-Ok-serve_nested.ensures.cause

pub returns-in-Err-serve_nested-clause-runs : goal.returns-in-Err-serve_nested-clause-runs
returns-in-Err-serve_nested-clause-runs g c =
    let old = g.W.Told.outside c.args.world.now in
    let mid = g.W.Told.outside c.set_up.new.world in
    let new = g.W.Told.outside c.serve_nested.new.world in
    let places = places_of c.args.paths.now in
    let config : Config = config_of c.args.identity.now places.own in
    let answer : Result (Unit {0}) ServeFault = Err c.in-Err-serve_nested.fault in
    let agent : Run Keeper = run_of c.in-Ok-agent_for.begun.0 in
    let first : List ℕ = c.in-Ok-agent_for.begun.1 in
    rw (c.from.ensures) (served_behind c.args.words c.args.identity.now places c.args.turns c.in-Ok.cookie old (g.W.Told.outside c.fetch_cookie.new.world) mid new answer
    c.in-Ok.ensures.found c.in-Ok.ensures.told c.in-Ok.ensures.kept c.in-Ok-set_up.ensures.ok c.in-Ok-set_up.ensures.kept
    (begun_so (λ agent first. Nesting config c.args.turns agent first mid new answer) c.args.words places.id c.in-Ok.cookie c.in-Ok-agent_for.begun.0 first c.in-Ok-agent_for.ensures.agent c.in-Ok-agent_for.ensures.first
    (subst (λ (made : Config). Nesting made c.args.turns agent first mid new answer) c.in-Ok-config_for.ensures c.in-Err-serve_nested.ensures.nests))
    (begun_so (Promised config mid new answer) c.args.words places.id c.in-Ok.cookie c.in-Ok-agent_for.begun.0 first c.in-Ok-agent_for.ensures.agent c.in-Ok-agent_for.ensures.first
    (subst (λ (made : Config). Promised made mid new answer agent first) c.in-Ok-config_for.ensures c.in-Err-serve_nested.ensures.headline))
    c.in-Err-serve_nested.ensures.cause)
