use Rattle.std.proofs.Common.{map, string_bytes}
use Rattle.smrelay_app.proofs.Ending.{does, does_nothing}
use Rattle.smrelay_app.proofs.Wording.{not_some}
use Rattle.smrelay_app.specs.Words.{Rehearse, Serve}
use Rattle.smrelay_app.proofs.program.run_words.Goals as goal

pub returns-in-Some-clause-runs : goal.returns-in-Some-clause-runs
returns-in-Some-clause-runs g c =
    does (map string_bytes c.args.words.now) c.args.turns (g.W.Told.outside c.args.world.now) (g.W.Told.outside c.rehearse.new.world) c.rehearse.result (Rehearse c.in-Some.to) c.in-Some.ensures c.rehearse.ensures.runs

pub returns-in-Some-read_route-clause-runs : goal.returns-in-Some-read_route-clause-runs
returns-in-Some-read_route-clause-runs g c =
    does (map string_bytes c.args.words.now) c.args.turns (g.W.Told.outside c.args.world.now) (g.W.Told.outside c.serve_route.new.world) c.serve_route.result (Serve c.in-Some-read_route.route.order (record { socket = c.in-Some-read_route.route.socket.now; to = c.in-Some-read_route.route.to.now })) c.in-Some-read_route.ensures c.serve_route.ensures.runs

pub returns-in-None-clause-runs : goal.returns-in-None-clause-runs
returns-in-None-clause-runs g c =
    does_nothing (map string_bytes c.args.words.now) c.args.turns (g.W.Told.outside c.args.world.now) (g.W.Told.outside c.args.world.now) (not_some _ c.read_rehearsal.result c.read_rehearsal.ensures c.in_default.not-Some) c.in-None.ensures
