use Rattle.std.proofs.Common.{Ok, Err}
use Rattle.smd_app.specs.Words.{places_of}
use Rattle.smd_app.proofs.SessionLemmas.{served_so}
use Rattle.smd_app.proofs.serving.serve_session.Goals as goal

pub returns-in-Ok-serve-clause-runs : goal.returns-in-Ok-serve-clause-runs
returns-in-Ok-serve-clause-runs g c =
    served_so c.args.identity.now (places_of c.args.paths.now) c.args.turns (g.W.Told.outside c.args.world.now) (g.W.Told.outside c.hand_out.new.world) (g.W.Told.outside c.announce.new.world) (g.W.Told.outside c.serve.new.world) c.in-Ok.config (Ok c.in-Ok-serve.field-0) c.in-Ok.ensures
    c.in_default.ensures.ok c.in_default.ensures.kept c.in_default-announce.ensures.ok c.in_default-announce.ensures.kept c.in-Ok-serve.ensures.serves c.in-Ok-serve.ensures.headline c.in-Ok-serve.ensures.ready c.in-Ok-serve.ensures.first c.in-Ok-serve.ensures.cause

pub returns-in-Err-serve-clause-runs : goal.returns-in-Err-serve-clause-runs
returns-in-Err-serve-clause-runs g c =
    rw (c.from.ensures) (served_so c.args.identity.now (places_of c.args.paths.now) c.args.turns (g.W.Told.outside c.args.world.now) (g.W.Told.outside c.hand_out.new.world) (g.W.Told.outside c.announce.new.world) (g.W.Told.outside c.serve.new.world) c.in-Ok.config (Err c.in-Err-serve.fault) c.in-Ok.ensures
    c.in_default.ensures.ok c.in_default.ensures.kept c.in_default-announce.ensures.ok c.in_default-announce.ensures.kept c.in-Err-serve.ensures.serves c.in-Err-serve.ensures.headline c.in-Err-serve.ensures.ready c.in-Err-serve.ensures.first c.in-Err-serve.ensures.cause)
