use Rattle.client_callbacks.specs.Doing.{failure_in, keeper_of}
use Rattle.client_callbacks.proofs.HeedLaws.{served, served_failed}
use Rattle.client_callbacks.proofs.heeding.JoinerKeepsProgress.serve.Goals as goal

pub returns-in-Ok-clause-takes : goal.returns-in-Ok-clause-takes
returns-in-Ok-clause-takes g c = served g.S.Saves.answers g.D.Dies.gives g.C.Cancels.hears (g.P.Told.outside c.args.peer.now) (g.P.Told.outside c.say_all.new.peer) _ _ _ (keeper_of c.args.progress.now) _ c.args.taken.said c.args.taken.cue (failure_in c.heed.result) (rw c.as_slice.ensures at c.in-Ok.ensures) c.heed.ensures.takes

pub returns-in-Err-clause-takes : goal.returns-in-Err-clause-takes
returns-in-Err-clause-takes g c = served_failed g.S.Saves.answers g.D.Dies.gives g.C.Cancels.hears (g.P.Told.outside c.args.peer.now) (g.P.Told.outside c.say_all.new.peer) _ _ (keeper_of c.args.progress.now) _ c.args.taken.said c.args.taken.cue c.in-Err.failure (rw c.as_slice.ensures at c.in-Err.ensures)
