use Rattle.client_callbacks.specs.Doing.{failure_in, keeper_of}
use Rattle.client_callbacks.proofs.HeedLaws.{saved_failed, saved_once, saved_twice}
use Rattle.client_callbacks.proofs.joiner.Joiner.save.Goals as goal

pub returns-in-Err-clause-takes : goal.returns-in-Err-clause-takes
returns-in-Err-clause-takes g c = saved_failed g.S.Saves.answers g.D.Dies.gives g.C.Cancels.hears _ _ (keeper_of c.args.progress.now) _ c.args.ask c.in-Err.failure c.in-Err.ensures.takes

pub returns-in-Some-clause-takes : goal.returns-in-Some-clause-takes
returns-in-Some-clause-takes g c = saved_twice g.S.Saves.answers g.D.Dies.gives g.C.Cancels.hears _ _ _ (keeper_of c.args.progress.now) (keeper_of c.answer_save.new.progress) _ c.args.ask c.in-Some.stage (failure_in c.answer_save-in-Some.result) c.in-Some.ensures c.in-Ok.ensures.takes c.answer_save-in-Some.ensures.takes

pub returns-in-None-clause-takes : goal.returns-in-None-clause-takes
returns-in-None-clause-takes g c = saved_once g.S.Saves.answers g.D.Dies.gives g.C.Cancels.hears _ _ (keeper_of c.args.progress.now) _ c.args.ask c.in-None.ensures c.in-Ok.ensures.takes
