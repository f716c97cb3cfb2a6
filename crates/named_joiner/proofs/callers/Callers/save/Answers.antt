use Rattle.named_joiner.specs.Doing.{keeper_of}
use Rattle.named_joiner.proofs.HeedLaws.{saved_again, saved_failed, saved_once}
use Rattle.named_joiner.proofs.callers.Callers.save.Goals as goal

pub returns-in-Err-clause-takes : goal.returns-in-Err-clause-takes
returns-in-Err-clause-takes g c = saved_failed g.S.NamedSaves.answers g.D.NamedDies.gives c.args.self.now c.answer_save.new.self (keeper_of c.args.progress.now) c.args.ask c.in-Err.ensures.answers

pub returns-in-Some-clause-takes : goal.returns-in-Some-clause-takes
returns-in-Some-clause-takes g c = saved_again g.S.NamedSaves.answers g.D.NamedDies.gives c.answer_save-in-Some.result _ _ _ (keeper_of c.args.progress.now) (keeper_of c.answer_save.new.progress) _ c.args.ask c.in-Some.stage c.in-Some.ensures c.in-Ok.ensures.answers c.answer_save-in-Some.ensures.answers

pub returns-in-None-clause-takes : goal.returns-in-None-clause-takes
returns-in-None-clause-takes g c = saved_once g.S.NamedSaves.answers g.D.NamedDies.gives _ _ (keeper_of c.args.progress.now) _ c.args.ask c.in-None.ensures c.in-Ok.ensures.answers
