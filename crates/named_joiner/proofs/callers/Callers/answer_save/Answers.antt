use Rattle.std.proofs.Common.{◌∙◌, ap, None}
use Rattle.client_engine.specs.declared.place.Talk.{Talk}
use Rattle.named_joiner.specs.Doing.{keeper_of}
use Rattle.named_joiner.specs.Script.{Keeper}
use Rattle.named_joiner.proofs.HeedLaws.{answered_half, answered_none, answers_by, breaks_none}
use Rattle.named_joiner.specs.Script.{answered}
use Rattle.named_joiner.proofs.callers.Callers.answer_save.Goals as goal

pub returns-in-Err-clause-answers : goal.returns-in-Err-clause-answers
returns-in-Err-clause-answers g c = breaks_none g.S.NamedSaves.answers g.D.NamedDies.gives c.args.self.now (answered (keeper_of c.args.progress.now) c.args.ask) None

pub returns-in-None-clause-answers : goal.returns-in-None-clause-answers
returns-in-None-clause-answers g c = answered_none g.S.NamedSaves.answers g.D.NamedDies.gives c.args.self.now c.ask.new.self (keeper_of c.args.progress.now) c.args.ask c.in-Ok.named c.ask.result c.in-Ok.ensures c.ask.ensures.follows c.in-None.is

pub returns-in-Err-answer-clause-answers : goal.returns-in-Err-answer-clause-answers
returns-in-Err-answer-clause-answers g c = answered_half g.S.NamedSaves.answers g.D.NamedDies.gives c.args.self.now c.ask.new.self (keeper_of c.args.progress.now) c.args.ask c.in-Ok.named c.ask.result c.in-Some.answer c.in-Ok.ensures c.ask.ensures.follows c.in-Some.is

pub returns-clause-answers : goal.returns-clause-answers
returns-clause-answers g c =
    answers_by g.S.NamedSaves.answers g.D.NamedDies.gives c.say_all.result _ _ c.args.self.now c.ask.new.self (keeper_of c.args.progress.now) _ c.args.ask c.in-Ok.named c.ask.result c.in-Some.answer c.as_slice.result.now c.in-Ok.ensures c.ask.ensures.follows c.in-Some.is (c.as_slice.ensures ∙ c.in-Ok-answer.ensures.said) c.say_all.ensures
    (ap (λ (t : Talk). let k : Keeper = record { talk = t; ending = c.args.progress.now.ending } in k) c.in-Ok-answer.ensures.talk)
