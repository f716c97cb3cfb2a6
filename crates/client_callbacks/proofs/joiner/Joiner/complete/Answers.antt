use Rattle.std.proofs.Common.{ap, rules, Some}
use Rattle.client_engine.specs.declared.place.Talk.{Talk}
use Rattle.client_engine.proofs.Acting.{closing_granted, closing_said, closing_talk}
use Rattle.client_callbacks.specs.Doing.{failure_in, keeper_of}
use Rattle.client_callbacks.specs.Script.{Keeper}
use Rattle.client_callbacks.specs.declared.ends.Ending.TheVariants.{Closed}
use Rattle.client_callbacks.proofs.HeedLaws.{completed_last, completed_one, not_one, one, takes_unnoted}
use Rattle.client_callbacks.proofs.joiner.Joiner.complete.Goals as goal

pub returns-in-Err-clause-takes : goal.returns-in-Err-clause-takes
returns-in-Err-clause-takes g c = takes_unnoted g.S.Saves.answers g.D.Dies.gives g.C.Cancels.hears (g.P.Told.outside c.args.peer.now) _ _ _ _ tt _ c.in-Err.ensures.err

pub returns-then-progress-ne1-clause-takes : goal.returns-then-progress-ne1-clause-takes
returns-then-progress-ne1-clause-takes g c = completed_one g.S.Saves.answers g.D.Dies.gives g.C.Cancels.hears (g.P.Told.outside c.args.peer.now) _ _ _ (keeper_of c.args.progress.now) _ _ (not_one c.args.progress.now.saves c.if-progress-ne1.true) c.in-Ok.ensures.ok (search rules)

pub returns-clause-takes : goal.returns-clause-takes
returns-clause-takes g c = completed_last g.S.Saves.answers g.D.Dies.gives g.C.Cancels.hears (g.P.Told.outside c.args.peer.now) (g.P.Told.outside c.say.new.peer) _ _ _ (keeper_of c.args.progress.now) _ _ (failure_in c.say.result) (one c.args.progress.now.saves c.if-progress-ne1.false) c.in-Ok.ensures.ok (rw (closing_said c.args.progress.now.core.talk.place c.new-reasons.result c.ask.result c.in-Ok-ask.message c.requires c.new-reasons.ensures c.ask.ensures.answer c.in-Ok-ask.is) at c.say.ensures)
    (λ e. ap (λ (t : Talk). let k : Keeper = record { talk = t; saves = c.args.progress.now.saves; ending = Some Closed } in k) (closing_talk c.args.progress.now.core.talk c.ask.new.self.talk c.new-reasons.result c.requires c.new-reasons.ensures c.ask.ensures.talk))

pub unreachable-requires : goal.unreachable-requires
unreachable-requires g c = closing_granted c.args.progress.now.core.talk.place c.new-reasons.result c.ask.result c.in-Err-ask.field-0 c.requires c.new-reasons.ensures c.ask.ensures.answer c.in-Err-ask.is
