use Rattle.std.proofs.Common.{◌∙◌, Some, ap, subst}
use Rattle.sm_world.specs.declared.failures.Failure.TheVariants.{NoMemory}
use Rattle.client_engine.specs.declared.place.Talk.{Talk}
use Rattle.client_callbacks.specs.Doing.{Sends, failure_in, keeper_of}
use Rattle.client_callbacks.specs.Script.{Keeper}
use Rattle.client_callbacks.proofs.DoingLaws.{sends_never}
use Rattle.client_callbacks.proofs.HeedLaws.{answered_takes}
use Rattle.client_callbacks.proofs.joiner.Joiner.answer_save.Goals as goal

pub returns-in-Err-clause-takes : goal.returns-in-Err-clause-takes
returns-in-Err-clause-takes g c = answered_takes g.S.Saves.answers g.D.Dies.gives g.C.Cancels.hears (g.P.Told.outside c.args.peer.now) (g.P.Told.outside c.args.peer.now) _ _ _ (keeper_of c.args.progress.now) _ c.args.ask c.ask-answer.result (Some NoMemory) c.ask-answer.ensures.follows (sends_never _ _) (λ e. absurd cc)

pub returns-clause-takes : goal.returns-clause-takes
returns-clause-takes g c =
    let failure = failure_in c.say_all.result in
    answered_takes g.S.Saves.answers g.D.Dies.gives g.C.Cancels.hears (g.P.Told.outside c.args.peer.now) (g.P.Told.outside c.say_all.new.peer) _ _ _ (keeper_of c.args.progress.now) _ c.args.ask c.ask-answer.result failure c.ask-answer.ensures.follows
    (subst (λ (ms : _). Sends (g.P.Told.outside c.args.peer.now) (g.P.Told.outside c.say_all.new.peer) ms failure) (c.as_slice.ensures ∙ c.in-Ok.ensures.said) c.say_all.ensures)
    (λ e. ap (λ (t : Talk). let k : Keeper = record { talk = t; saves = c.args.progress.now.saves; ending = c.args.progress.now.ending } in k) c.in-Ok.ensures.talk)
