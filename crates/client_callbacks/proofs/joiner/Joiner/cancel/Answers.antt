use Rattle.std.proofs.Common.{◌∙◌, Some, ap, subst}
use Rattle.sm_world.specs.declared.failures.Failure.TheVariants.{NoMemory}
use Rattle.client_engine.specs.declared.place.Talk.{Talk}
use Rattle.client_callbacks.specs.Doing.{Sends, failure_in, keeper_of}
use Rattle.client_callbacks.specs.Script.{Keeper, owes}
use Rattle.client_callbacks.proofs.DoingLaws.{sends_never}
use Rattle.client_callbacks.proofs.HeedLaws.{cancelled_takes, takes_unnoted}
use Rattle.client_callbacks.proofs.joiner.Joiner.cancel.Goals as goal

pub returns-in-Err-clause-takes : goal.returns-in-Err-clause-takes
returns-in-Err-clause-takes g c = takes_unnoted g.S.Saves.answers g.D.Dies.gives g.C.Cancels.hears (g.P.Told.outside c.args.peer.now) _ _ _ _ tt _ c.in-Err.ensures.err

pub returns-in-Err-owed-clause-takes : goal.returns-in-Err-owed-clause-takes
returns-in-Err-owed-clause-takes g c = cancelled_takes g.S.Saves.answers g.D.Dies.gives g.C.Cancels.hears (g.P.Told.outside c.args.peer.now) (g.P.Told.outside c.args.peer.now) _ _ _ _ (keeper_of c.args.progress.now) _ (owes (keeper_of c.args.progress.now)) (Some NoMemory) c.in-Ok.ensures.ok c.tell_cancelled.ensures.follows (sends_never _ _) (λ e. absurd cc)

pub returns-clause-takes : goal.returns-clause-takes
returns-clause-takes g c =
    let failure = failure_in c.say_all.result in
    cancelled_takes g.S.Saves.answers g.D.Dies.gives g.C.Cancels.hears (g.P.Told.outside c.args.peer.now) (g.P.Told.outside c.say_all.new.peer) _ _ _ _ (keeper_of c.args.progress.now) _ (owes (keeper_of c.args.progress.now)) failure c.in-Ok.ensures.ok c.tell_cancelled.ensures.follows
    (subst (λ (ms : _). Sends (g.P.Told.outside c.args.peer.now) (g.P.Told.outside c.say_all.new.peer) ms failure) (c.as_slice.ensures ∙ c.in-Ok-owed.ensures.said) c.say_all.ensures)
    (λ e. ap (λ (t : Talk). let k : Keeper = record { talk = t; saves = c.args.progress.now.saves; ending = c.args.progress.now.ending } in k) c.in-Ok-owed.ensures.talk)
