use Rattle.std.proofs.Common.{[], ap, Some}
use Rattle.client_engine.specs.declared.place.Talk.{Talk}
use Rattle.client_engine.proofs.Acting.{is_stopped}
use Rattle.client_callbacks.specs.Doing.{failure_in, keeper_of}
use Rattle.client_callbacks.specs.Script.{Keeper}
use Rattle.client_callbacks.specs.declared.ends.Ending.TheVariants.{Died}
use Rattle.client_callbacks.proofs.HeedLaws.{died_takes, takes_unnoted}
use Rattle.client_callbacks.proofs.joiner.Joiner.die.Goals as goal

pub returns-in-Err-clause-takes : goal.returns-in-Err-clause-takes
returns-in-Err-clause-takes g c = takes_unnoted g.S.Saves.answers g.D.Dies.gives g.C.Cancels.hears (g.P.Told.outside c.args.peer.now) _ _ _ _ [] _ c.in-Err.ensures.err

pub returns-clause-takes : goal.returns-clause-takes
returns-clause-takes g c = died_takes g.S.Saves.answers g.D.Dies.gives g.C.Cancels.hears (g.P.Told.outside c.args.peer.now) (g.P.Told.outside c.say.new.peer) _ _ _ _ (keeper_of c.args.progress.now) _ c.ask_reasons.result (failure_in c.say.result) c.in-Ok.ensures.ok c.ask_reasons.ensures.follows (rw c.closing-message.ensures.message at c.say.ensures)
    (λ e. ap (λ (t : Talk). let k : Keeper = record { talk = t; saves = c.args.progress.now.saves; ending = Some Died } in k) (is_stopped c.args.progress.now.core.talk c.requires))
