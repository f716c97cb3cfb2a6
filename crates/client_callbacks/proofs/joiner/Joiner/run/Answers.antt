use Rattle.std.proofs.Common.{◌≡◌, ℕ, List, None, sym, ap, subst}
use Rattle.client_engine.specs.Driving.{Run}
use Rattle.client_callbacks.specs.Doing.{IsRun, desk}
use Rattle.client_callbacks.specs.Running.{FollowsRun}
use Rattle.client_callbacks.specs.Script.{Keeper, start}
use Rattle.client_callbacks.specs.declared.progress.Progress.{Progress}
use Rattle.client_callbacks.proofs.RunLaws.{faulted, joined, joins_never, not_begun}
use Rattle.client_callbacks.proofs.joiner.Joiner.run.Goals as goal

pub returns-in-Err-clause-joins : goal.returns-in-Err-clause-joins
returns-in-Err-clause-joins g c = joins_never g.S.Saves.answers g.D.Dies.gives g.C.Cancels.hears _ c.args.join.now.cookie c.args.join.now.previous c.args.join.now.saves c.args.turns

pub returns-in-Err-begin-clause-joins : goal.returns-in-Err-begin-clause-joins
returns-in-Err-begin-clause-joins g c = not_begun g.S.Saves.answers g.D.Dies.gives g.C.Cancels.hears (g.P.Told.outside c.args.peer.now) (g.P.Told.outside c.begin.new.peer) c.args.join.now.lines c.args.self.now c.args.join.now.cookie c.args.join.now.previous c.args.join.now.saves c.args.turns c.in-Err-begin.failure _ c.in-Err-begin.ensures.sends (faulted c.fault.result c.in-Err-begin.failure c.fault.ensures)

pub returns-clause-joins : goal.returns-clause-joins
returns-clause-joins g c =
    let run : Run Keeper = start c.args.join.now.cookie c.args.join.now.previous c.args.join.now.saves in
    let begun : Progress = record c.in-Ok-begin.progress { lines = c.swap.new.x } in
    let is_run : IsRun run begun = record { keeper = c.in-Ok-begin.ensures.keeper; feeds = λ listens. c.in-Ok-begin.ensures.splitter } in
    let going : begun.ending ≡ None = ap (λ (k : Keeper). k.ending) c.in-Ok-begin.ensures.keeper in
    joined g.S.Saves.answers g.D.Dies.gives g.C.Cancels.hears (g.P.Told.outside c.args.peer.now) (g.P.Told.outside c.begin.new.peer) (desk (g.P.Told.outside c.follow-answer.new.peer) c.swap-2.new.y c.follow-answer.new.self) c.args.join.now.lines c.args.self.now c.args.join.now.cookie c.args.join.now.previous c.args.join.now.saves c.args.turns c.follow-answer.result c.in-Ok-begin.ensures.sends
    (subst (λ (lines : List (List ℕ)). FollowsRun g.S.Saves.answers g.D.Dies.gives g.C.Cancels.hears run c.args.turns (desk (g.P.Told.outside c.begin.new.peer) lines c.args.self.now) (desk (g.P.Told.outside c.follow-answer.new.peer) c.swap-2.new.y c.follow-answer.new.self) c.follow-answer.result) c.swap.ensures.x_after
    (subst (λ (lines : List (List ℕ)). FollowsRun g.S.Saves.answers g.D.Dies.gives g.C.Cancels.hears run c.args.turns (desk (g.P.Told.outside c.begin.new.peer) c.swap.new.x c.args.self.now) (desk (g.P.Told.outside c.follow-answer.new.peer) lines c.follow-answer.new.self) c.follow-answer.result) (sym c.swap-2.ensures.y_after)
    (c.follow-answer.ensures run is_run going)))
