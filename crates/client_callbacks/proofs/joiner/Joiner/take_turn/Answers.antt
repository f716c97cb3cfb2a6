use Rattle.std.proofs.Common.{ap, refl, rules, take, Some}
use Rattle.client_machine.specs.declared.phase.ClientPhase.{ClientPhase}
use Rattle.client_callbacks.specs.Doing.{failure_in}
use Rattle.client_callbacks.specs.Script.{Keeper}
use Rattle.client_callbacks.specs.declared.ends.Ending.TheVariants.{StreamEnded}
use Rattle.client_callbacks.specs.declared.progress.Progress.{Progress}
use Rattle.client_callbacks.proofs.DoingLaws.{links_cause, links_counts}
use Rattle.client_callbacks.proofs.PieceLaws.{composes, stays_stopped}
use Rattle.client_callbacks.proofs.RunLaws.{none_taken, some_taken, turn_ended, turn_taken, unheard}
use Rattle.client_callbacks.proofs.joiner.Joiner.take_turn.Goals as goal

pub returns-in-Err-clause-takes : goal.returns-in-Err-clause-takes
returns-in-Err-clause-takes g c = λ run is_run going. unheard g.S.Saves.answers g.D.Dies.gives g.C.Cancels.hears (g.P.Told.outside c.args.peer.now) (g.P.Told.outside c.receive.new.self) c.args.progress.now.lines c.args.self.now run c.args.progress.now c.in-Err.failure c.in-Err.ensures.effects (links_counts (g.P.Told.outside c.args.peer.now) (g.P.Told.outside c.receive.new.self) _ c.in-Err.ensures.uses) (links_cause (g.P.Told.outside c.args.peer.now) (g.P.Told.outside c.receive.new.self) c.in-Err.failure c.in-Err.ensures.uses)

pub returns-then-count-eq0-clause-takes : goal.returns-then-count-eq0-clause-takes
returns-then-count-eq0-clause-takes g c =
    let after : Progress = record c.args.progress.now { ending = Some (StreamEnded c.phase.result) } in
    λ run is_run going. turn_ended g.S.Saves.answers g.D.Dies.gives g.C.Cancels.hears (g.P.Told.outside c.args.peer.now) (g.P.Told.outside c.receive.new.self) c.args.progress.now.lines c.args.self.now run (take c.in-Ok.count c.receive.new.into) c.args.progress.now after (none_taken c.in-Ok.count c.receive.new.into c.if-count-eq0.true) is_run going c.in-Ok.ensures.effects (links_counts (g.P.Told.outside c.args.peer.now) (g.P.Told.outside c.receive.new.self) _ c.in-Ok.ensures.uses)
    (ap (λ (p : ClientPhase). let k : Keeper = record { talk = c.args.progress.now.core.talk; saves = c.args.progress.now.saves; ending = Some (StreamEnded p) } in k) c.phase.ensures) refl

pub take_piece-requires-clause-composes : goal.take_piece-requires-clause-composes
take_piece-requires-clause-composes g c = composes g.S.Saves.answers g.D.Dies.gives g.C.Cancels.hears

pub take_piece-requires-clause-stops : goal.take_piece-requires-clause-stops
take_piece-requires-clause-stops g c = stays_stopped

pub returns-clause-takes : goal.returns-clause-takes
returns-clause-takes g c = λ run is_run going. turn_taken g.S.Saves.answers g.D.Dies.gives g.C.Cancels.hears (g.P.Told.outside c.args.peer.now) (g.P.Told.outside c.receive.new.self) _ c.args.progress.now.lines c.args.self.now run (take c.in-Ok.count c.receive.new.into) c.args.progress.now c.take_piece.new.notes (failure_in c.take_piece.result) (some_taken c.in-Ok.count c.receive.new.into (search rules) c.if-count-eq0.false) is_run going c.in-Ok.ensures.effects (links_counts (g.P.Told.outside c.args.peer.now) (g.P.Told.outside c.receive.new.self) _ c.in-Ok.ensures.uses) (c.take_piece.ensures run is_run)
