use Rattle.std.proofs.Common.{◌+◌, refl, rules}
use Rattle.client_callbacks.specs.Script.{run_after}
use Rattle.client_callbacks.proofs.RunLaws.{faulted, follows_ended, follows_failed, follows_spent, under_begun, under_more}
use Rattle.client_callbacks.proofs.joiner.Joiner.follow.Goals as goal

pub loop-init : goal.loop-init
loop-init g c = record {
  under = λ run is_run going. under_begun g.S.Saves.answers g.D.Dies.gives g.C.Cancels.hears _ run c.args.progress.now is_run going;
  room = c.requires;
}

pub loop-preserved : goal.loop-preserved
loop-preserved g c = record {
  under = λ run is_run going.
      let under = c.loop.invariant.under run is_run going in
      under_more g.S.Saves.answers g.D.Dies.gives g.C.Cancels.hears _ _ _ run c.loop.counter (c.loop.counter + 1) c.loop.progress c.take_turn.new.progress refl under (c.in-Ok.ensures.takes (run_after run under.cames) under.runs under.going) c.in_default.is;
  room = c.in-Ok.ensures.room;
}

pub returns-in-Err : goal.returns-in-Err
returns-in-Err g c = λ run is_run going.
    let under = c.loop.invariant.under run is_run going in
    follows_failed g.S.Saves.answers g.D.Dies.gives g.C.Cancels.hears _ _ _ run c.loop.counter c.args.turns c.loop.progress c.take_turn.new.progress c.in-Err.failure _ c.loop-test.true under (c.in-Err.ensures.takes (run_after run under.cames) under.runs under.going) (faulted c.fault.result c.in-Err.failure c.fault.ensures)

pub returns-in-Some : goal.returns-in-Some
returns-in-Some g c = λ run is_run going.
    let under = c.loop.invariant.under run is_run going in
    follows_ended g.S.Saves.answers g.D.Dies.gives g.C.Cancels.hears _ _ _ run c.loop.counter c.args.turns c.loop.progress c.take_turn.new.progress c.in-Some.ending c.answer.result c.loop-test.true under (c.in-Ok.ensures.takes (run_after run under.cames) under.runs under.going) c.in-Some.is c.answer.ensures

pub returns : goal.returns
returns g c = λ run is_run going. follows_spent g.S.Saves.answers g.D.Dies.gives g.C.Cancels.hears _ _ run c.loop.counter c.args.turns c.loop.progress (search rules) (c.loop.invariant.under run is_run going)
