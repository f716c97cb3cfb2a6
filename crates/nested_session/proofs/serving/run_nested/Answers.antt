use Rattle.std.proofs.Common.{◌≡◌, ◌∙◌, arith}
use Rattle.sm_world.proofs.Adding.{fallen_never}
use Rattle.nested_session.specs.Serving.{run_of}
use Rattle.nested_session.proofs.CauseLaws.{cause_since}
use Rattle.nested_session.proofs.LoopLaws.{loop_spent}
use Rattle.nested_session.proofs.serving.run_nested.Goals as goal

pub returns-in-Err-clause-nests : goal.returns-in-Err-clause-nests
returns-in-Err-clause-nests g c = c.in-Err.ensures.begins c.args.turns

pub returns-in-Ok-Finished-clause-nests : goal.returns-in-Ok-Finished-clause-nests
returns-in-Ok-Finished-clause-nests g c = rw c.in-Ok-Finished.field-0-is at (c.in-Ok-Finished.ensures.further c.args.config c.args.turns c.loop.counter (run_of c.args.agent) c.args.first (g.W.Told.outside c.args.world.now) c.loop-test.true c.loop.invariant.held)

pub returns-in-Err-turn-clause-nests : goal.returns-in-Err-turn-clause-nests
returns-in-Err-turn-clause-nests g c = c.in-Err-turn.ensures.further c.args.config c.args.turns c.loop.counter (run_of c.args.agent) c.args.first (g.W.Told.outside c.args.world.now) c.loop-test.true c.loop.invariant.held

pub loop-init : goal.loop-init
loop-init g c =
    record {
      held = c.in-Ok.ensures.begins c.args.turns;
      shown = c.in-Ok.ensures.shown;
      size = (c.in-Ok.ensures.begins c.args.turns).size;
      input = c.in-Ok.ensures.input;
      first = c.in-Ok.ensures.first;
      counts = c.in-Ok.ensures.counts;
    }

pub loop-preserved : goal.loop-preserved
loop-preserved g c =
    record {
      held = rw c.in-Ok-Goes.field-0-is at (c.in-Ok-Goes.ensures.further c.args.config c.args.turns c.loop.counter (run_of c.args.agent) c.args.first (g.W.Told.outside c.args.world.now) c.loop-test.true c.loop.invariant.held);
      shown = rw c.in-Ok-Goes.field-0-is at c.in-Ok-Goes.ensures.shown;
      size = c.in-Ok-Goes.ensures.size ∙ c.loop.invariant.size;
      input = c.in-Ok-Goes.ensures.input ∙ c.loop.invariant.input;
      first = c.in-Ok-Goes.ensures.first ∙ c.loop.invariant.first;
      counts = fallen_never _ _ _ c.loop.invariant.counts c.in-Ok-Goes.ensures.counts;
    }

pub returns-clause-nests : goal.returns-clause-nests
returns-clause-nests g c = loop_spent c.args.config c.args.turns (run_of c.args.agent) c.args.first c.loop.counter (g.W.Told.outside c.args.world.now) (g.W.Told.outside c.loop.world) c.loop.nest (omega (arith, c.loop.auto.counter-end, c.loop-test.false)) c.loop.invariant.held

pub returns-in-Err-turn-clause-cause : goal.returns-in-Err-turn-clause-cause
returns-in-Err-turn-clause-cause g c = cause_since c.in-Err-turn.fault (g.W.Told.outside c.args.world.now).faults (g.W.Told.outside c.loop.world).faults (g.W.Told.outside c.turn.new.world).faults c.loop.invariant.counts c.in-Err-turn.ensures.cause
