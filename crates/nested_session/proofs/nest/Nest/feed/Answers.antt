use Rattle.std.proofs.Common.{sym, ◌++◌}
use Rattle.session_engine.specs.Machine.{step}
use Rattle.session_model.specs.Readings as of
use Rattle.nested_session.specs.Nesting.{does}
use Rattle.nested_session.specs.Woven.{shown_of}
use Rattle.nested_session.proofs.Feeding.{after_line, fed_goes, fed_out, fed_short, fed_stops}
use Rattle.nested_session.proofs.SaidLaws.{outcome_at}
use Rattle.nested_session.proofs.Stepping.{stepped_cut, stepped_out}
use Rattle.nested_session.proofs.nest.Nest.feed.Goals as goal

pub returns-in-Ok-clause-makes : goal.returns-in-Ok-clause-makes
returns-in-Ok-clause-makes g c = λ config opening current base before earlier events n script all how brings ready waits.
    fed_goes config opening current base earlier events before (g.W.Told.outside c.args.world.now).told (g.W.Told.outside c.step.new.world).told (g.W.Told.outside c.tell.new.world).told c.args.self c.in-Ok-Goes.session c.marks-marks.result n script all how c.args.event c.in-Ok.nest brings ready waits
    ((rw c.in-Ok-Goes.field-0-is at c.in-Ok-Goes.ensures.steps) config opening current) c.marks-marks.ensures (c.in-Ok.ensures.tells config opening current base events)

pub returns-in-Err-tell-clause-makes : goal.returns-in-Err-tell-clause-makes
returns-in-Err-tell-clause-makes g c = λ config opening current base before earlier events n script all how brings ready waits.
    fed_stops config opening current base earlier events before (g.W.Told.outside c.args.world.now).told (g.W.Told.outside c.step.new.world).told (g.W.Told.outside c.tell.new.world).told c.args.self c.in-Ok-Goes.session c.marks-marks.result n script all how c.args.event c.in-Err-tell.fault brings ready waits
    ((rw c.in-Ok-Goes.field-0-is at c.in-Ok-Goes.ensures.steps) config opening current) c.marks-marks.ensures (c.in-Err-tell.ensures.tells config opening current base events)

pub returns-in-Ok-Finished-clause-makes : goal.returns-in-Ok-Finished-clause-makes
returns-in-Ok-Finished-clause-makes g c = λ config opening current base before earlier events n script all how brings ready waits.
    let out = stepped_out config opening current base earlier events before (g.W.Told.outside c.args.world.now).told (g.W.Told.outside c.step.new.world).told c.args.self c.in-Ok-Finished.marks n script all how c.args.event brings ready waits
    ((rw c.in-Ok-Finished.field-0-is at c.in-Ok-Finished.ensures.steps) config opening current) in
    fed_out config opening current base events (g.W.Told.outside c.finish.new.world).told n (script ++ shown_of how) c.args.event c.finish.result out.1.ended.finished
    (c.finish.ensures.makes config opening current base events (does n (step n.machine c.args.event)).next ((script ++ shown_of how) ++ (does n (step n.machine c.args.event)).line) out.0
    (sym (outcome_at c.args.self.awaited n.awaited c.in-Ok-Finished.marks (of.marks (step n.machine c.args.event).next.session) c.outcome.result ready.awaited out.2 c.outcome.ensures)) out.1)

pub returns-in-Err-clause-makes : goal.returns-in-Err-clause-makes
returns-in-Err-clause-makes g c = λ config opening current base before earlier events n script all how brings ready waits.
    let cut = stepped_cut config opening current base earlier events before (g.W.Told.outside c.args.world.now).told (g.W.Told.outside c.step.new.world).told c.args.self c.in-Err.fault n script (after_line n c.args.event) all how c.args.event brings ready
    (c.in-Err.ensures.steps config opening current) in
    (cut.0, fed_short config opening current base events (g.W.Told.outside c.step.new.world).told c.in-Err.fault n (script ++ shown_of how) c.args.event cut.0 cut.1)
