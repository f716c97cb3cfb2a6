use Rattle.std.proofs.Common.{◌≡◌, ◌∷◌, [], rules, Ok, Err}
use Rattle.std.proofs.lemmas.List.{nil_from_length}
use Rattle.nested_session.specs.declared.nest.Answered.TheVariants.{Finished, Goes}
use Rattle.nested_session.proofs.ActLaws.{carried_all, carried_cut, carried_on, carried_over, carries_none, none_left}
use Rattle.nested_session.proofs.Quietness.{quiet_both, quiet_none, quiet_ok}
use Rattle.nested_session.proofs.nest.Nest.carry_all.Goals as goal

pub loop-act-init : goal.loop-act-init
loop-act-init g c = record {
  held = λ config opening current base events n script all none goes. carries_none config opening current base events (g.W.Told.outside c.args.world.now).told c.args.self n script all c.args.acts.now goes;
  none = λ none. none;
  shown = c.requires.shown;
  quiet = quiet_none (g.W.Told.outside c.args.world.now);
}

pub loop-act-preserved : goal.loop-act-preserved
loop-act-preserved g c =
    let split : c.loop-act.left.now ≡ c.in-Some.act.now ∷ c.in-Some.later.now = search rules in
    record {
      held = λ config opening current base events n script all none goes.
          carried_on config opening current base events (g.W.Told.outside c.args.world.now).told (g.W.Told.outside c.loop-act.world).told (g.W.Told.outside c.carry.new.world).told c.loop-act.nest c.in-Ok-Goes.next n script c.args.acts.now c.loop-act.left.now c.in-Some.later.now c.in-Some.act.now split
          (c.loop-act.invariant.none none) (c.loop-act.invariant.held config opening current base events n script all none goes)
          ((rw c.in-Ok-Goes.field-0-is at c.in-Ok-Goes.ensures.makes) config opening current base events);
      none = λ none. none_left c.loop-act.left.now c.in-Some.later.now c.in-Some.act.now split (c.loop-act.invariant.none none);
      shown = rw c.in-Ok-Goes.field-0-is at c.in-Ok-Goes.ensures.shown;
      quiet = quiet_ok (g.W.Told.outside c.args.world.now) (g.W.Told.outside c.carry.new.world) (Ok (Goes c.in-Ok-Goes.next)) tt
          (quiet_both (g.W.Told.outside c.args.world.now) (g.W.Told.outside c.loop-act.world) (g.W.Told.outside c.carry.new.world) (Ok tt) (Ok (Goes c.in-Ok-Goes.next)) c.loop-act.invariant.quiet (rw c.in-Ok-Goes.field-0-is at c.in-Ok-Goes.ensures.alone));
    }

pub returns-in-Ok-Finished-clause-makes : goal.returns-in-Ok-Finished-clause-makes
returns-in-Ok-Finished-clause-makes g c = λ config opening current base events n script all none goes.
    let split : c.loop-act.left.now ≡ c.in-Some.act.now ∷ c.in-Some.later.now = search rules in
    carried_over config opening current base events (g.W.Told.outside c.args.world.now).told (g.W.Told.outside c.loop-act.world).told (g.W.Told.outside c.carry.new.world).told c.loop-act.nest n script c.args.acts.now c.loop-act.left.now c.in-Some.later.now c.in-Some.act.now split
    (c.loop-act.invariant.none none) (c.loop-act.invariant.held config opening current base events n script all none goes) ((rw c.in-Ok-Finished.field-0-is at c.in-Ok-Finished.ensures.makes) config opening current base events)

pub returns-in-Ok-Finished-clause-alone : goal.returns-in-Ok-Finished-clause-alone
returns-in-Ok-Finished-clause-alone g c =
    quiet_both (g.W.Told.outside c.args.world.now) (g.W.Told.outside c.loop-act.world) (g.W.Told.outside c.carry.new.world) (Ok tt) (Ok Finished) c.loop-act.invariant.quiet (rw c.in-Ok-Finished.field-0-is at c.in-Ok-Finished.ensures.alone)

pub returns-in-Err-clause-makes : goal.returns-in-Err-clause-makes
returns-in-Err-clause-makes g c = λ config opening current base events n script all none goes.
    let split : c.loop-act.left.now ≡ c.in-Some.act.now ∷ c.in-Some.later.now = search rules in
    carried_cut config opening current base events (g.W.Told.outside c.args.world.now).told (g.W.Told.outside c.loop-act.world).told (g.W.Told.outside c.carry.new.world).told c.loop-act.nest n script c.args.acts.now c.loop-act.left.now c.in-Some.later.now c.in-Some.act.now c.in-Err.fault split
    (c.loop-act.invariant.none none) (c.loop-act.invariant.held config opening current base events n script all none goes) (c.in-Err.ensures.makes config opening current base events)

pub returns-in-Err-clause-alone : goal.returns-in-Err-clause-alone
returns-in-Err-clause-alone g c = quiet_both (g.W.Told.outside c.args.world.now) (g.W.Told.outside c.loop-act.world) (g.W.Told.outside c.carry.new.world) (Ok tt) (Err c.in-Err.fault) c.loop-act.invariant.quiet c.in-Err.ensures.alone

pub returns-clause-makes : goal.returns-clause-makes
returns-clause-makes g c = λ config opening current base events n script all none goes.
    let over : c.loop-act.left.now ≡ [] = nil_from_length c.loop-act.left.now (search rules) in
    carried_all config opening current base events (g.W.Told.outside c.args.world.now).told (g.W.Told.outside c.loop-act.world).told c.loop-act.nest n script c.args.acts.now c.loop-act.left.now over (c.loop-act.invariant.held config opening current base events n script all none goes)

pub returns-clause-alone : goal.returns-clause-alone
returns-clause-alone g c = quiet_ok (g.W.Told.outside c.args.world.now) (g.W.Told.outside c.loop-act.world) (Ok tt) (Goes c.loop-act.nest) c.loop-act.invariant.quiet
