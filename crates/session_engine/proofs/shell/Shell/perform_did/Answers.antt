use Rattle.std.proofs.Common.{rules, ◌≡◌, [], ◌∷◌, ◌++◌, ◌∙◌, sym, refl, ap, Ok, Err, List, subst, append_assoc}
use Rattle.std.proofs.lemmas.List.{append-nil}
use Rattle.sm_world.specs.Outside.{Added}
use Rattle.sm_world.proofs.Adding.{fallen_never, never_fallen}
use Rattle.session_model.specs.declared.events.Act.{Act as SessionAct}
use Rattle.session_engine.specs.Acts.{acts_for_all}
use Rattle.session_engine.specs.Saved.{Performs}
use Rattle.session_engine.proofs.Performing.{did_more, did_stopped, told_nothing}
use Rattle.session_engine.proofs.shell.Shell.perform_did.Goals as goal

pub loop-act-init : goal.loop-act-init
loop-act-init g c = record {
  performs = ([], refl, told_nothing c.args.store _);
  fit = c.requires.fit;
  size = refl;
  coming = refl;
  input = refl;
  first = refl;
  counts = never_fallen _;
}

pub returns-in-Err-clause-done : goal.returns-in-Err-clause-done
returns-in-Err-clause-done g c =
    let so_far = c.loop-act.invariant.performs in
    let rest : List SessionAct = c.pop_front.new.self.items in
    let whole : so_far.0 ++ c.in-Some.act ∷ rest ≡ c.args.did.items = ap (λ acts. so_far.0 ++ acts) (sym c.in-Some.ensures.items) ∙ so_far.1 in
    subst (λ (acts : List SessionAct). Added (g.W.Told.outside c.args.world.now).told (g.W.Told.outside c.do_session_act.new.world).told (Performs c.args.store (acts_for_all acts) (Err c.in-Err.halt))) whole
    (did_stopped c.args.store c.loop-act.store so_far.0 c.in-Some.act rest c.in-Err.halt _ _ _ so_far.2 c.in-Err.ensures.done)

pub loop-act-preserved : goal.loop-act-preserved
loop-act-preserved g c =
    let so_far = c.loop-act.invariant.performs in
    let left = c.in-Some.ensures.items in
    let rest : List SessionAct = c.pop_front.new.self.items in
    record {
      performs = (
        so_far.0 ++ c.in-Some.act ∷ [],
        append_assoc so_far.0 (c.in-Some.act ∷ []) rest ∙ (ap (λ acts. so_far.0 ++ acts) (sym left) ∙ so_far.1),
        did_more c.args.store c.loop-act.store c.in-Ok.next so_far.0 c.in-Some.act _ _ _ so_far.2 c.in-Ok.ensures.done,
      );
      fit = (rw left at c.loop-act.invariant.fit).1;
      size = c.in-Ok.ensures.alone.size ∙ c.loop-act.invariant.size;
      coming = c.in-Ok.ensures.alone.coming ∙ c.loop-act.invariant.coming;
      input = c.in-Ok.ensures.alone.input ∙ c.loop-act.invariant.input;
      first = c.in-Ok.ensures.alone.first ∙ c.loop-act.invariant.first;
      counts = fallen_never _ _ _ c.loop-act.invariant.counts c.in-Ok.ensures.alone.counts.counts;
    }

pub returns-clause-done : goal.returns-clause-done
returns-clause-done g c =
    let so_far = c.loop-act.invariant.performs in
    let none : c.loop-act.left.items ≡ [] = search rules in
    let all : so_far.0 ≡ c.args.did.items = sym (append-nil so_far.0) ∙ (ap (λ xs. so_far.0 ++ xs) (sym none) ∙ so_far.1) in
    subst (λ (acts : List SessionAct). Added (g.W.Told.outside c.args.world.now).told (g.W.Told.outside c.loop-act.world).told (Performs c.args.store (acts_for_all acts) (Ok c.loop-act.store))) all so_far.2
