use Rattle.std.proofs.Common.{sym, subst}
use Rattle.session_model.specs.Rules.{Takes}
use Rattle.session_state.specs.Session.{reading_in}
use Rattle.manager_machine.specs.Keeper.{Keeper, StandsFor}
use Rattle.manager_machine.specs.contracts.manager.Manager.{the_view}
use Rattle.manager_machine.proofs.Fitting.{fit-taken}
use Rattle.manager_machine.proofs.Keeping.{acts-taken, keeper-taken, run-taken, takes-told}
use Rattle.manager_machine.proofs.manager.Manager.take.Goals as goal

pub invariant_of-self-2 : goal.invariant_of-self-2
invariant_of-self-2 c = λ e.
    let takes : Takes c.args.event (reading_in c.self.inside.core) = subst (λ (k : Keeper). Takes c.args.event (reading_in k.session)) (sym c.self.view_is) c.requires in
    run-taken c.args.event c.self.inside.core c.take.new.self (c.self.invariant c.if-self.false).1 takes c.in_ok-acts.ensures.session

pub returns-clause-stands : goal.returns-clause-stands
returns-clause-stands c = λ h f.
    let k : Keeper = the_view c.self.inside in
    let here : StandsFor k h = subst (λ (x : Keeper). StandsFor x h) (sym c.self.view_is) f in
    let takes : Takes c.args.event (reading_in k.session) = subst (λ (x : Keeper). Takes c.args.event (reading_in x.session)) (sym c.self.view_is) c.requires in
    keeper-taken c.args.event k c.take.new.self h here takes c.in_ok-acts.ensures.session

pub returns-clause-acts : goal.returns-clause-acts
returns-clause-acts c = λ h f.
    let k : Keeper = the_view c.self.inside in
    let here : StandsFor k h = subst (λ (x : Keeper). StandsFor x h) (sym c.self.view_is) f in
    let takes : Takes c.args.event (reading_in k.session) = subst (λ (x : Keeper). Takes c.args.event (reading_in x.session)) (sym c.self.view_is) c.requires in
    acts-taken c.args.event k c.in_ok-acts.acts h here takes c.in_ok-acts.ensures.acts

pub returns-clause-fit : goal.returns-clause-fit
returns-clause-fit c = λ h f.
    let k : Keeper = the_view c.self.inside in
    let here : StandsFor k h = subst (λ (x : Keeper). StandsFor x h) (sym c.self.view_is) f in
    let takes : Takes c.args.event (reading_in k.session) = subst (λ (x : Keeper). Takes c.args.event (reading_in x.session)) (sym c.self.view_is) c.requires in
    fit-taken c.args.event c.in_ok-acts.acts h f.made (takes-told c.args.event k.session h here.made here.stands takes) (acts-taken c.args.event k c.in_ok-acts.acts h here takes c.in_ok-acts.ensures.acts)
