use Rattle.std.proofs.Common.{sym, subst}
use Rattle.session_model.specs.Rules.{Takes}
use Rattle.session_model.specs.declared.events.SessionEvent.{SessionEvent}
use Rattle.session_state.specs.Session.{reading_in}
use Rattle.manager_machine.specs.Heard.{Hears, heard_on}
use Rattle.manager_machine.specs.Keeper.{Keeper, StandsFor}
use Rattle.manager_machine.specs.contracts.manager.Manager.{the_view}
use Rattle.manager_machine.proofs.Fitting.{fit-taken}
use Rattle.manager_machine.proofs.Heard.{takes-heard}
use Rattle.manager_machine.proofs.Keeping.{acts-taken, keeper-taken, run-taken, takes-told}
use Rattle.manager_machine.proofs.manager.Manager.hear.Goals as goal

pub take_view-requires-clause-takes : goal.take_view-requires-clause-takes
take_view-requires-clause-takes c =
    let hears : Hears c.args.conn c.args.view.now (reading_in c.self.inside.core) = subst (λ (k : Keeper). Hears c.args.conn c.args.view.now (reading_in k.session)) (sym c.self.view_is) c.requires in
    takes-heard c.args.conn c.args.view.now c.args.sequence (reading_in c.self.inside.core) hears

pub invariant_of-self-2 : goal.invariant_of-self-2
invariant_of-self-2 c = λ e.
    let hears : Hears c.args.conn c.args.view.now (reading_in c.self.inside.core) = subst (λ (k : Keeper). Hears c.args.conn c.args.view.now (reading_in k.session)) (sym c.self.view_is) c.requires in
    let takes = takes-heard c.args.conn c.args.view.now c.args.sequence (reading_in c.self.inside.core) hears in
    run-taken (heard_on c.args.conn c.args.view.now c.args.sequence) c.self.inside.core c.take_view.new.self (c.self.invariant c.if-self.false).1 takes c.in_ok-acts.ensures.session

pub returns-clause-stands : goal.returns-clause-stands
returns-clause-stands c = λ h f.
    let event : SessionEvent = heard_on c.args.conn c.args.view.now c.args.sequence in
    let k : Keeper = the_view c.self.inside in
    let here : StandsFor k h = subst (λ (x : Keeper). StandsFor x h) (sym c.self.view_is) f in
    let hears : Hears c.args.conn c.args.view.now (reading_in k.session) = subst (λ (x : Keeper). Hears c.args.conn c.args.view.now (reading_in x.session)) (sym c.self.view_is) c.requires in
    keeper-taken event k c.take_view.new.self h here (takes-heard c.args.conn c.args.view.now c.args.sequence (reading_in k.session) hears) c.in_ok-acts.ensures.session

pub returns-clause-acts : goal.returns-clause-acts
returns-clause-acts c = λ h f.
    let event : SessionEvent = heard_on c.args.conn c.args.view.now c.args.sequence in
    let k : Keeper = the_view c.self.inside in
    let here : StandsFor k h = subst (λ (x : Keeper). StandsFor x h) (sym c.self.view_is) f in
    let hears : Hears c.args.conn c.args.view.now (reading_in k.session) = subst (λ (x : Keeper). Hears c.args.conn c.args.view.now (reading_in x.session)) (sym c.self.view_is) c.requires in
    acts-taken event k c.in_ok-acts.acts h here (takes-heard c.args.conn c.args.view.now c.args.sequence (reading_in k.session) hears) c.in_ok-acts.ensures.acts

pub returns-clause-fit : goal.returns-clause-fit
returns-clause-fit c = λ h f.
    let event : SessionEvent = heard_on c.args.conn c.args.view.now c.args.sequence in
    let k : Keeper = the_view c.self.inside in
    let here : StandsFor k h = subst (λ (x : Keeper). StandsFor x h) (sym c.self.view_is) f in
    let hears : Hears c.args.conn c.args.view.now (reading_in k.session) = subst (λ (x : Keeper). Hears c.args.conn c.args.view.now (reading_in x.session)) (sym c.self.view_is) c.requires in
    let takes : Takes event (reading_in k.session) = takes-heard c.args.conn c.args.view.now c.args.sequence (reading_in k.session) hears in
    fit-taken event c.in_ok-acts.acts h f.made (takes-told event k.session h here.made here.stands takes) (acts-taken event k c.in_ok-acts.acts h here takes c.in_ok-acts.ensures.acts)
