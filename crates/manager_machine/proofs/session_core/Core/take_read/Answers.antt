use Rattle.std.proofs.Common.{◌∙◌, [], ap, sym, subst}
use Rattle.session_model.specs.Rules.{Takes}
use Rattle.session_model.specs.declared.events.SessionEvent.{SessionEvent}
use Rattle.session_state.specs.Session.{reading_in, taken_in}
use Rattle.manager_machine.proofs.Heard.{heard-is}
use Rattle.manager_machine.proofs.session_core.Core.take_read.Goals as goal

pub take_said-requires-clause-takes : goal.take_said-requires-clause-takes
take_said-requires-clause-takes c =
    subst (λ (event : SessionEvent). Takes event (reading_in c.args.self.now)) (heard-is c.args.conn c.args.view.now c.in_ok-message.message c.args.sequence c.bytes.result.now c.in_ok-message.ensures c.bytes.ensures.is) c.requires.takes

pub returns-clause-acts : goal.returns-clause-acts
returns-clause-acts c =
    c.in_ok-acts.ensures.acts ∙ ap (λ (event : SessionEvent). (taken_in event c.args.self.now).acts) (sym (heard-is c.args.conn c.args.view.now c.in_ok-message.message c.args.sequence c.bytes.result.now c.in_ok-message.ensures c.bytes.ensures.is))

pub returns-clause-session : goal.returns-clause-session
returns-clause-session c =
    c.in_ok-acts.ensures.session ∙ ap (λ (event : SessionEvent). record (taken_in event c.args.self.now) { acts = [] }) (sym (heard-is c.args.conn c.args.view.now c.in_ok-message.message c.args.sequence c.bytes.result.now c.in_ok-message.ensures c.bytes.ensures.is))
