use Rattle.std.proofs.Common.{◌≡◌, [], subst, sym}
use Rattle.std.specs.Prelude.{IfOk, OnOk}
use Rattle.ice_values.specs.Walks.{walk_left}
use Rattle.xsmp_messages.specs.declared.message.XsmpMessage.TheVariants.{SetProperties}
use Rattle.session_model.specs.Rules.{Takes}
use Rattle.session_model.specs.declared.events.SessionEvent.{SessionEvent}
use Rattle.session_model.specs.declared.events.SessionEvent.TheVariants.{Said}
use Rattle.session_state.specs.Session.{reading_in, taken_in}
use Rattle.manager_machine.specs.Heard.{heard_on}
use Rattle.manager_machine.proofs.Setting.{setting-heard}
use Rattle.manager_machine.proofs.session_core.Core.take_view.Goals as goal

pub take_set-requires-clause-takes : goal.take_set-requires-clause-takes
take_set-requires-clause-takes c =
    let heard : heard_on c.args.conn c.args.view.now c.args.sequence ≡ Said c.args.conn (SetProperties (walk_left c.in-Some.walk)) c.args.sequence c.bytes.result.now
    = setting-heard c.args.conn c.args.view.now c.in-Some.walk c.args.sequence c.bytes.result.now c.in-Some.ensures c.bytes.ensures.is in
    subst (λ (event : SessionEvent). Takes event (reading_in c.args.self.now)) heard c.requires.takes

pub returns-in-Some-clause-acts : goal.returns-in-Some-clause-acts
returns-in-Some-clause-acts c =
    let heard : heard_on c.args.conn c.args.view.now c.args.sequence ≡ Said c.args.conn (SetProperties (walk_left c.in-Some.walk)) c.args.sequence c.bytes.result.now
    = setting-heard c.args.conn c.args.view.now c.in-Some.walk c.args.sequence c.bytes.result.now c.in-Some.ensures c.bytes.ensures.is in
    subst (λ (event : SessionEvent). IfOk c.take_set.result (λ acts. acts ≡ (taken_in event c.args.self.now).acts)) (sym heard) c.take_set.ensures.acts

pub returns-in-Some-clause-session : goal.returns-in-Some-clause-session
returns-in-Some-clause-session c =
    let heard : heard_on c.args.conn c.args.view.now c.args.sequence ≡ Said c.args.conn (SetProperties (walk_left c.in-Some.walk)) c.args.sequence c.bytes.result.now
    = setting-heard c.args.conn c.args.view.now c.in-Some.walk c.args.sequence c.bytes.result.now c.in-Some.ensures c.bytes.ensures.is in
    subst (λ (event : SessionEvent). OnOk c.take_set.result (c.take_set.new.self ≡ record (taken_in event c.args.self.now) { acts = [] })) (sym heard) c.take_set.ensures.session
