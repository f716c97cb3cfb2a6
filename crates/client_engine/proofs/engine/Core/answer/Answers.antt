use Rattle.std.proofs.Common.{◌≡◌, [], ◌∷◌, ◌++◌, sym, ◌∙◌, ap, subst}
use Rattle.client_machine.specs.Asking.{after_asked, requested}
use Rattle.client_machine.specs.Saves.{at_stage, step_request}
use Rattle.client_machine.specs.declared.requests.Request.{Request}
use Rattle.client_engine.specs.Answering.{sets}
use Rattle.client_engine.specs.Messages.{AreShort}
use Rattle.client_engine.specs.Places.{on_client}
use Rattle.client_engine.specs.Speaking.{MayAnswer}
use Rattle.protocol_messages.specs.declared.message.Message.{Message}
use Rattle.protocol_messages.specs.declared.message.Message.TheVariants.{Xsmp}
use Rattle.client_engine.specs.declared.place.Place.{Place}
use Rattle.client_engine.specs.declared.place.Talk.{Talk}
use Rattle.client_engine.proofs.Acting.{asked_again, message_said, not_refused}
use Rattle.client_engine.proofs.Short.{short-step, short_more}
use Rattle.client_engine.proofs.engine.Core.answer.Goals as goal

pub unreachable-requires : goal.unreachable-requires
unreachable-requires c = not_refused c.args.ask c.args.answer c.args.self.now.talk.place c.request.result c.say.result c.in-Err.field-0 c.requires.place c.requires.lawful c.request.ensures c.say.ensures.answer c.in-Err.is

pub returns-clause-said : goal.returns-clause-said
returns-clause-said c =
    let message : c.in-Ok.message ≡ Xsmp (requested (step_request c.args.answer.step)) = message_said c.args.ask c.args.answer c.args.self.now.talk.place c.request.result c.say.result c.in-Ok.message c.requires.place c.requires.lawful c.request.ensures c.say.ensures.answer c.in-Ok.is in
    c.in_ok-push-in-Ok.ensures.ok ∙ (ap (λ ms. ms ++ c.in-Ok.message ∷ []) c.in_ok-said.ensures.said ∙ ap (λ (m : Message). sets c.args.answer.set ++ m ∷ []) message)

pub returns-clause-short : goal.returns-clause-short
returns-clause-short c =
    let message : c.in-Ok.message ≡ Xsmp (requested (step_request c.args.answer.step)) = message_said c.args.ask c.args.answer c.args.self.now.talk.place c.request.result c.say.result c.in-Ok.message c.requires.place c.requires.lawful c.request.ensures c.say.ensures.answer c.in-Ok.is in
    let all : c.push.new.self ≡ c.in_ok-said.said ++ Xsmp (requested (step_request c.args.answer.step)) ∷ [] = c.in_ok-push-in-Ok.ensures.ok ∙ ap (λ (m : Message). c.in_ok-said.said ++ m ∷ []) message in
    subst AreShort (sym all) (short_more c.in_ok-said.said (Xsmp (requested (step_request c.args.answer.step))) c.in_ok-said.ensures.short (short-step c.args.answer.step))

pub returns-clause-again : goal.returns-clause-again
returns-clause-again c = λ stage again.
    let place : c.say.new.self.talk.place ≡ on_client (after_asked (step_request c.args.answer.step)) c.args.self.now.talk.place = ap (λ (t : Talk). t.place) c.say.ensures.talk ∙ ap (λ (r : Request). on_client (after_asked r) c.args.self.now.talk.place) c.request.ensures in
    subst (λ (p : Place). MayAnswer (at_stage stage c.args.ask) p) (sym place) (asked_again c.args.ask c.args.answer c.args.self.now.talk.place stage c.requires.place c.requires.lawful again)
