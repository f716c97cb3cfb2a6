use Rattle.std.proofs.Common.{◌≡◌, [], ◌∷◌, ◌++◌, OnOk, ◌∙◌, ap, subst}
use Rattle.client_engine.specs.Answering.{closes}
use Rattle.protocol_messages.specs.declared.message.Message.{Message}
use Rattle.program_keeper.specs.Script.{sends}
use Rattle.program_keeper.proofs.progress.Progress.say_close.Goals as goal

pub returns : goal.returns
returns c = subst (λ (m : Message). OnOk c.say.result (c.say.new.acts ≡ c.args.acts.now ++ sends m ∷ [])) (c.closing-message.ensures.message ∙ ap closes c.new.ensures) c.say.ensures
