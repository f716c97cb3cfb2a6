use Rattle.std.proofs.Common.{sym, ◌∙◌, ap}
use Rattle.client_engine.specs.Answering.{answered_at}
use Rattle.client_machine.specs.declared.requests.Request.{Request}
use Rattle.program_keeper.proofs.GoingLaws.{short_said}
use Rattle.program_keeper.proofs.progress.Progress.say_step.Goals as goal

pub say-requires : goal.say-requires
say-requires c = short_said c.args.step c.args.self.now.core.talk.place c.in-Ok.message (ap (λ (r : Request). answered_at r c.args.self.now.core.talk.place) (sym c.request.ensures) ∙ (sym c.ask.ensures.answer ∙ c.in-Ok.is))
