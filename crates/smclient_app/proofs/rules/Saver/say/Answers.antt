use Rattle.smclient_app.proofs.RuleLaws.{lawful}
use Rattle.smclient_app.proofs.rules.Saver.say.Goals as goal

pub returns-in-Ok-clause-lawful : goal.returns-in-Ok-clause-lawful
returns-in-Ok-clause-lawful c = lawful c.args.self.now.choices.now c.args.self.now.talked c.args.ask c.in-Ok.set c.step.result c.requires c.in-Ok.ensures.set c.step.ensures
