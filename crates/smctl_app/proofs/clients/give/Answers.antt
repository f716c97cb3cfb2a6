use Rattle.smctl_app.proofs.TalkLaws.{sends-none, sends-one}
use Rattle.smctl_app.proofs.clients.give.Goals as goal

pub returns-in-Ok-clause-sent : goal.returns-in-Ok-clause-sent
returns-in-Ok-clause-sent g c = sends-one c.args.line.now _ _ _ c.print_answer.result c.in-Ok.ensures.sent c.print_answer.ensures.sent

pub returns-in-Err-clause-sent : goal.returns-in-Err-clause-sent
returns-in-Err-clause-sent g c = sends-none c.args.line.now _ _ c.in-Err.ensures.sent
