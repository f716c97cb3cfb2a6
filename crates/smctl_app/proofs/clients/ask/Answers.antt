use Rattle.smctl_app.specs.Talking.{clients_line}
use Rattle.smctl_app.proofs.TalkLaws.{sends-none, sends-one}
use Rattle.smctl_app.proofs.clients.ask.Goals as goal

pub returns-in-Ok-clause-sent : goal.returns-in-Ok-clause-sent
returns-in-Ok-clause-sent g c = sends-one clients_line _ _ _ c.hear_clients.result c.in-Ok.ensures.sent c.hear_clients.ensures.sent

pub returns-in-Err-clause-sent : goal.returns-in-Err-clause-sent
returns-in-Err-clause-sent g c = sends-none clients_line _ _ c.in-Err.ensures.sent
