use Rattle.smctl_app.specs.Talking.{shutdown_line}
use Rattle.smctl_app.proofs.TalkLaws.{outside-isnt, outside-of, sends-none, sends-one}
use Rattle.smctl_app.proofs.clients.order_logout.Goals as goal

pub returns-in-Ok-clause-sent : goal.returns-in-Ok-clause-sent
returns-in-Ok-clause-sent g c = sends-one shutdown_line _ _ _ c.hear_ok.result c.in-Ok.ensures.sent c.hear_ok.ensures.sent

pub returns-in-Err-clause-sent : goal.returns-in-Err-clause-sent
returns-in-Err-clause-sent g c = sends-none shutdown_line _ _ c.in-Err.ensures.sent

pub returns-in-Err-clause-cancelled : goal.returns-in-Err-clause-cancelled
returns-in-Err-clause-cancelled g c = outside-isnt c.in-Err.fault c.in-Err.ensures.cause

pub returns-in-Err-clause-cause : goal.returns-in-Err-clause-cause
returns-in-Err-clause-cause g c = outside-of c.in-Err.fault c.in-Err.ensures.cause
