use Rattle.std.proofs.Common.{◌∙◌, [], ◌∷◌}
use Rattle.smctl_app.specs.Talking.{status_line}
use Rattle.smctl_app.proofs.TalkLaws.{status-asks}
use Rattle.smctl_app.proofs.clients.find_course.Goals as goal

pub returns-in-Ok-clause-sent : goal.returns-in-Ok-clause-sent
returns-in-Ok-clause-sent g c = record { items = status_line ∷ []; added = c.hear_course.ensures.sent ∙ c.in-Ok.ensures.sent; holds = status-asks }

pub returns-in-Err-clause-sent : goal.returns-in-Err-clause-sent
returns-in-Err-clause-sent g c = record { items = []; added = c.in-Err.ensures.sent; holds = tt }
