use Rattle.smctl_app.specs.Talking.{AreQuestions}
use Rattle.smctl_app.proofs.TalkLaws.{adds-so, adds-then, both-ask, clients-asked, clients-perhaps}
use Rattle.smctl_app.proofs.clients.look_at.Goals as goal

pub returns-in-Ok-clause-sent : goal.returns-in-Ok-clause-sent
returns-in-Ok-clause-sent g c = adds-then _ _ _ _ AreQuestions AreQuestions c.in-Ok.ensures.sent c.look_among.ensures.sent (λ xs ys one two. both-ask xs ys (clients-asked xs one) two)

pub returns-in-Err-clause-sent : goal.returns-in-Err-clause-sent
returns-in-Err-clause-sent g c = adds-so _ _ _ AreQuestions c.in-Err.ensures.sent clients-perhaps
