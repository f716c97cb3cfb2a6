use Rattle.std.proofs.Common.{[], subst}
use Rattle.smctl_app.specs.Talking.{Adds, TellsEnd}
use Rattle.smctl_app.proofs.TalkLaws.{adds-nothing, isnt-ordered, tells-nothing, waits-on}
use Rattle.smctl_app.proofs.clients.wait_for_end.Goals as goal

pub returns-in-Ok-clause-sent : goal.returns-in-Ok-clause-sent
returns-in-Ok-clause-sent g c = waits-on c.in-Ok.field-0 c.wait_on.result _ _ _ c.in-Ok.ensures.sent c.wait_on.ensures.sent

pub returns-in-Ok-clause-seen : goal.returns-in-Ok-clause-seen
returns-in-Ok-clause-seen g c = subst (λ old. Adds old (g.C.Talk.seen c.wait_on.new.connection) (TellsEnd c.wait_on.result)) c.in-Ok.ensures.seen c.wait_on.ensures.seen

pub returns-in-Err-clause-sent : goal.returns-in-Err-clause-sent
returns-in-Err-clause-sent g c = isnt-ordered _ _ c.in-Err.ensures.sent

pub returns-in-Err-clause-seen : goal.returns-in-Err-clause-seen
returns-in-Err-clause-seen g c = adds-nothing _ _ _ c.in-Err.ensures.seen (tells-nothing c.in-Err.fault [] c.in-Err.ensures.cancelled)
