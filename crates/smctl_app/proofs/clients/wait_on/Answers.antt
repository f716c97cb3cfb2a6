use Rattle.std.proofs.Common.{sym, ◌∙◌}
use Rattle.smctl_app.specs.Talking.{TellsEnd}
use Rattle.smctl_app.proofs.TalkLaws.{adds-so, outside-isnt, tells, tells-nothing}
use Rattle.smctl_app.proofs.clients.wait_on.Goals as goal

pub returns-in-Ok-clause-seen : goal.returns-in-Ok-clause-seen
returns-in-Ok-clause-seen g c = adds-so _ _ _ (TellsEnd c.judge_end.result) c.follow.ensures.seen (λ glances shows. tells c.judge_end.result glances (shows ∙ (sym c.end_of-end.ensures.cancelled ∙ sym c.judge_end.ensures.cancelled)))

pub returns-in-Err-clause-seen : goal.returns-in-Err-clause-seen
returns-in-Err-clause-seen g c = adds-so _ _ _ _ c.follow.ensures.seen (λ glances shows. tells-nothing c.in-Err.fault glances (outside-isnt c.in-Err.fault c.in-Err.ensures))
