use Rattle.std.proofs.Common.{Err}
use Rattle.named_joiner.specs.Doing.{desk, keeper_of}
use Rattle.named_joiner.proofs.HeedLaws.{served_by, served_failed}
use Rattle.named_joiner.proofs.PieceLaws.{step_told}
use Rattle.named_joiner.proofs.heeding.CallersKeepsUnitProgress.serve.Goals as goal

pub returns-in-Ok-clause-takes : goal.returns-in-Ok-clause-takes
returns-in-Ok-clause-takes g c =
    step_told g.S.NamedSaves.answers g.D.NamedDies.gives c.heed.result _ _ _ _
    (served_by g.S.NamedSaves.answers g.D.NamedDies.gives c.heed.result c.args.progress.now.bytes c.say_all.new.bytes _ c.args.self.now (keeper_of c.args.progress.now) _ c.args.taken.said c.as_slice.result.now c.args.taken.cue c.as_slice.ensures c.in-Ok.ensures c.heed.ensures.takes)

pub returns-in-Err-clause-takes : goal.returns-in-Err-clause-takes
returns-in-Err-clause-takes g c =
    step_told g.S.NamedSaves.answers g.D.NamedDies.gives (Err _) (desk c.args.progress.now.bytes c.args.self.now) _ _ _
    (served_failed g.S.NamedSaves.answers g.D.NamedDies.gives c.args.self.now (keeper_of c.args.progress.now) c.args.taken.said c.args.taken.cue)
