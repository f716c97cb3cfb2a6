use Rattle.std.specs.Prelude.{◌≡◌}
use Rattle.std.proofs.Common.{rules}
use Rattle.session_recorder.specs.Recorded.{appended, IsCut}
use Rattle.session_recorder.proofs.Noting.{begun, begun-cut}
use Rattle.session_recorder.proofs.recorder.keep_opening.Goals as goal

pub returns-in-Ok-clause-keeps : goal.returns-in-Ok-clause-keeps
returns-in-Ok-clause-keeps g c = λ told fresh.
    let kept : g.R.KeptLines.kept c.keep.new.self ≡ appended (g.R.KeptLines.kept c.args.lines.now) c.args.opening.now = search rules in
    begun _ told _ _ fresh c.requires.new kept

pub returns-in-Err-clause-keeps : goal.returns-in-Err-clause-keeps
returns-in-Err-clause-keeps g c = λ told fresh.
    let cut : IsCut (g.R.KeptLines.kept c.args.lines.now) (g.R.KeptLines.kept c.keep.new.self) c.args.opening.now = search rules in
    rw c.tell_lost.ensures.kept (begun-cut _ told _ _ fresh c.requires.new cut)
