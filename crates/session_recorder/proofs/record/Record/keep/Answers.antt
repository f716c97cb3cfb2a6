use Rattle.std.specs.Prelude.{◌≡◌}
use Rattle.std.proofs.Common.{rules}
use Rattle.session_recorder.specs.Recorded.{appended, IsCut, IsLineOf}
use Rattle.session_recorder.specs.declared.progress.Progress.TheVariants.{Recording}
use Rattle.session_recorder.proofs.Noting.{goes-on-told, cut-told, missed-told}
use Rattle.session_recorder.proofs.record.Record.keep.Goals as goal

pub returns-then-is_err-clause-keeps : goal.returns-then-is_err-clause-keeps
returns-then-is_err-clause-keeps g c = λ told effect line.
    let was : c.args.self.now.progress ≡ Recording = c.requires.recording in
    let is : IsLineOf effect c.in-Ok.line = search rules in
    let cut : IsCut (g.R.KeptLines.kept c.args.self.now.lines) (g.R.KeptLines.kept c.lose.new.self.lines) c.in-Ok.line = search rules in
    rw c.lose.ensures.opening (cut-told c.args.self.now.opening c.args.self.now.progress c.lose.new.self.progress effect c.in-Ok.line was c.lose.ensures.progress is told _ _ cut)

pub returns-in-Ok-clause-keeps : goal.returns-in-Ok-clause-keeps
returns-in-Ok-clause-keeps g c = λ told effect line.
    let was : c.args.self.now.progress ≡ Recording = c.requires.recording in
    let is : IsLineOf effect c.in-Ok.line = search rules in
    let more : g.R.KeptLines.kept c.keep.new.self ≡ appended (g.R.KeptLines.kept c.args.self.now.lines) c.in-Ok.line = search rules in
    goes-on-told c.args.self.now.opening c.args.self.now.progress effect c.in-Ok.line was is told _ _ more

pub returns-clause-keeps : goal.returns-clause-keeps
returns-clause-keeps g c = λ told effect line.
    let was : c.args.self.now.progress ≡ Recording = c.requires.recording in
    rw c.starve.ensures.opening (missed-told c.args.self.now.opening c.args.self.now.progress c.starve.new.self.progress effect was c.starve.ensures.progress told _ _ c.starve.ensures.lines)
