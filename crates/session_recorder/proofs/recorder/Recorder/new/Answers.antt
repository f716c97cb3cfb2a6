use Rattle.std.specs.Prelude.{ℕ, List}
use Rattle.std.proofs.Common.{subst}
use Rattle.session_recorder.specs.Recorded.{KeepsTold}
use Rattle.session_recorder.proofs.recorder.Recorder.new.Goals as goal

pub invariant_of-result : goal.invariant_of-result
invariant_of-result g c = (subst (λ (opening : List ℕ). KeepsTold opening c.keep_opening-progress.result (g.W.Told.outside c.args.world).told (g.R.KeptLines.kept c.keep_opening-progress.new.lines)) c.as_slice.ensures (c.keep_opening-progress.ensures.keeps _ c.requires.world), c.keep_opening-progress.ensures.due)
