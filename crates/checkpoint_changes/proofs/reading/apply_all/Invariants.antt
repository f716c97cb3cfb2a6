use Rattle.std.proofs.Common.{IsTrue, length}
use Rattle.checkpoint_changes.specs.Parts.{HasParts}
use Rattle.checkpoint_changes.specs.Together.{FitBut}
use Rattle.checkpoint_changes.proofs.ReadLaws.{Remains}
use Rattle.checkpoint_changes.proofs.reading.apply_all.Given as goal

abbrev pub invariant-loop-left : goal.invariant-loop-left
invariant-loop-left l = Remains l.format l.fn.draft.book l.bytes l.draft.book l.left × (IsTrue l.draft.fits → FitBut l.draft.doubts l.draft.book) × HasParts l.draft.book

abbrev pub decreases-loop-left : goal.decreases-loop-left
decreases-loop-left l = length l.left
