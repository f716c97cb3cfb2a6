use Rattle.program_frame.proofs.InputLemmas.{ReadSoFar}
use Rattle.program_frame.proofs.input.read_input.Given as goal

abbrev pub invariant-loop-left : goal.invariant-loop-left
invariant-loop-left g l = ReadSoFar l.limit (g.W.Told.outside l.initial.world) (g.W.Told.outside l.world) l.input l.left

abbrev pub decreases-loop-left : goal.decreases-loop-left
decreases-loop-left g l = l.left
