use Rattle.std.proofs.Common.{length}
use Rattle.client_engine.proofs.Kept.{Amid}
use Rattle.client_engine.proofs.keeping.take_piece.Given as goal

abbrev pub invariant-loop-left : goal.invariant-loop-left
invariant-loop-left g l = Amid g.K.Keeps.unasked g.K.Keeps.talk_of g.K.Keeps.stand_at g.K.Keeps.says g.K.Keeps.cued g.K.Keeps.carries (g.K.Keeps.desk l.fn.keeper l.fn.to l.fn.notes) (g.K.Keeps.desk l.keeper l.to l.notes) (g.K.Keeps.keeper l.fn.notes) (g.K.Keeps.core l.fn.notes).splitter l.piece l.left (g.K.Keeps.keeper l.notes) (g.K.Keeps.core l.notes).splitter

abbrev pub decreases-loop-left : goal.decreases-loop-left
decreases-loop-left g l = length l.left
