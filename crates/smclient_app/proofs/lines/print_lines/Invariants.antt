use Rattle.std.proofs.Common.{take}
use Rattle.smclient_app.proofs.LineLaws.{PrintedSoFar}
use Rattle.smclient_app.proofs.lines.print_lines.Given as goal

abbrev pub invariant-loop-line : goal.invariant-loop-line
invariant-loop-line g l = PrintedSoFar (take l.line-index l.lines) (g.W.Told.outside l.fn.world) (g.W.Told.outside l.world)
