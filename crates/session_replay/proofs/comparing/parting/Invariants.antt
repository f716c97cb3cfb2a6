use Rattle.std.proofs.Common.{take}
use Rattle.control_lines.specs.Lines.{lines_of}
use Rattle.session_engine.specs.Doing.{items}
use Rattle.session_in_memory.specs.Lines.{run_lines}
use Rattle.session_replay.specs.Comparing.{GoesOn}
use Rattle.session_replay.proofs.comparing.parting.Given as goal

abbrev pub invariant-loop-effect : goal.invariant-loop-effect
invariant-loop-effect l = GoesOn (run_lines (items (take l.effect-index l.effects))) (lines_of l.text) (lines_of l.left)
