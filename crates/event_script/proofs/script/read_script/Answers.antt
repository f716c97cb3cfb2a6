use Rattle.std.proofs.Common.{arith}
use Rattle.std.proofs.lemmas.Bool.{false≢true}
use Rattle.event_script.proofs.ScriptLemmas.{next_reading, all_read}
use Rattle.event_script.proofs.script.read_script.Goals as goal
use Rattle.event_script.proofs.script.read_script.Goals.{else-is_empty-via-then-is_empty+else-script-gt-SCRIPT_LIMIT, else-is_empty-via-else-is_empty}

pub loop-left-preserved : goal.loop-left-preserved
loop-left-preserved c =
    next_reading c.args.taken c.args.script.now c.loop-left.left.now c.next_line.result.0.now c.next_line.result.1.now c.loop-left.events c.in-Ok.ensures.taken.0 c.take_line.new.events c.loop-left.number c.loop-left.invariant c.next_line.ensures.lines c.next_line.ensures.shorter c.in-Ok.ensures.taken.1 c.in-Ok.ensures.taken.2 c.in-Ok.ensures.taken.3
    (λ e. elim c.else-is_empty.branch [
      | else-is_empty-via-then-is_empty+else-script-gt-SCRIPT_LIMIT w ↦ omega arith
      | else-is_empty-via-else-is_empty w ↦ absurd (false≢true (rw e at w.if-is_empty.ensures))
    ])

pub returns-clause-sized : goal.returns-clause-sized
returns-clause-sized c = all_read c.args.taken c.args.script.now c.loop-left.left.now c.loop-left.events c.loop-left.number c.loop-left.invariant
