use Rattle.std.proofs.Common.{Option}
use Rattle.adopted_words.specs.Rules.{GivesRule}
use Rattle.adopted_words.specs.declared.rules.Rule.{Rule}
use Rattle.adopted_words.proofs.FileLaws.{bad_here, next_reading}
use Rattle.adopted_words.proofs.files.read_rules.Goals as goal

pub returns-in-Err-BadLine-clause-bad : goal.returns-in-Err-BadLine-clause-bad
returns-in-Err-BadLine-clause-bad c =
    let none : (given : Option Rule) → ¬ (GivesRule c.next_line.result.0.now given) = rw c.in-Err-BadLine.field-0-is at c.in-Err-BadLine.ensures.refused in
    bad_here c.args.text.now c.loop-left.left.now c.next_line.result.0.now c.next_line.result.1.now c.loop-left.rules c.loop-left.number c.loop-left.invariant c.next_line.ensures.lines none

pub loop-left-preserved : goal.loop-left-preserved
loop-left-preserved c =
    next_reading c.args.text.now c.loop-left.left.now c.next_line.result.0.now c.next_line.result.1.now c.loop-left.rules c.in-Ok.ensures.taken.0 c.take_line.new.rules c.loop-left.number c.loop-left.invariant c.next_line.ensures.lines c.next_line.ensures.shorter c.in-Ok.ensures.taken.1 c.in-Ok.ensures.taken.2
