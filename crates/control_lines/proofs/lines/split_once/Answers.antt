use Rattle.control_lines.proofs.Splitting.{without-more, splits_at}
use Rattle.control_lines.proofs.lines.split_once.Goals as goal

pub returns-then-b-byte : goal.returns-then-b-byte
returns-then-b-byte c = splits_at c.args.byte c.args.bytes.now c.loop-i.i c.loop-i-test.true c.loop-i.invariant c.if-b-byte.true

pub loop-i-preserved : goal.loop-i-preserved
loop-i-preserved c = without-more c.args.byte c.args.bytes.now c.loop-i.i c.loop-i-test.true c.loop-i.invariant c.if-b-byte.false
