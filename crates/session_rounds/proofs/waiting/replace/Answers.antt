use Rattle.std.proofs.Common.{sym, arith}
use Rattle.session_rounds.proofs.Asking.{placed-at}
use Rattle.session_rounds.proofs.waiting.replace.Goals as goal

pub returns-then-is_sender : goal.returns-then-is_sender
returns-then-is_sender c = placed-at c.args.conn c.args.request _ c.loop-wait.wait-items c.args.waits.now c.loop-wait.wait-index (omega arith) (sym c.if-is_sender.ensures) c.loop-wait.invariant.placed
