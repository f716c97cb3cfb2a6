use Rattle.std.proofs.Common.{rules, arith}
use Rattle.manager_machine.proofs.Counted.{raised-at}
use Rattle.manager_machine.proofs.connections.raise.Goals as goal

pub returns-then-eq : goal.returns-then-eq
returns-then-eq c = raised-at c.args.id.now c.loop-other.other-items c.args.counts.now c.loop-other.other-index c.in_ok-count.field-0 c.other-item.result (omega arith) (search rules) c.in_ok-count.ensures c.loop-other.invariant.raised
