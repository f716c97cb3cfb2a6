use Rattle.std.proofs.Common.{rules}
use Rattle.ice_values.proofs.OptionLaws.{on_ok_by}
use Rattle.trace_reading.proofs.TellingLemmas.{came, joins, orders, ticks}
use Rattle.trace_reading.proofs.telling.Notes.tell_event.Goals as goal

pub returns-in-Joined : goal.returns-in-Joined
returns-in-Joined c =
    rw (c.in-Joined.is) (on_ok_by c.put_deed.result _ _ (joins c.in-Joined.conn c.args.self.now.clock c.args.brought.now c.args.self.now.programs c.remove.new.self c.args.out.now c.put_deed.new.out (λ q. search rules)) c.put_deed.ensures)

pub returns-in-Piece : goal.returns-in-Piece
returns-in-Piece c =
    rw (c.in-Piece.is) (on_ok_by c.tell_came.result _ _ (came c.in-Piece.conn c.in-Piece.field-1 c.args.brought.now c.args.self.now c.tell_came.new.self c.args.out.now c.tell_came.new.out) c.tell_came.ensures)

pub returns-in-Operator : goal.returns-in-Operator
returns-in-Operator c =
    rw (c.in-Operator.is) (on_ok_by c.put_ordered.result _ _ (orders c.in-Operator.order c.args.self.now c.args.brought.now c.args.out.now c.put_ordered.new.out) c.put_ordered.ensures)

pub returns-in-Tick : goal.returns-in-Tick
returns-in-Tick c =
    rw (c.in-Tick.is) (ticks c.in-Tick.milliseconds c.saturating_add-self.result c.args.brought.now c.args.self.now c.args.out.now (search rules))
