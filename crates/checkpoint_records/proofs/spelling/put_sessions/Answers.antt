use Rattle.std.proofs.Common.{◌≡◌, ◌++◌, List, subst}
use Rattle.ice_values.specs.Cells.{zeros}
use Rattle.ice_values.proofs.WriteLaws.{adds_item}
use Rattle.checkpoint_records.specs.declared.records.Entry.{Entry}
use Rattle.checkpoint_records.proofs.SpellLaws.{session_cells}
use Rattle.checkpoint_records.proofs.spelling.put_sessions.Goals as goal

pub loop-session-preserved : goal.loop-session-preserved
loop-session-preserved c =
    adds_item session_cells c.args.sessions.now c.loop-session.session-index c.session-item.result c.args.out.now c.loop-session.out c.put_session.new.out c.loop-session-test.true c.session-item.is c.loop-session.invariant
    (subst (λ (es : List Entry). c.put_session.new.out ≡ c.loop-session.out ++ zeros (session_cells (record { name = c.session-item.result.name; entries = es }))) c.as_slice.ensures c.in_ok-put_session.ensures)
