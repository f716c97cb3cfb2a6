use Rattle.std.proofs.Common.{sym}
use Rattle.checkpoint_changes.proofs.FoundLaws.{with_here, with_later, with_none}
use Rattle.checkpoint_changes.proofs.applying.session_with.Goals as goal

pub returns-then-has_entry : goal.returns-then-has_entry
returns-then-has_entry c =
    with_here c.args.id.now c.args.sessions.now c.loop-session.session-index c.session-item.result c.as_slice.result.now c.in_ok-copy.field-0 c.loop-session-test.true c.session-item.is c.as_slice.ensures
    (sym c.if-has_entry.ensures) c.in_ok-copy.ensures c.loop-session.invariant

pub loop-session-preserved : goal.loop-session-preserved
loop-session-preserved c =
    with_later c.args.id.now c.args.sessions.now c.loop-session.session-index c.session-item.result c.as_slice.result.now c.loop-session-test.true c.session-item.is c.as_slice.ensures (sym c.if-has_entry.ensures) c.loop-session.invariant

pub returns : goal.returns
returns c = with_none c.args.id.now c.args.sessions.now c.loop-session.session-index c.loop-session-test.false c.loop-session.invariant
