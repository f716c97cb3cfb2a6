use Rattle.std.proofs.Common.{◌∙◌, sym}
use Rattle.checkpoint_changes.proofs.EachLaws.{among_here, among_later, among_none}
use Rattle.checkpoint_changes.proofs.differences.entries_among.Goals as goal

pub returns-then-eq : goal.returns-then-eq
returns-then-eq c =
    among_here c.args.name.now c.args.sessions.now c.loop-session.session-index c.session-item.result c.as_slice.result.now c.as_slice-then-eq.result.now c.loop-session-test.true c.session-item.is
    c.as_slice.ensures c.as_slice-then-eq.ensures (sym c.eq.ensures ∙ c.if-eq.true) c.loop-session.invariant

pub loop-session-preserved : goal.loop-session-preserved
loop-session-preserved c =
    among_later c.args.name.now c.args.sessions.now c.loop-session.session-index c.session-item.result c.as_slice.result.now c.loop-session-test.true c.session-item.is c.as_slice.ensures (sym c.eq.ensures ∙ c.if-eq.false) c.loop-session.invariant

pub returns : goal.returns
returns c = among_none c.args.name.now c.args.sessions.now c.loop-session.session-index c.loop-session-test.false c.loop-session.invariant
