use Rattle.checkpoint_changes.proofs.FoundLaws.{removed_none, removed_some}
use Rattle.checkpoint_changes.proofs.applying.removed.Goals as goal

pub returns-in_ok-next-in-Some : goal.returns-in_ok-next-in-Some
returns-in_ok-next-in-Some c =
    removed_some c.args.book c.in_ok-sessions.sessions c.in_ok-sessions.ensures c.args.id.now c.in_ok-name.name c.in-Some.sessions c.in_ok-next-in-Some.next
    (rw c.in-Some.is at c.in_ok-sessions-2.ensures) c.in_ok-name.ensures c.in_ok-next-in-Some.ensures

pub returns-in-None : goal.returns-in-None
returns-in-None c = removed_none c.args.book c.in_ok-sessions.sessions c.in_ok-sessions.ensures c.args.id.now (rw c.in-None.is at c.in_ok-sessions-2.ensures)
