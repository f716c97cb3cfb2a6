use Rattle.checkpoint_changes.proofs.FoundLaws.{put_none, put_some}
use Rattle.checkpoint_changes.proofs.applying.put.Goals as goal

pub returns-in_ok-next-in-Some : goal.returns-in_ok-next-in-Some
returns-in_ok-next-in-Some c =
    put_some c.args.book c.in_ok-sessions.sessions c.in_ok-sessions.ensures c.args.session c.args.entry c.in_ok-name.name c.in-Some.sessions c.in_ok-next-in-Some.next
    (rw c.in-Some.is at c.in_ok-sessions-2.ensures) c.in_ok-name.ensures c.in_ok-next-in-Some.ensures

pub returns-in-None : goal.returns-in-None
returns-in-None c = put_none c.args.book c.in_ok-sessions.sessions c.in_ok-sessions.ensures c.args.session c.args.entry (rw c.in-None.is at c.in_ok-sessions-2.ensures)
