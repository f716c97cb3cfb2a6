use Rattle.std.proofs.Common.{◌≡◌, ◌++◌, drop}
use Rattle.checkpoint_records.specs.Books.{sessions}
use Rattle.checkpoint_changes.specs.Differences.{all_placed}
use Rattle.checkpoint_changes.proofs.differences.put_into_each.Given as goal

abbrev pub invariant-loop-session : goal.invariant-loop-session
invariant-loop-session l = l.delta ++ all_placed (sessions l.old) (drop l.session-index l.sessions) ≡ l.fn.delta ++ all_placed (sessions l.old) l.sessions
