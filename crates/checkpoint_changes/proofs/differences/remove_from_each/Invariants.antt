use Rattle.std.proofs.Common.{◌≡◌, ◌++◌, drop}
use Rattle.checkpoint_records.specs.Books.{sessions}
use Rattle.checkpoint_changes.specs.Differences.{all_gone}
use Rattle.checkpoint_changes.proofs.differences.remove_from_each.Given as goal

abbrev pub invariant-loop-session : goal.invariant-loop-session
invariant-loop-session l = l.delta ++ all_gone (drop l.session-index l.sessions) (sessions l.new) ≡ l.fn.delta ++ all_gone l.sessions (sessions l.new)
