use Rattle.std.proofs.Common.{◌≡◌, drop}
use Rattle.checkpoint_records.specs.Books.{entries_of}
use Rattle.checkpoint_changes.proofs.differences.entries_among.Given as goal

abbrev pub invariant-loop-session : goal.invariant-loop-session
invariant-loop-session l = entries_of l.name (drop l.session-index l.sessions) ≡ entries_of l.name l.sessions
