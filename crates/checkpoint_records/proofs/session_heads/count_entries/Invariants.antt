use Rattle.std.proofs.Common.{◌≡◌, ◌+◌, drop, length}
use Rattle.checkpoint_records.specs.Books.{entries_in}
use Rattle.checkpoint_records.proofs.session_heads.count_entries.Given as goal

abbrev pub invariant-loop-session : goal.invariant-loop-session
invariant-loop-session l = l.count + length (entries_in (drop l.session-index l.sessions)) ≡ length (entries_in l.sessions)
