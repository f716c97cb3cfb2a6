use Rattle.std.proofs.Common.{◌≡◌, ◌++◌, drop}
use Rattle.checkpoint_records.specs.Books.{discards, entries_in}
use Rattle.checkpoint_records.proofs.pending.discards_in.Given as goal

abbrev pub invariant-loop-session : goal.invariant-loop-session
invariant-loop-session l = l.commands ++ discards (entries_in (drop l.session-index l.sessions)) ≡ discards (entries_in l.sessions)
