use Rattle.std.proofs.Common.{◌≡◌, ◌++◌, drop}
use Rattle.checkpoint_records.specs.Books.{all_entries, entries_in}
use Rattle.session_return.proofs.entries.entries_in_all.Given as goal

abbrev pub invariant-loop-other : goal.invariant-loop-other
invariant-loop-other l = l.list ++ entries_in (drop l.other-index l.other-items) ≡ all_entries l.book
