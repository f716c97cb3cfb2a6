use Rattle.std.proofs.Common.{◌≡◌, ◌++◌, drop}
use Rattle.checkpoint_records.specs.Books.{all_entries, discards, entries_in}
use Rattle.checkpoint_records.proofs.pending.all_discards.Given as goal

abbrev pub invariant-loop-other : goal.invariant-loop-other
invariant-loop-other l = l.commands ++ discards (entries_in (drop l.other-index l.other-items)) ≡ discards (all_entries l.book)
