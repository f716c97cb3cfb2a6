use Rattle.std.proofs.Common.{◌≡◌, drop}
use Rattle.std.specs.List.{list_any}
use Rattle.checkpoint_records.specs.Books.{same_command, discards, entries_in, names}
use Rattle.checkpoint_records.proofs.sameness.names.Given as goal

abbrev pub invariant-loop-other : goal.invariant-loop-other
invariant-loop-other l = list_any (same_command l.command) (discards (entries_in (drop l.other-index l.other-items))) ≡ names l.book l.command
