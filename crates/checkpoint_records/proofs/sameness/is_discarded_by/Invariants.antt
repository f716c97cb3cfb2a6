use Rattle.std.proofs.Common.{◌≡◌, drop}
use Rattle.std.specs.List.{list_any}
use Rattle.checkpoint_records.specs.Books.{same_command, discards}
use Rattle.checkpoint_records.proofs.sameness.is_discarded_by.Given as goal

abbrev pub invariant-loop-entry : goal.invariant-loop-entry
invariant-loop-entry l = list_any (same_command l.command) (discards (drop l.entry-index l.entries)) ≡ list_any (same_command l.command) (discards l.entries)
