use Rattle.std.proofs.Common.{◌≡◌, ◌++◌, drop}
use Rattle.checkpoint_records.specs.Books.{discards}
use Rattle.checkpoint_records.proofs.pending.add_discards.Given as goal

abbrev pub invariant-loop-entry : goal.invariant-loop-entry
invariant-loop-entry l = l.commands ++ discards (drop l.entry-index l.entries) ≡ l.fn.commands ++ discards l.entries
