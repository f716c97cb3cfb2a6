use Rattle.std.proofs.Common.{◌≡◌, ◌++◌, drop}
use Rattle.session_return.proofs.entries.add_entries.Given as goal

abbrev pub invariant-loop-entry : goal.invariant-loop-entry
invariant-loop-entry l = l.list ++ drop l.entry-index l.entries ≡ l.fn.list ++ l.entries
