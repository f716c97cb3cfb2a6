use Rattle.std.proofs.Common.{◌≡◌, ◌++◌, drop}
use Rattle.checkpoint_records.specs.Rules.{ids_of}
use Rattle.manager_machine.proofs.opening.ids_in.Given as goal

abbrev pub invariant-loop-entry : goal.invariant-loop-entry
invariant-loop-entry l = l.ids.items ++ ids_of (drop l.entry-index l.entries) ≡ ids_of l.entries
