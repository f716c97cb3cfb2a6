use Rattle.std.proofs.Common.{◌≡◌, ◌++◌, map, drop}
use Rattle.checkpoint_changes.specs.declared.changes.Change.TheVariants.{Put}
use Rattle.checkpoint_changes.proofs.differences.put_all.Given as goal

abbrev pub invariant-loop-entry : goal.invariant-loop-entry
invariant-loop-entry l = l.delta ++ map (λ entry. Put l.name entry) (drop l.entry-index l.entries) ≡ l.fn.delta ++ map (λ entry. Put l.name entry) l.entries
