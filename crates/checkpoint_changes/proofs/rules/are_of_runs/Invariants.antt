use Rattle.std.proofs.Common.{drop}
use Rattle.checkpoint_changes.specs.Together.{AreOfRuns}
use Rattle.checkpoint_changes.proofs.rules.are_of_runs.Given as goal

abbrev pub invariant-loop-entry : goal.invariant-loop-entry
invariant-loop-entry l = (AreOfRuns l.epoch (drop l.entry-index l.entries) → AreOfRuns l.epoch l.entries) × (AreOfRuns l.epoch l.entries → AreOfRuns l.epoch (drop l.entry-index l.entries))
