use Rattle.std.proofs.Common.{◌≡◌, length}
use Rattle.checkpoint_records.specs.Finding.{AreInFront}
use Rattle.checkpoint_records.specs.Parts.{AreEntriesBehind}
use Rattle.checkpoint_records.specs.Spelling.{entry_cells}
use Rattle.checkpoint_records.proofs.entries.take_entries.Given as goal

abbrev pub invariant-loop-i : goal.invariant-loop-i
invariant-loop-i l = AreInFront entry_cells (AreEntriesBehind l.epoch l.sessions) l.bytes l.entries l.rest × (length l.entries ≡ l._i)
