-- How long the changes between two books are.
use Rattle.std.specs.Prelude.{◌≡◌, List, length}
use Rattle.checkpoint_changes.specs.Amendments.{delta_bytes}
use Rattle.checkpoint_changes.specs.Changes.{change_cells}
use Rattle.checkpoint_changes.specs.Plain.{IsPlain}
use Rattle.checkpoint_changes.specs.declared.changes.Change.{Change}
use Rattle.checkpoint_records.specs.declared.head.Format.TheVariants.{Several}
use Rattle.checkpoint_records.specs.declared.records.Book.{Book}

-- two plain deltas of the same books have the same number of bytes
abbrev pub PlainDeltasAreAsLong : Type 0
PlainDeltasAreAsLong =
    (old new : Book) (one two : List Change) → IsPlain old new one → IsPlain old new two → length (delta_bytes (change_cells Several) one) ≡ length (delta_bytes (change_cells Several) two)
