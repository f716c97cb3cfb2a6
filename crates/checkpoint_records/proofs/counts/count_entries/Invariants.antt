use Rattle.std.proofs.Common.{◌≡◌, ◌+◌, length, take}
use Rattle.std.specs.Prelude.{min}
use Rattle.checkpoint_records.specs.Books.{entries_in}
use Rattle.checkpoint_records.proofs.counts.count_entries.Given as goal

abbrev pub invariant-loop-other : goal.invariant-loop-other
invariant-loop-other l = l.count ≡ min (length l.book.entries + length (entries_in (take l.other-index l.other-items))) 18446744073709551615
