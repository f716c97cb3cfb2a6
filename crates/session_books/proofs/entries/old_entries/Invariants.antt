use Rattle.std.proofs.Common.{◌≡◌, ◌++◌, drop, filter_map}
use Rattle.checkpoint_records.specs.Books.{empty_book}
use Rattle.session_model.specs.Books.{next_entry}
use Rattle.session_books.specs.Plans.{seen}
use Rattle.session_books.proofs.entries.old_entries.Given as goal

abbrev pub invariant-loop-place : goal.invariant-loop-place
invariant-loop-place l =
    l.entries ++ filter_map (next_entry (seen l.clients empty_book l.expected) l.round) (drop l.place l.old)
    ≡ filter_map (next_entry (seen l.clients empty_book l.expected) l.round) l.book.entries
