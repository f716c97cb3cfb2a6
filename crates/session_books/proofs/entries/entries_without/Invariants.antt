use Rattle.std.proofs.Common.{◌≡◌, ◌++◌, drop, filter, not}
use Rattle.session_model.specs.Tables.{is_of}
use Rattle.session_books.proofs.entries.entries_without.Given as goal

abbrev pub invariant-loop-entry : goal.invariant-loop-entry
invariant-loop-entry l = l.entries ++ filter (λ entry. not (is_of l.id entry)) (drop l.entry-index l.entry-items) ≡ filter (λ entry. not (is_of l.id entry)) l.book.entries
