use Rattle.std.proofs.Common.{◌≡◌, ◌++◌, [], drop, filter_map}
use Rattle.round_agreement.specs.Agreement.{conns_of}
use Rattle.session_model.specs.Books.{new_entry}
use Rattle.session_books.specs.Plans.{seen}
use Rattle.session_books.proofs.entries.add_new.Given as goal

abbrev pub invariant-loop-place : goal.invariant-loop-place
invariant-loop-place l =
    l.entries ++ filter_map (new_entry (seen l.clients l.book [])) (drop l.place l.members)
    ≡ l.initial.entries ++ filter_map (new_entry (seen l.clients l.book [])) (conns_of l.round.members)
