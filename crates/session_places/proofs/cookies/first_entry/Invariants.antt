use Rattle.std.proofs.Common.{◌≡◌, drop, find}
use Rattle.session_places.specs.Authority.{lets_in}
use Rattle.session_places.proofs.cookies.first_entry.Given as goal

abbrev pub invariant-loop-entry : goal.invariant-loop-entry
invariant-loop-entry l = find (lets_in l.network) l.entries ≡ find (lets_in l.network) (drop l.entry-index l.entries)
