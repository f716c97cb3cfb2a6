use Rattle.std.proofs.Common.{◌≡◌, drop, find}
use Rattle.smclient_app.specs.Entries.{lets_in}
use Rattle.smclient_app.proofs.entries.first_entry.Given as goal

abbrev pub invariant-loop-entry : goal.invariant-loop-entry
invariant-loop-entry l = find (lets_in l.end) l.entries ≡ find (lets_in l.end) (drop l.entry-index l.entries)
