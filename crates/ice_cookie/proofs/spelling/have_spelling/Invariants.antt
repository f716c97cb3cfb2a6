use Rattle.std.proofs.Common.{◌↔◌, drop}
use Rattle.ice_cookie.specs.Spelling.{HaveSpelling}
use Rattle.ice_cookie.proofs.spelling.have_spelling.Given as goal

abbrev pub invariant-loop-entry : goal.invariant-loop-entry
invariant-loop-entry l = HaveSpelling (drop l.entry-index l.entries) ↔ HaveSpelling l.entries
