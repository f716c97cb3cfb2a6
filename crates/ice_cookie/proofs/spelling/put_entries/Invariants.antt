use Rattle.std.proofs.Common.{◌≡◌, ◌++◌, take}
use Rattle.ice_cookie.specs.Spelling.{list_bytes}
use Rattle.ice_cookie.proofs.spelling.put_entries.Given as goal

abbrev pub invariant-loop-entry : goal.invariant-loop-entry
invariant-loop-entry l = l.out ≡ l.fn.out ++ list_bytes (take l.entry-index l.entries)
