use Rattle.std.proofs.Common.{◌≡◌, ◌++◌, length}
use Rattle.ice_cookie.specs.Spelling.{list_bytes, HaveSpelling}
use Rattle.ice_cookie.proofs.reading.read_authority.Given as goal

abbrev pub invariant-loop-rest : goal.invariant-loop-rest
invariant-loop-rest l = HaveSpelling l.entries × (l.bytes ≡ list_bytes l.entries ++ l.rest)

abbrev pub decreases-loop-rest : goal.decreases-loop-rest
decreases-loop-rest l = length l.rest
