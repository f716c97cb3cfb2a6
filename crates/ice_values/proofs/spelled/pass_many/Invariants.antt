use Rattle.std.proofs.Common.{◌≡◌, ◌-◌}
use Rattle.ice_values.specs.Reading.{many_at, rest_of}
use Rattle.ice_values.proofs.spelled.pass_many.Given as goal

abbrev pub invariant-loop-passed : goal.invariant-loop-passed
invariant-loop-passed g l = rest_of (many_at (g.T.Spelled.front l.endian) (l.count - l._passed) l.rest) ≡ rest_of (many_at (g.T.Spelled.front l.endian) l.count l.bytes)
