use Rattle.std.proofs.Common.{◌≡◌, ◌-◌}
use Rattle.ice_values.specs.Reading.{many_at}
use Rattle.ice_values.proofs.ListLaws.{with_front}
use Rattle.ice_values.proofs.spelled.take_many.Given as goal

abbrev pub invariant-loop-i : goal.invariant-loop-i
invariant-loop-i g l = with_front l.items (many_at (g.T.Spelled.front l.endian) (l.count - l._i) l.rest) ≡ many_at (g.T.Spelled.front l.endian) l.count l.bytes
