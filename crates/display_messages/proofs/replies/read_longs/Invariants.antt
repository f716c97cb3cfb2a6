use Rattle.std.proofs.Common.{◌≡◌, ◌≤◌, ◌*◌, ◌-◌, ◌++◌, length}
use Rattle.display_messages.specs.Places.{longs_in}
use Rattle.display_messages.proofs.replies.read_longs.Given as goal

abbrev pub invariant-loop-taken : goal.invariant-loop-taken
invariant-loop-taken l = (l.numbers ++ longs_in (l.count - l._taken) l.rest ≡ longs_in l.count l.bytes) × (4 * (l.count - l._taken) ≤ length l.rest)
