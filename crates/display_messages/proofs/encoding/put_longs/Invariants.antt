use Rattle.std.proofs.Common.{◌≡◌, ◌++◌, take}
use Rattle.display_messages.specs.Requests.{longs}
use Rattle.display_messages.proofs.encoding.put_longs.Given as goal

abbrev pub invariant-loop-number : goal.invariant-loop-number
invariant-loop-number l = l.out ≡ l.fn.out ++ longs (take l.number-index l.numbers)
