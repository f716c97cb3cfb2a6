use Rattle.std.proofs.Common.{◌≡◌, drop}
use Rattle.window_follower.specs.Facts.{purpose_in}
use Rattle.window_follower.proofs.reading.read_purpose.Given as goal

-- The first that is known of all is the first that is known of those that are left.
abbrev pub invariant-loop-number : goal.invariant-loop-number
invariant-loop-number l = purpose_in l.atoms l.numbers ≡ purpose_in l.atoms (drop l.number-index l.numbers)
