use Rattle.std.proofs.Common.{◌≡◌, ◌++◌, take, drop}
use Rattle.round_agreement.specs.Agreement.{with_second}
use Rattle.round_agreement.proofs.members.set_second.Given as goal

abbrev pub invariant-loop-member : goal.invariant-loop-member
invariant-loop-member l = l.member-items ≡ with_second (take l.member-index l.initial.member-items) ++ drop l.member-index l.initial.member-items
