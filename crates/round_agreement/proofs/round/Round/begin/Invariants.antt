use Rattle.std.proofs.Common.{◌≡◌, take}
use Rattle.round_agreement.specs.Agreement.{all_saving}
use Rattle.round_agreement.proofs.round.Round.begin.Given as goal

abbrev pub invariant-loop-conn : goal.invariant-loop-conn
invariant-loop-conn l = l.members.items ≡ all_saving (take l.conn-index l.conn-items)
