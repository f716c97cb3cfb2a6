use Rattle.std.proofs.Common.{◌≡◌, ◌≤◌, ◌+◌, length, take}
use Rattle.std.specs.Prelude.{vec_len, vec_capacity}
use Rattle.round_agreement.specs.Agreement.{owing}
use Rattle.round_agreement.proofs.round.Round.cancel.Given as goal

abbrev pub invariant-loop-member : goal.invariant-loop-member
invariant-loop-member l = record {
  kept : l.left.items ≡ owing (take l.member-index l.member-items);
  room : vec_len l.left + length l.member-items ≤ vec_capacity l.left + l.member-index;
}
