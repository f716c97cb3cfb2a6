use Rattle.std.proofs.Common.{◌≡◌, ◌++◌, drop}
use Rattle.checkpoint_records.specs.Rules.{in_turn}
use Rattle.checkpoint_records.proofs.spelling.in_turn.Given as goal

abbrev pub invariant-loop-name : goal.invariant-loop-name
invariant-loop-name l = l.values ++ in_turn (drop l.name-index l.pairs) ≡ in_turn l.pairs
