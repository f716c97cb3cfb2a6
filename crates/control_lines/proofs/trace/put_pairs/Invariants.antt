use Rattle.std.proofs.Common.{◌≡◌, ◌++◌, take}
use Rattle.std.specs.List.{flat_map}
use Rattle.control_lines.specs.Traces.{pair_text}
use Rattle.control_lines.proofs.trace.put_pairs.Given as goal

abbrev pub invariant-loop-pair : goal.invariant-loop-pair
invariant-loop-pair l = l.out ≡ l.initial.out ++ flat_map pair_text (take l.pair-index l.pairs)
