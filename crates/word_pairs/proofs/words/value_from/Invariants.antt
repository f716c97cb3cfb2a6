use Rattle.std.proofs.Common.{◌≡◌, length, ◌-◌, map, string_bytes}
use Rattle.word_pairs.proofs.Pairing.{value_from}
use Rattle.word_pairs.proofs.words.value_from.Given as goal

-- No pair before this place has the name.
abbrev pub invariant-loop-at : goal.invariant-loop-at
invariant-loop-at l = value_from (map string_bytes l.words) l.from l.name ≡ value_from (map string_bytes l.words) l.at l.name

abbrev pub decreases-loop-at : goal.decreases-loop-at
decreases-loop-at l = length l.words - l.at
