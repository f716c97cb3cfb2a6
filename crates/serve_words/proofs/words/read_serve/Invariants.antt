use Rattle.std.proofs.Common.{length, ◌-◌, drop, map, string_bytes}
use Rattle.serve_words.specs.Words.{chosen_of}
use Rattle.serve_words.specs.Reading.{none_chosen}
use Rattle.serve_words.proofs.Going.{Agree}
use Rattle.serve_words.proofs.words.read_serve.Given as goal

-- All words behind `serve` say the same as those from this place on, behind what is chosen.
abbrev pub invariant-loop-at : goal.invariant-loop-at
invariant-loop-at l = Agree none_chosen (drop 1 (map string_bytes l.words)) (chosen_of l.serve) (drop l.at (map string_bytes l.words))

abbrev pub decreases-loop-at : goal.decreases-loop-at
decreases-loop-at l = length l.words - l.at
