use Rattle.std.proofs.Common.{◌≡◌, ◌++◌, take}
use Rattle.ice_values.proofs.words.put_words.Given as goal

abbrev pub invariant-loop-word : goal.invariant-loop-word
invariant-loop-word l = l.words ≡ l.fn.words ++ take l.word-index l.more
