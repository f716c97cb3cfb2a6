use Rattle.std.proofs.Common.{◌≡◌, map, string_bytes, take}
use Rattle.smnest_app.proofs.words.word_list.Given as goal

abbrev pub invariant-loop-word : goal.invariant-loop-word
invariant-loop-word l = l.list ≡ map string_bytes (take l.word-index l.words)
