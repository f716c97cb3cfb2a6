use Rattle.std.proofs.Common.{◌≡◌, ◌++◌, take}
use Rattle.shown_text.specs.Shown.{words_text}
use Rattle.shown_text.proofs.shown.put_words.Given as goal

abbrev pub invariant-loop-word : goal.invariant-loop-word
invariant-loop-word l = l.out ≡ l.fn.out ++ words_text (take l.word-index l.words)
