use Rattle.std.proofs.Common.{arith, map, string_bytes, sym, ◌∙◌, ap, Some, ◌≤◌, ◌+◌, length}
use Rattle.std.proofs.lemmas.List.{length-map}
use Rattle.word_pairs.proofs.Pairing.{found_here, found_later, none_left}
use Rattle.word_pairs.proofs.words.value_from.Goals as goal
use Rattle.word_pairs.proofs.words.value_from.Goals.{then-loop-at-test+else-words-at-ge2, else-loop-at-test}

pub returns-then-is_word : goal.returns-then-is_word
returns-then-is_word c =
    let ws = map string_bytes c.args.words.now in
    let few : c.loop-at.at + 2 ≤ length ws = omega (arith, length-map c.args.words.now string_bytes) in
    c.loop-at.invariant ∙ (found_here ws c.loop-at.at c.args.name.now few (sym c.is_word.ensures ∙ c.if-is_word.true) ∙ ap Some (sym c.word_at.ensures))

pub loop-at-preserved : goal.loop-at-preserved
loop-at-preserved c =
    let ws = map string_bytes c.args.words.now in
    let few : c.loop-at.at + 2 ≤ length ws = omega (arith, length-map c.args.words.now string_bytes) in
    c.loop-at.invariant ∙ found_later ws c.loop-at.at c.args.name.now few (sym c.is_word.ensures ∙ c.if-is_word.false)

pub returns : goal.returns
returns c =
    let ws = map string_bytes c.args.words.now in
    c.loop-at.invariant ∙ none_left ws c.loop-at.at c.args.name.now (elim c.loop-at-test.branch [
      | then-loop-at-test+else-words-at-ge2 w ↦ omega (arith, length-map c.args.words.now string_bytes)
      | else-loop-at-test w ↦ omega (arith, length-map c.args.words.now string_bytes)
    ])
