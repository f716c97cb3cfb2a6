use Rattle.std.proofs.Common.{◌≡◌, length, map, string_bytes, sym, ◌∙◌}
use Rattle.std.proofs.lemmas.List.{length-map}
use Rattle.store_report.proofs.Asking.{are_three, are_four}
use Rattle.store_report.proofs.words.read_check.Goals as goal
use Rattle.store_report.proofs.words.read_check.Goals.{else-words-ne3-via-then-words-ne3+else-words-ne4, else-words-ne3-via-else-words-ne3}

pub returns-then-words-eq3 : goal.returns-then-words-eq3
returns-then-words-eq3 c =
    are_three (map string_bytes c.args.words.now) c.store_of-store.result.now (length-map c.args.words.now string_bytes ∙ c.if-words-eq3.true) (sym c.is_word.ensures ∙ c.if-not-is_word.false) (sym c.is_word-2.ensures ∙ c.if-not-is_word-2.false) c.store_of-store.ensures

pub returns : goal.returns
returns c =
    let size : length c.args.words.now ≡ 4 = elim c.else-words-ne3.branch [
      | else-words-ne3-via-then-words-ne3+else-words-ne4 w ↦ w.if-words-ne4.false
      | else-words-ne3-via-else-words-ne3 w ↦ absurd (c.if-words-eq3.false w.if-words-ne3.false)
    ] in
    are_four (map string_bytes c.args.words.now) c.store_of-store.result.now (length-map c.args.words.now string_bytes ∙ size) (sym c.is_word.ensures ∙ c.if-not-is_word.false) (sym c.is_word-2.ensures ∙ c.if-not-is_word-2.false) (sym c.is_word-3.ensures ∙ c.if-not-is_word-3.false) c.store_of-store.ensures
