use Rattle.std.proofs.Common.{◌≡◌, List, ℕ, map, string_bytes, length, sym, ◌∙◌, arith}
use Rattle.std.proofs.lemmas.List.{length-map}
use Rattle.word_pairs.proofs.Beginning.{begins, begins_back}
use Rattle.word_pairs.proofs.words.begin_with.Goals as goal

pub returns-then-not-is_empty : goal.returns-then-not-is_empty
returns-then-not-is_empty c =
    let ws : List (List ℕ) = map string_bytes c.args.words.now in
    let some : length ws ≡ 0 → ⊥ = λ none. grind (arith, none, length-map c.args.words.now string_bytes, c.is_empty.ensures, c.if-not-is_empty.true) in
    ((λ is. begins ws c.args.first.now some (sym c.is_word.ensures ∙ is)), (λ are. c.is_word.ensures ∙ begins_back ws c.args.first.now are))
