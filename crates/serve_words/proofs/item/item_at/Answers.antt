use Rattle.std.proofs.Common.{arith, ap, sym, ◌∙◌, ◌∷◌, [], ℕ, List, get_or, map, string_bytes}
use Rattle.std.proofs.lemmas.List.{length-map}
use Rattle.serve_words.specs.Items.{Private, Quirks, private_name, quirks_name}
use Rattle.serve_words.proofs.Fronts.{same, stands_alone}
use Rattle.serve_words.proofs.item.item_at.Goals as goal

pub returns-then-is_word : goal.returns-then-is_word
returns-then-is_word c =
    let ws = map string_bytes c.args.words.now in
    stands_alone Private ws c.args.at (ap (λ (name : List ℕ). name ∷ []) (sym (same (get_or ws c.args.at []) private_name (sym c.is_word.ensures ∙ c.if-is_word.true)))) tt (omega (arith, c.requires, length-map c.args.words.now string_bytes))

pub returns-then-is_word-2 : goal.returns-then-is_word-2
returns-then-is_word-2 c =
    let ws = map string_bytes c.args.words.now in
    stands_alone Quirks ws c.args.at (ap (λ (name : List ℕ). name ∷ []) (sym (same (get_or ws c.args.at []) quirks_name (sym c.is_word-2.ensures ∙ c.if-is_word-2.true)))) tt (omega (arith, c.requires, length-map c.args.words.now string_bytes))
