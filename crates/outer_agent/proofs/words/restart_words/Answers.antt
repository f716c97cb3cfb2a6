use Rattle.std.proofs.Common.{ℕ, List, [], ◌∷◌, ◌++◌, codes, ◌∙◌, ap}
use Rattle.outer_agent.proofs.WordLaws.{two_behind}
use Rattle.outer_agent.proofs.words.restart_words.Goals as goal

pub returns : goal.returns
returns c =
    c.in_ok-put_word-2.ensures
    ∙ (ap (λ (words : List (List ℕ)). words ++ c.args.id.now ∷ []) (c.in_ok-put_word.ensures
    ∙ ap (λ (words : List (List ℕ)). words ++ codes "--outer-id" ∷ []) (c.in_ok-put_words.ensures ∙ ap (λ (words : List (List ℕ)). words ++ c.args.command.now) c.in_ok-words.ensures))
    ∙ two_behind (codes "smnest" ∷ []) c.args.command.now (codes "--outer-id") c.args.id.now)
