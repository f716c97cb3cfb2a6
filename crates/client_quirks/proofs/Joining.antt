-- Pieces one behind the other.
use Rattle.std.proofs.Common.{◌≡◌, ℕ, ◌+◌, ◌<◌, List, [], ◌∷◌, ◌++◌, length, take, get_or, sym, ap, ◌∙◌, append_assoc, append-nil}
use Rattle.std.specs.List.{concat}
use Rattle.std.proofs.lemmas.List.Folds.{concat-append}
use Rattle.std.proofs.lemmas.List.{take_more}

pub concat-push : (pieces : List (List ℕ)) (piece : List ℕ) → concat (pieces ++ piece ∷ []) ≡ concat pieces ++ piece
concat-push pieces piece = concat-append pieces (piece ∷ []) ∙ ap (λ (bytes : List ℕ). concat pieces ++ bytes) (append-nil piece)

pub joined_more : (pieces : List (List ℕ)) (i : ℕ) (item piece bytes grown : List ℕ) → i < length pieces → item ≡ get_or pieces i item → piece ≡ item → bytes ≡ concat (take i pieces) → grown ≡ bytes ++ piece → grown ≡ concat (take (i + 1) pieces)
joined_more pieces i item piece bytes grown there is same was grows =
    grows ∙ ap (λ (front : List ℕ). front ++ piece) was ∙ ap (λ (back : List ℕ). concat (take i pieces) ++ back) (same ∙ is)
    ∙ sym (concat-push (take i pieces) (get_or pieces i item)) ∙ ap concat (sym (take_more pieces i item there))

pub cut_more : (list grown : List (List ℕ)) (rest front left piece whole : List ℕ) → concat list ++ rest ≡ whole → grown ≡ list ++ piece ∷ [] → piece ≡ front → front ++ left ≡ rest → concat grown ++ left ≡ whole
cut_more list grown rest front left piece whole going grows is parts =
    ap (λ (pieces : List (List ℕ)). concat pieces ++ left) grows ∙ ap (λ (bytes : List ℕ). bytes ++ left) (concat-push list piece)
    ∙ append_assoc (concat list) piece left ∙ ap (λ (bytes : List ℕ). concat list ++ (bytes ++ left)) is ∙ ap (λ (bytes : List ℕ). concat list ++ bytes) parts ∙ going
