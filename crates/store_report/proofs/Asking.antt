-- What words ask of a store.
use Rattle.std.proofs.Common.{◌≡◌, ℕ, true, false, List, [], ◌∷◌, length, get_or, refl, sym, ◌∙◌, ap, arith, codes}
use Rattle.std.specs.Str.{bytes_eq}
use Rattle.std.proofs.lemmas.Slice.Eq.{bytes_eq-Decides}
use Rattle.store_report.specs.Words.{check_words, sessions_words}

same_word : (xs ys : List ℕ) → bytes_eq xs ys ≡ true → xs ≡ ys
same_word xs ys e = (bytes_eq-Decides xs ys).0 e

three : (ws : List (List ℕ)) → length ws ≡ 3 → ws ≡ get_or ws 0 [] ∷ get_or ws 1 [] ∷ get_or ws 2 [] ∷ []
three [] e = absurd (omega arith)
three (a ∷ []) e = absurd (omega arith)
three (a ∷ b ∷ []) e = absurd (omega arith)
three (a ∷ b ∷ c ∷ []) e = refl
three (a ∷ b ∷ c ∷ d ∷ ws) e = absurd (omega arith)

four : (ws : List (List ℕ)) → length ws ≡ 4 → ws ≡ get_or ws 0 [] ∷ get_or ws 1 [] ∷ get_or ws 2 [] ∷ get_or ws 3 [] ∷ []
four [] e = absurd (omega arith)
four (a ∷ []) e = absurd (omega arith)
four (a ∷ b ∷ []) e = absurd (omega arith)
four (a ∷ b ∷ c ∷ []) e = absurd (omega arith)
four (a ∷ b ∷ c ∷ d ∷ []) e = refl
four (a ∷ b ∷ c ∷ d ∷ f ∷ ws) e = absurd (omega arith)

-- three words, or four, that have the right ones in their places
pub are_three : (ws : List (List ℕ)) (store : List ℕ) → length ws ≡ 3 → bytes_eq (get_or ws 0 []) (codes "store-check") ≡ true → bytes_eq (get_or ws 1 []) (codes "--store") ≡ true → store ≡ get_or ws 2 [] → ws ≡ check_words store false
are_three ws store size first second third =
    three ws size ∙ (ap (λ w. w ∷ get_or ws 1 [] ∷ get_or ws 2 [] ∷ []) (same_word _ _ first) ∙ (ap (λ w. codes "store-check" ∷ w ∷ get_or ws 2 [] ∷ []) (same_word _ _ second)
    ∙ ap (λ w. codes "store-check" ∷ codes "--store" ∷ w ∷ []) (sym third)))

pub are_four : (ws : List (List ℕ)) (store : List ℕ) → length ws ≡ 4 → bytes_eq (get_or ws 0 []) (codes "store-check") ≡ true → bytes_eq (get_or ws 1 []) (codes "--store") ≡ true → bytes_eq (get_or ws 3 []) (codes "--json") ≡ true → store ≡ get_or ws 2 [] → ws ≡ check_words store true
are_four ws store size first second fourth third =
    four ws size ∙ (ap (λ w. w ∷ get_or ws 1 [] ∷ get_or ws 2 [] ∷ get_or ws 3 [] ∷ []) (same_word _ _ first) ∙ (ap (λ w. codes "store-check" ∷ w ∷ get_or ws 2 [] ∷ get_or ws 3 [] ∷ []) (same_word _ _ second)
    ∙ (ap (λ w. codes "store-check" ∷ codes "--store" ∷ w ∷ get_or ws 3 [] ∷ []) (sym third) ∙ ap (λ w. codes "store-check" ∷ codes "--store" ∷ store ∷ w ∷ []) (same_word _ _ fourth))))

pub are_sessions : (ws : List (List ℕ)) (store : List ℕ) → length ws ≡ 3 → bytes_eq (get_or ws 0 []) (codes "sessions") ≡ true → bytes_eq (get_or ws 1 []) (codes "--store") ≡ true → store ≡ get_or ws 2 [] → ws ≡ sessions_words store
are_sessions ws store size first second third =
    three ws size ∙ (ap (λ w. w ∷ get_or ws 1 [] ∷ get_or ws 2 [] ∷ []) (same_word _ _ first) ∙ (ap (λ w. codes "sessions" ∷ w ∷ get_or ws 2 [] ∷ []) (same_word _ _ second)
    ∙ ap (λ w. codes "sessions" ∷ codes "--store" ∷ w ∷ []) (sym third)))
