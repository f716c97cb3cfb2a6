-- What the words of a command line are.
use Rattle.std.proofs.Common.{◌≡◌, ℕ, true, List, [], ◌∷◌, drop, length, get_or, Option, Some, None, refl, sym, ◌∙◌, ap, arith, codes}
use Rattle.std.specs.Prelude.{◌≢◌, MatchOption}
use Rattle.std.specs.Str.{bytes_eq}
use Rattle.std.proofs.lemmas.Slice.Eq.{bytes_eq-Decides}
use Rattle.ice_values.specs.declared.numbers.Endian.{Endian}
use Rattle.smrelay_app.specs.Words.{order_word}

same_word : (xs ys : List ℕ) → bytes_eq xs ys ≡ true → xs ≡ ys
same_word xs ys e = (bytes_eq-Decides xs ys).0 e

-- a list of two words, by its words
two : (ws : List (List ℕ)) → length ws ≡ 2 → ws ≡ get_or ws 0 [] ∷ get_or ws 1 [] ∷ []
two [] e = absurd (omega arith)
two (a ∷ []) e = absurd (omega arith)
two (a ∷ b ∷ []) e = refl
two (a ∷ b ∷ c ∷ ws) e = absurd (omega arith)

are_rehearse : (ws : List (List ℕ)) (order : Endian) → length ws ≡ 2 → bytes_eq (get_or ws 0 []) (codes "rehearse") ≡ true → get_or ws 1 [] ≡ order_word order → ws ≡ codes "rehearse" ∷ order_word order ∷ []
are_rehearse ws order size first second = two ws size ∙ (ap (λ w. w ∷ get_or ws 1 [] ∷ []) (same_word _ _ first) ∙ ap (λ w. codes "rehearse" ∷ w ∷ []) second)

-- where the second word names an order, or none
pub match_rehearse : (ws : List (List ℕ)) (word : List ℕ) (found : Option Endian) → length ws ≡ 2 → bytes_eq (get_or ws 0 []) (codes "rehearse") ≡ true → get_or ws 1 [] ≡ word → MatchOption found ((order : Endian) → word ≢ order_word order) (λ order. word ≡ order_word order) → MatchOption found ((order : Endian) → ws ≢ codes "rehearse" ∷ order_word order ∷ []) (λ order. ws ≡ codes "rehearse" ∷ order_word order ∷ [])
match_rehearse ws word None size first second none = λ order is. none order (sym second ∙ ap (λ words. get_or words 1 []) is)
match_rehearse ws word (Some order) size first second is = are_rehearse ws order size first (second ∙ is)

-- the words are `serve` and six more
pub begins_serve : (ws : List (List ℕ)) → length ws ≡ 7 → bytes_eq (get_or ws 0 []) (codes "serve") ≡ true → ws ≡ codes "serve" ∷ drop 1 ws
begins_serve [] e first = absurd (omega arith)
begins_serve (w ∷ ws) e first = ap (λ v. v ∷ ws) (same_word w (codes "serve") first)

-- What is no Some is None.
pub not_some : {A N : Type 0} (S : A → Type 0) (found : Option A) → MatchOption found N S → ((x : A) → found ≡ Some x → ⊥) → N
not_some S None none other = none
not_some S (Some x) some other = absurd (other x refl)
