-- Words that are one text.
use Rattle.std.proofs.Common.{◌≡◌, ℕ, Bool, List, [], ◌∷◌, length, get_or, map, IsTrue, String, Global, string_bytes, sym, ◌∙◌, ap, arith}
use Rattle.std.specs.Bool.{Decides}

one_word : (words : List (String Global)) (word : String Global) → length words ≡ 1 → word ≡ get_or words 0 word → words ≡ word ∷ []
one_word [] word one is = absurd (omega arith)
one_word (w ∷ []) word one is = ap (λ v. v ∷ []) (sym is)
one_word (w ∷ v ∷ words) word one is = absurd (omega arith)

same_word : (xs ys : List ℕ) → ◌≡◌ {A = List (List ℕ)} (xs ∷ []) (ys ∷ []) → xs ≡ ys
same_word xs ys e = cc

-- a list of one word is that text exactly where its word spells it
pub is_one_word : (words : List (String Global)) (word : String Global) (spelled text : List ℕ) (same : Bool) → length words ≡ 1 → word ≡ get_or words 0 word → spelled ≡ string_bytes word → Decides same (spelled ≡ text) → (IsTrue same → map string_bytes words ≡ text ∷ []) × (map string_bytes words ≡ text ∷ [] → IsTrue same)
is_one_word words word spelled text same one is spells decides =
    let all : map string_bytes words ≡ spelled ∷ [] = ap (map string_bytes) (one_word words word one is) ∙ ap (λ xs. xs ∷ []) (sym spells) in
    ((λ yes. all ∙ ap (λ xs. xs ∷ []) (decides.0 yes)), (λ are. decides.1 (same_word spelled text (sym all ∙ are))))
