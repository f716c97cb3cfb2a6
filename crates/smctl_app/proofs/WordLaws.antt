-- Words in a row, and the socket that stands before them.
use Rattle.std.proofs.Common.{◌≡◌, ℕ, ◌-◌, ◌≤◌, arith, List, [], ◌∷◌, ◌++◌, length, take, drop, slice_index_or, map, Some, refl, sym, ◌∙◌, ap, codes, Bool, false, IsTrue}
use Rattle.std.proofs.lemmas.Bool.{false≢true}
use Rattle.std.proofs.lemmas.List.{take_all}
use Rattle.std.specs.Bool.{Decides}
use Rattle.std.specs.List.{flat_map, join_by}
use Rattle.smctl_app.specs.Requests.{Names}

more_joined : {X : Type 0} (text : X → List ℕ) (space : List ℕ) (words : List X) → flat_map (λ (word : X). space ++ text word) words ≡ flat_map (λ (word : List ℕ). space ++ word) (map text words)
more_joined text space [] = refl
more_joined text space (word ∷ words) = ap (λ (more : List ℕ). (space ++ text word) ++ more) (more_joined text space words)

-- Words are joined as their texts are.
pub texts_joined : {X : Type 0} (text : X → List ℕ) (space : List ℕ) (words : List X) → join_by text space words ≡ join_by (λ (word : List ℕ). word) space (map text words)
texts_joined text space [] = refl
texts_joined text space (word ∷ words) = ap (λ (more : List ℕ). text word ++ more) (more_joined text space words)

-- The first two words are `--control` and a path.
pub named : {X : Type 0} (text : X → List ℕ) (words : List X) (x y : X) (path : List ℕ) → 2 ≤ length words → x ≡ slice_index_or words 0 x → y ≡ slice_index_or words 1 y → text x ≡ codes "--control" → path ≡ text y → Names (map text words) (Some path) (map text (take (length words - 2) (drop 2 words)))
named text [] x y path many first second is_control is_path = absurd (omega (arith, many))
named text (a ∷ []) x y path many first second is_control is_path = absurd (omega (arith, many))
named text (a ∷ b ∷ more) x y path many first second is_control is_path =
    let rest : take (length (a ∷ b ∷ more) - 2) more ≡ more = take_all (length (a ∷ b ∷ more) - 2) more (omega arith) in
    let one : text a ≡ codes "--control" = ap text (sym first) ∙ is_control in
    let two : text b ≡ path = ap text (sym second) ∙ sym is_path in
    rw (one, two, rest) refl

two_words : {X : Type 0} (text : X → List ℕ) (words : List X) (x y : X) → length words ≡ 2 → x ≡ slice_index_or words 0 x → y ≡ slice_index_or words 1 y → map text words ≡ text x ∷ text y ∷ []
two_words text [] x y two one other = absurd (omega (arith, two))
two_words text (a ∷ []) x y two one other = absurd (omega (arith, two))
two_words {X = X} text (a ∷ b ∷ []) x y two one other = ap (λ (word : X). text word ∷ text b ∷ []) (sym one) ∙ ap (λ (word : X). text x ∷ text word ∷ []) (sym other)
two_words text (a ∷ b ∷ c ∷ more) x y two one other = absurd (omega (arith, two))

same_first : (a b : List ℕ) (xs ys : List (List ℕ)) → ◌≡◌ {A = List (List ℕ)} (a ∷ xs) (b ∷ ys) → a ≡ b
same_first a b xs ys e = cc

same_second : (a b c d : List ℕ) → ◌≡◌ {A = List (List ℕ)} (a ∷ b ∷ []) (c ∷ d ∷ []) → b ≡ d
same_second a b c d e = cc

-- Two words, the first of which spells the first text, are both texts exactly where the second spells the second.
pub are_two : {X : Type 0} (text : X → List ℕ) (words : List X) (x y : X) (spelled first second : List ℕ) (same : Bool) → length words ≡ 2 → x ≡ slice_index_or words 0 x → y ≡ slice_index_or words 1 y → text x ≡ first → spelled ≡ text y → Decides same (spelled ≡ second) → (IsTrue same → map text words ≡ first ∷ second ∷ []) × (map text words ≡ first ∷ second ∷ [] → IsTrue same)
are_two text words x y spelled first second same two one other begins spells decides =
    let all : map text words ≡ first ∷ spelled ∷ [] = two_words text words x y two one other ∙ ap (λ (word : List ℕ). word ∷ text y ∷ []) begins ∙ ap (λ (word : List ℕ). first ∷ word ∷ []) (sym spells) in
    ((λ yes. all ∙ ap (λ (word : List ℕ). first ∷ word ∷ []) (decides.0 yes)), (λ are. decides.1 (same_second first spelled first second (sym all ∙ are))))

first_is : {X : Type 0} (text : X → List ℕ) (words : List X) (x : X) (first second : List ℕ) → x ≡ slice_index_or words 0 x → map text words ≡ first ∷ second ∷ [] → text x ≡ first
first_is text [] x first second one are = absurd (omega (arith, ap length are))
first_is text (a ∷ more) x first second one are = ap text one ∙ same_first (text a) first (map text more) (second ∷ []) are

-- Words of which the first spells another text aren't two texts.
pub not_first : {X : Type 0} (text : X → List ℕ) (words : List X) (x : X) (spelled first second : List ℕ) (same : Bool) → x ≡ slice_index_or words 0 x → spelled ≡ text x → Decides same (spelled ≡ first) → same ≡ false → (IsTrue same → map text words ≡ first ∷ second ∷ []) × (map text words ≡ first ∷ second ∷ [] → IsTrue same)
not_first text words x spelled first second same one spells decides other = ((λ yes. absurd (false≢true (sym other ∙ yes))), (λ are. decides.1 (spells ∙ first_is text words x first second one are)))
