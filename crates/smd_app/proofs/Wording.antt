-- What the words of a command line are.
use Rattle.std.proofs.Common.{◌≡◌, inl, inr, IfOk, MatchOption, Option, Some, None, Result, Ok, Err, ℕ, ◌<◌, ◌≤◌, ◌^◌, true, List, [], ◌∷◌, length, get_or, refl, sym, ◌∙◌, ap, subst, arith, codes}
use Rattle.std.specs.Fmt.{decimal}
use Rattle.std.specs.Str.{bytes_eq}
use Rattle.std.specs.Str.Parse.{digits_value}
use Rattle.std.proofs.lemmas.Fmt.{decimal_is_IsNumeral}
use Rattle.std.proofs.lemmas.Slice.Eq.{bytes_eq-Decides}
use Rattle.checkpoint_records.specs.Books.{default_name}
use Rattle.checkpoint_records.specs.Rules.{IsName}
use Rattle.checkpoint_records.proofs.NameLaws.{default_fits}
use Rattle.smd_app.specs.Words.{IsPatience, IsPatienceOf, IsSessionOf, AreRehearse, AreExercise}

-- a list of three words, by its words
three : (ws : List (List ℕ)) → length ws ≡ 3 → ws ≡ get_or ws 0 [] ∷ get_or ws 1 [] ∷ get_or ws 2 [] ∷ []
three [] e = absurd (omega arith)
three (a ∷ []) e = absurd (omega arith)
three (a ∷ b ∷ []) e = absurd (omega arith)
three (a ∷ b ∷ c ∷ []) e = refl
three (a ∷ b ∷ c ∷ d ∷ ws) e = absurd (omega arith)

same_word : (xs ys : List ℕ) → bytes_eq xs ys ≡ true → xs ≡ ys
same_word xs ys e = (bytes_eq-Decides xs ys).0 e

pub are_exercise : (ws : List (List ℕ)) (pattern rounds : ℕ) → length ws ≡ 3 → bytes_eq (get_or ws 0 []) (codes "exercise") ≡ true → get_or ws 1 [] ≡ decimal pattern → get_or ws 2 [] ≡ decimal rounds → pattern < 2 ^ 64 → 1 ≤ rounds → rounds ≤ 1000 → AreExercise ws pattern rounds
are_exercise ws pattern rounds size first second third small some few = record {
  are = three ws size ∙ (ap (λ w. w ∷ get_or ws 1 [] ∷ get_or ws 2 [] ∷ []) (same_word _ _ first) ∙ (ap (λ w. codes "exercise" ∷ w ∷ get_or ws 2 [] ∷ []) second ∙ ap (λ w. codes "exercise" ∷ decimal pattern ∷ w ∷ []) third));
  small = small;
  some = some;
  few = few;
}

same_number : (n k : ℕ) → n < 2 ^ 64 → k < 2 ^ 64 → decimal n ≡ decimal k → n ≡ k
same_number n k small other e = sym (decimal_is_IsNumeral n small).1 ∙ (ap (digits_value 10) e ∙ (decimal_is_IsNumeral k other).1)

-- the number of rounds is the third word's
pub same_rounds : (ws : List (List ℕ)) (pattern rounds n : ℕ) → AreExercise ws pattern rounds → n < 2 ^ 64 → get_or ws 2 [] ≡ decimal n → rounds ≡ n
same_rounds ws pattern rounds n are small third =
    same_number rounds n (omega (arith, are.few)) small (sym (ap (λ words. get_or words 2 []) are.are) ∙ third)

-- 0 is no patience
pub no_patience : (word : List ℕ) (n patience : ℕ) → word ≡ decimal n → n ≡ 0 → IsPatience patience → word ≡ decimal patience → ⊥
no_patience word n patience is zero_is stated other =
    omega (arith, zero_is, stated.some, same_number patience n stated.small (omega (arith, zero_is)) (sym other ∙ is))

-- a list of two words, by its words
two : (ws : List (List ℕ)) → length ws ≡ 2 → ws ≡ get_or ws 0 [] ∷ get_or ws 1 [] ∷ []
two [] e = absurd (omega arith)
two (a ∷ []) e = absurd (omega arith)
two (a ∷ b ∷ []) e = refl
two (a ∷ b ∷ c ∷ ws) e = absurd (omega arith)

-- The second word states the patience of a rehearsal.
pub rehearse_with : {E : Type 0} (ws : List (List ℕ)) (word : List ℕ) (result : Result (Option ℕ) E) → length ws ≡ 2 → bytes_eq (get_or ws 0 []) (codes "rehearse") ≡ true → word ≡ get_or ws 1 [] → IfOk result (λ found. MatchOption found ((patience : ℕ) → IsPatience patience → word ≡ decimal patience → ⊥) (λ patience. IsPatience patience × (word ≡ decimal patience))) → IfOk result (λ found. MatchOption found ((patience : ℕ) → AreRehearse ws patience → ⊥) (λ patience. AreRehearse ws patience))
rehearse_with ws word (Err e) size first is stated = tt
rehearse_with ws word (Ok (Some n)) size first is stated =
    inr (two ws size ∙ (ap (λ w. w ∷ get_or ws 1 [] ∷ []) (same_word _ _ first) ∙ ap (λ w. codes "rehearse" ∷ w ∷ []) (sym is ∙ stated.1)), stated.0)
rehearse_with ws word (Ok None) size first is stated = λ patience are. elim are [
  | inl alone ↦ omega (arith, size, ap length alone.0)
  | inr both ↦ stated patience both.1 (is ∙ ap (λ words. get_or words 1 []) both.0)
]

-- The pairs name a patience, or a word that is none.
pub patience_named : {E : Type 0} (named : Option (List ℕ)) (word : List ℕ) (result : Result (Option ℕ) E) → named ≡ Some word
    → IfOk result (λ found. MatchOption found ((patience : ℕ) → IsPatience patience → word ≡ decimal patience → ⊥) (λ patience. IsPatience patience × (word ≡ decimal patience)))
    → IfOk result (λ found. MatchOption found ((patience : ℕ) → IsPatienceOf named patience → ⊥) (IsPatienceOf named))
patience_named named word (Err e) is read = tt
patience_named named word (Ok None) is read = λ patience has. by (subst (λ (o : Option (List ℕ)). IsPatienceOf o patience) is has)
  where
    by : {patience : ℕ} → IsPatience patience × (word ≡ decimal patience) → ⊥
    by {patience} both = read patience both.0 both.1
patience_named named word (Ok (Some patience)) is read = subst (λ (o : Option (List ℕ)). IsPatienceOf o patience) (sym is) read

-- They name a session,
pub session_named : (named : Option (List ℕ)) (word : List ℕ) → named ≡ Some word → IsName word → IsSessionOf named word
session_named named word is name = subst (λ (o : Option (List ℕ)). IsSessionOf o word) (sym is) (name, refl)

-- or a word that is none,
pub no_session : (named : Option (List ℕ)) (word : List ℕ) → named ≡ Some word → (IsName word → ⊥) → (session : List ℕ) → IsSessionOf named session → ⊥
no_session named word is none session has = by (subst (λ (o : Option (List ℕ)). IsSessionOf o session) is has)
  where
    by : IsName session × (word ≡ session) → ⊥
    by both = none (subst (λ (name : List ℕ). IsName name) (sym both.1) both.0)

-- or nothing, which is `default`.
pub session_meant : (named : Option (List ℕ)) (session : List ℕ) → named ≡ None → session ≡ default_name → IsSessionOf named session
session_meant named session is same = subst (λ (o : Option (List ℕ)). IsSessionOf o session) (sym is) same

-- What words mean as a session has a name.
pub session_fits : (named : Option (List ℕ)) (session : List ℕ) → IsSessionOf named session → IsName session
session_fits None session is = subst (λ (name : List ℕ). IsName name) (sym is) default_fits
session_fits (Some word) session is = is.0
