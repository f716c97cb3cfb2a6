-- Words up to two dashes, and behind them.
use Rattle.std.proofs.Common.{◌≡◌, inl, inr, ℕ, zero, suc, ◌+◌, ◌-◌, ◌<◌, ◌≤◌, true, false, nat_le, ◌==◌, List, [], ◌∷◌, ◌++◌, length, map, take, drop, get_or, codes, String, Global, string_bytes, Option, None, Some, Result, Ok, Err, IfOk, IfSome, MatchOption, refl, sym, ◌∙◌, ap, subst, arith}
use Rattle.std.specs.List.{list_all}
use Rattle.std.proofs.lemmas.Bool.Decides.{nat_tests}
use Rattle.std.proofs.lemmas.List.{drop-drop, drop-map, length-map, take_rest}
use Rattle.std.proofs.lemmas.List.Folds.{list_all-map}
use Rattle.owned_lists.specs.declared.failures.NoMemory.{NoMemory}
use Rattle.smwrap_app.specs.Words.{AreBad, AreChosen, AreChosenAt, Chosen, HasId, HasNumber, HasTexts, chosen_of, is_program, is_text}
use Rattle.smwrap_app.specs.declared.words.Choices.{Choices}

-- the words of a program, as they are texts
texts_are : (words : List (String Global)) → list_all (λ (word : String Global). is_text (string_bytes word)) words ≡ list_all is_text (map string_bytes words)
texts_are words = sym (list_all-map is_text string_bytes words)

few_words : (n : ℕ) → n ≤ 16 → nat_le n 16 ≡ true
few_words n few = grind (arith, nat_tests)

some_words : (n : ℕ) → (n ≡ 0 → ⊥) → (n == 0) ≡ false
some_words n some = grind (arith, nat_tests)

pub program_is : (words : List (String Global)) → (length words ≡ 0 → ⊥) → length words ≤ 16 → list_all (λ (word : String Global). is_text (string_bytes word)) words ≡ is_program (map string_bytes words)
program_is [] some few = absurd (some refl)
program_is (word ∷ words) some few = rw (length-map (word ∷ words) string_bytes, few_words (length (word ∷ words)) few, some_words (length (word ∷ words)) some) (texts_are (word ∷ words))

pub some_is : {A : Type 0} (x y : A) → ◌≡◌ {A = Option A} (Some x) (Some y) → x ≡ y
some_is x y same = cc

-- the words in front of a place, the one there, and those behind it
split_at : (ws : List (List ℕ)) (n : ℕ) → n < length ws → ws ≡ take n ws ++ (get_or ws n [] ∷ drop (suc n) ws)
split_at [] n inside = absurd (omega (arith, inside))
split_at (w ∷ ws) zero inside = refl
split_at (w ∷ ws) (suc n) inside = ap (λ rest. w ∷ rest) (split_at ws n (omega (arith, inside)))

split_here : (ws : List (List ℕ)) (n : ℕ) → n < length ws → ws ≡ take n ws ++ (get_or ws n [] ∷ drop (n + 1) ws)
split_here ws n inside =
    let next : suc n ≡ n + 1 = omega arith in
    split_at ws n inside ∙ ap (λ k. take n ws ++ (get_or ws n [] ∷ drop k ws)) next

front_is : (front rest : List (List ℕ)) → take (length front) (front ++ rest) ≡ front
front_is [] rest = take_none rest
  where
    take_none : (xs : List (List ℕ)) → take 0 xs ≡ []
    take_none [] = refl
    take_none (x ∷ xs) = refl
front_is (w ∷ front) rest = ap (λ ws. w ∷ ws) (front_is front rest)

place_is : (front rest : List (List ℕ)) (w : List ℕ) → get_or (front ++ (w ∷ rest)) (length front) [] ≡ w
place_is [] rest w = refl
place_is (x ∷ front) rest w = place_is front rest w

back_at : (front rest : List (List ℕ)) (w : List ℕ) → drop (suc (length front)) (front ++ (w ∷ rest)) ≡ rest
back_at [] rest w = refl
back_at (x ∷ front) rest w = back_at front rest w

back_is : (front rest : List (List ℕ)) (w : List ℕ) → drop (length front + 1) (front ++ (w ∷ rest)) ≡ rest
back_is front rest w =
    let next : length front + 1 ≡ suc (length front) = omega arith in
    ap (λ k. drop k (front ++ (w ∷ rest))) next ∙ back_at front rest w

-- the words behind the dashes
pub behind_dashes : (words rest : List (String Global)) (n : ℕ) → rest ≡ drop n words → map string_bytes (take (length rest - 1) (drop 1 rest)) ≡ drop (n + 1) (map string_bytes words)
behind_dashes words rest n is =
    ap (map string_bytes) (take_rest rest 1 ∙ (ap (drop 1) is ∙ drop-drop 1 n words)) ∙ sym (drop-map string_bytes (n + 1) words)

-- What was chosen with so many options is what stands in front of the place and behind it.
pub record StandsAt (count : ℕ) (ws front : List (List ℕ)) (dashes : List ℕ) (program : List (List ℕ)) : Type 0 where
  pub front_is : take count ws ≡ front
  pub dashes_are : get_or ws count [] ≡ dashes
  pub program_is : drop (count + 1) ws ≡ program
  pub inside : count < length ws

pub stands_at : (count : ℕ) (ws : List (List ℕ)) (chosen : Chosen) (at : AreChosenAt count ws chosen) → StandsAt count ws at.0.front (codes "--") chosen.program
stands_at count ws chosen (are, long) = rw (are.are, ← long) (record { front_is = front_is are.front (codes "--" ∷ chosen.program); dashes_are = place_is are.front chosen.program (codes "--"); program_is = back_is are.front chosen.program (codes "--"); inside = long_enough are.front chosen.program (codes "--") })
  where
    long_enough : (xs ys : List (List ℕ)) (w : List ℕ) → length xs < length (xs ++ (w ∷ ys))
    long_enough [] ys w = omega arith
    long_enough (x ∷ xs) ys w = omega (arith, long_enough xs ys w)

-- what was found where the words stand so
pub found_at : (r : Option Choices) (count : ℕ) (ws front : List (List ℕ)) (program : List (String Global)) (from : ℕ) → front ≡ take count ws → map string_bytes program ≡ drop (count + 1) ws → count < length ws → get_or ws count [] ≡ codes "--" → HasNumber front from → is_program (map string_bytes program) ≡ true
    → (r ≡ None → (chosen : Chosen) → ¬ (HasTexts front chosen)) → IfSome r (λ choices. HasTexts front (chosen_of choices)) → IfSome r (λ choices. choices.from ≡ from) → IfSome r (λ choices. choices.program.now ≡ program)
    → MatchOption r ((chosen : Chosen) → ¬ (AreChosenAt count ws chosen)) (λ choices. AreChosen ws (chosen_of choices))
found_at None count ws front program from fronts programs inside dashes number fits none some froms progs =
    λ chosen at. none refl chosen (subst (λ (f : List (List ℕ)). HasTexts f chosen) (sym (stands_at count ws chosen at).front_is ∙ sym fronts) at.0.options.texts)
found_at (Some choices) count ws front program from fronts programs inside dashes number fits none some froms progs =
    record {
      front = front;
      are = split_here ws count inside ∙ rw (dashes, ← fronts, ← programs, progs) refl;
      options = record { texts = some; from = subst (λ (n : ℕ). HasNumber front n) (sym froms) number };
      program = ap (λ (ws : List (String Global)). is_program (map string_bytes ws)) progs ∙ fits;
    }

-- neither four pairs nor five
pub either_at : (result : Result (Option Choices) NoMemory) (ws : List (List ℕ)) → ((chosen : Chosen) → ¬ (AreChosenAt 8 ws chosen)) → IfOk result (λ r. MatchOption r ((chosen : Chosen) → ¬ (AreChosenAt 10 ws chosen)) (λ choices. AreChosen ws (chosen_of choices)))
    → IfOk result (λ r. MatchOption r (AreBad ws) (λ choices. AreChosen ws (chosen_of choices)))
either_at (Err e) ws four five = tt
either_at (Ok (Some choices)) ws four five = five
either_at (Ok None) ws four five = λ chosen are. by chosen are are.options.texts.id
  where
    by : (chosen : Chosen) (are : AreChosen ws chosen) → HasId are.front chosen.id → ⊥
    by chosen are (inl short) = four chosen (are, short.0)
    by chosen are (inr long) = five chosen (are, long.0)
