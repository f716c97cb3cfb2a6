-- Copies have paths of their own, and what a client sets fits into a table.
use Rattle.std.proofs.Common.{◌≡◌, inl, inr, ℕ, ◌+◌, ◌*◌, ◌<◌, ◌≤◌, ◌^◌, List, [], ◌∷◌, ◌++◌, length, take, codes, refl, ◌∙◌, ap, arith, append_assoc, length-append}
use Rattle.std.specs.Prelude.{flat_map}
use Rattle.std.specs.List.{AllByRecursion}
use Rattle.std.specs.Fmt.{decimal}
use Rattle.std.proofs.lemmas.Fmt.{decimal_injective, length-decimal-le}
use Rattle.std.proofs.lemmas.Grind.{flat_map-append}
use Rattle.ice_values.specs.Properties.{array8, array8_list, property}
use Rattle.ice_values.specs.declared.numbers.Endian.TheVariants.{Lsb}
use Rattle.ice_values.specs.declared.property.Property.{Property}
use Rattle.ice_values.proofs.WordLaws.{property_short, spelled, word_more}
use Rattle.xsmp_properties.specs.Tables.{IsTableFull, encoded_len}
use Rattle.xsmp_properties.proofs.TableLaws.{encoded_len-cons}
use Rattle.state_saver.specs.Plans.{CopiesHavePathsOfTheirOwn, IsPlan, IsWord, copy_path, own_properties, restart_words}
use Rattle.state_saver.specs.declared.plan.SavePlan.{SavePlan}

-- ---- paths

same_back : (xs ys zs : List ℕ) → xs ++ ys ≡ xs ++ zs → ys ≡ zs
same_back [] ys zs same = same
same_back (x ∷ xs) ys zs same = same_back xs ys zs (tails x (xs ++ ys) (xs ++ zs) same)
  where
    tails : (x : ℕ) (a b : List ℕ) → x ∷ a ≡ x ∷ b → a ≡ b
    tails x a b same = cc

same_rest : (xs ys : List ℕ) → 46 ∷ xs ≡ 46 ∷ ys → xs ≡ ys
same_rest xs ys same = cc

pub own_paths : CopiesHavePathsOfTheirOwn
own_paths state m n small few same = decimal_injective m n (omega (arith, small)) (omega (arith, few)) (same_rest (decimal m) (decimal n) (same_back state (46 ∷ decimal m) (46 ∷ decimal n) same))

-- ---- words

-- five words between others, added one after the other
pub five_between : (xs ys : List (List ℕ)) (a b c d e : List ℕ) → (((((xs ++ a ∷ []) ++ b ∷ []) ++ c ∷ []) ++ d ∷ []) ++ e ∷ []) ++ ys ≡ xs ++ (a ∷ b ∷ c ∷ d ∷ e ∷ ys)
five_between xs ys a b c d e =
    append_assoc ((((xs ++ a ∷ []) ++ b ∷ []) ++ c ∷ []) ++ d ∷ []) (e ∷ []) ys
    ∙ (append_assoc (((xs ++ a ∷ []) ++ b ∷ []) ++ c ∷ []) (d ∷ []) (e ∷ ys)
    ∙ (append_assoc ((xs ++ a ∷ []) ++ b ∷ []) (c ∷ []) (d ∷ e ∷ ys)
    ∙ (append_assoc (xs ++ a ∷ []) (b ∷ []) (c ∷ d ∷ e ∷ ys) ∙ append_assoc xs (a ∷ []) (b ∷ c ∷ d ∷ e ∷ ys))))

-- ---- lengths

words_short : (words : List (List ℕ)) → AllByRecursion IsWord words → spelled Lsb words ≤ 523 * length words
words_short [] all = omega arith
words_short (word ∷ words) all = omega (arith, word_more Lsb word words, all.0.few, words_short words all.1)

first_short : (words : List (List ℕ)) → AllByRecursion IsWord words → spelled Lsb (take 1 words) ≤ 523
first_short [] all = omega arith
first_short (word ∷ words) all = omega (arith, word_more Lsb word [], all.0.few)

number_short : (n : ℕ) → n < 2 ^ 32 → length (decimal n) ≤ 10
number_short n small = length-decimal-le 10 n (omega arith) (omega (arith, small)) (omega (arith, small))

restart_short : (plan : SavePlan) (n : ℕ) (id : List ℕ) → IsPlan plan → n < 2 ^ 32 → length id ≤ 512 → spelled Lsb (restart_words plan n id) ≤ 12618
restart_short plan n id fits small short =
    let last : List (List ℕ) = codes "--" ∷ plan.program in
    let named : List (List ℕ) = codes "--id" ∷ id ∷ last in
    let one : spelled Lsb (codes "--from" ∷ decimal n ∷ named) ≤ 6 + 11 + spelled Lsb (decimal n ∷ named) = word_more Lsb (codes "--from") (decimal n ∷ named) in
    let three : spelled Lsb named ≤ 4 + 11 + spelled Lsb (id ∷ last) = word_more Lsb (codes "--id") (id ∷ last) in
    let five : spelled Lsb last ≤ 2 + 11 + spelled Lsb plan.program = word_more Lsb (codes "--") plan.program in
    omega (
      arith,
      ap length (flat_map-append (array8 Lsb) plan.before (codes "--from" ∷ decimal n ∷ named)),
      length-append (flat_map (array8 Lsb) plan.before) (flat_map (array8 Lsb) (codes "--from" ∷ decimal n ∷ named)),
      words_short plan.before fits.before,
      fits.seven,
      one,
      word_more Lsb (decimal n) named,
      number_short n small,
      three,
      word_more Lsb id last,
      short,
      five,
      words_short plan.program fits.words,
      fits.few,
    )

discard_short : (plan : SavePlan) (n : ℕ) → IsPlan plan → n < 2 ^ 32 → spelled Lsb (codes "rm" ∷ copy_path plan.state n ∷ []) ≤ 547
discard_short plan n fits small =
    let one : spelled Lsb (codes "rm" ∷ copy_path plan.state n ∷ []) ≤ 2 + 11 + spelled Lsb (copy_path plan.state n ∷ []) = word_more Lsb (codes "rm") (copy_path plan.state n ∷ []) in
    let none : spelled Lsb [] ≡ 0 = refl in
    omega (arith, one, word_more Lsb (copy_path plan.state n) [], none, length-append plan.state (46 ∷ decimal n), number_short n small, fits.state.few)

pub own_few : (plan : SavePlan) (n : ℕ) (id : List ℕ) → IsPlan plan → n < 2 ^ 32 → length id ≤ 512 → IsTableFull (own_properties plan n id) → ⊥
own_few plan n id fits small short (inl many) = omega (arith, many)
own_few plan n id fits small short (inr full) =
    let first : Property = record { name = codes "Program"; kind = codes "ARRAY8"; values = take 1 plan.program } in
    let second : Property = record { name = codes "RestartCommand"; kind = codes "LISTofARRAY8"; values = restart_words plan n id } in
    let third : Property = record { name = codes "DiscardCommand"; kind = codes "LISTofARRAY8"; values = codes "rm" ∷ copy_path plan.state n ∷ [] } in
    let one : length (property Lsb first) ≤ 7 + 6 + spelled Lsb (take 1 plan.program) + 30 = property_short Lsb (codes "Program") (codes "ARRAY8") (take 1 plan.program) in
    let two : length (property Lsb second) ≤ 14 + 12 + spelled Lsb (restart_words plan n id) + 30 = property_short Lsb (codes "RestartCommand") (codes "LISTofARRAY8") (restart_words plan n id) in
    let three : length (property Lsb third) ≤ 14 + 12 + spelled Lsb (codes "rm" ∷ copy_path plan.state n ∷ []) + 30 = property_short Lsb (codes "DiscardCommand") (codes "LISTofARRAY8") (codes "rm" ∷ copy_path plan.state n ∷ []) in
    let none : encoded_len [] ≡ 0 = refl in
    let all : encoded_len (first ∷ second ∷ third ∷ []) ≡ length (property Lsb first) + (length (property Lsb second) + (length (property Lsb third) + encoded_len [])) = encoded_len-cons first (second ∷ third ∷ []) ∙ ap (λ n. length (property Lsb first) + n) (encoded_len-cons second (third ∷ []) ∙ ap (λ n. length (property Lsb second) + n) (encoded_len-cons third [])) in
    let bad : 16384 < encoded_len (first ∷ second ∷ third ∷ []) = full in
    absurd (over (encoded_len (first ∷ second ∷ third ∷ [])) (length (property Lsb first)) (length (property Lsb second)) (length (property Lsb third)) (spelled Lsb (take 1 plan.program)) (spelled Lsb (restart_words plan n id)) (spelled Lsb (codes "rm" ∷ copy_path plan.state n ∷ [])) all one two three (first_short plan.program fits.words) (restart_short plan n id fits small short) (discard_short plan n fits small) bad)
  where
    over : (all one two three a b c : ℕ) → all ≡ one + (two + (three + 0)) → one ≤ 7 + 6 + a + 30 → two ≤ 14 + 12 + b + 30 → three ≤ 14 + 12 + c + 30 → a ≤ 523 → b ≤ 12618 → c ≤ 547 → 16384 < all → ⊥
    over all one two three a b c first second third d e f g h = omega arith

pub none_few : IsTableFull [] → ⊥
none_few (inl many) = omega (arith, many)
none_few (inr full) = omega (arith, full)
