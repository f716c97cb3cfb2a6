-- Laws of lists of properties.
use Rattle.std.proofs.Common.{◌≡◌, ℕ, suc, ◌+◌, ◌≤◌, Bool, true, false, cond, not, ◌||◌, inl, inr, List, [], ◌∷◌, ◌++◌, length, map, filter, refl, sym, ap, ◌∙◌, arith, length-append}
use Rattle.std.specs.Prelude.{flat_map}
use Rattle.std.specs.List.{AllByRecursion, IsDistinct, list_any}
use Rattle.std.specs.Str.{bytes_eq}
use Rattle.std.specs.Cmp.Lexicographic.{same_text, other_text}
use Rattle.ice_values.specs.Properties.{property}
use Rattle.ice_values.specs.declared.numbers.Endian.TheVariants.{Lsb}
use Rattle.ice_values.specs.declared.property.Property.{Property}
use Rattle.xsmp_properties.specs.Tables.{is_named, set_one, without_names, encoded_len, IsTableFull, AreNamesDistinct}

pub differs : (a b : List ℕ) → bytes_eq a b ≡ false → bytes_eq b a ≡ false
differs a b other = by (bytes_eq b a) refl
  where
    by : (r : Bool) → bytes_eq b a ≡ r → bytes_eq b a ≡ false
    by false is = is
    by true is = absurd (other_text a b (sym other) (sym (same_text b a (sym is))))

-- no property of the list has this name
abbrev pub LacksName : List ℕ → List Property → Type 0
LacksName name items = AllByRecursion (λ (p : Property). bytes_eq name p.name ≡ false) items

pub without-absent : (name : List ℕ) (items : List Property) → LacksName name items → without_names (name ∷ []) items ≡ items
without-absent name [] lacks = refl
without-absent name (p ∷ items) lacks =
    ap (λ (named : Bool). cond (not (named || false)) (p ∷ without_names (name ∷ []) items) (without_names (name ∷ []) items)) lacks.0 ∙ ap (λ (l : List Property). p ∷ l) (without-absent name items lacks.1)

list_any-more : (test : List ℕ → Bool) (names : List (List ℕ)) (name : List ℕ) → list_any test (names ++ name ∷ []) ≡ (list_any test names || (test name || false))
list_any-more test [] name = refl
list_any-more test (first ∷ names) name = by (test first) (list_any-more test names name)
  where
    by : (b : Bool) → list_any test (names ++ name ∷ []) ≡ (list_any test names || (test name || false)) → (b || list_any test (names ++ name ∷ [])) ≡ ((b || list_any test names) || (test name || false))
    by true rest = refl
    by false rest = rest

pub without-none : (items : List Property) → without_names [] items ≡ items
without-none [] = refl
without-none (p ∷ items) = ap (λ (l : List Property). p ∷ l) (without-none items)

-- to take names out and then one more is to take all of them out
pub without-more : (names : List (List ℕ)) (name : List ℕ) (items : List Property) → without_names (names ++ name ∷ []) items ≡ without_names (name ∷ []) (without_names names items)
without-more names name [] = refl
without-more names name (p ∷ items) =
    ap (λ (b : Bool). cond (not b) (p ∷ without_names (names ++ name ∷ []) items) (without_names (names ++ name ∷ []) items)) (list_any-more (λ n. is_named n p) names name) ∙ by (list_any (λ n. is_named n p) names) (without-more names name items)
  where
    at : (named : Bool) → without_names (names ++ name ∷ []) items ≡ without_names (name ∷ []) (without_names names items) → cond (not (named || false)) (p ∷ without_names (names ++ name ∷ []) items) (without_names (names ++ name ∷ []) items) ≡ cond (not (named || false)) (p ∷ without_names (name ∷ []) (without_names names items)) (without_names (name ∷ []) (without_names names items))
    at true rest = rest
    at false rest = ap (λ (l : List Property). p ∷ l) rest

    by : (b : Bool) → without_names (names ++ name ∷ []) items ≡ without_names (name ∷ []) (without_names names items) → cond (not (b || (is_named name p || false))) (p ∷ without_names (names ++ name ∷ []) items) (without_names (names ++ name ∷ []) items) ≡ without_names (name ∷ []) (cond (not b) (p ∷ without_names names items) (without_names names items))
    by true rest = rest
    by false rest = at (is_named name p) rest

-- a new name goes last
pub set_one-new : (items : List Property) (p : Property) (rest : List Property) → AreNamesDistinct (items ++ p ∷ rest) → set_one items p ≡ items ++ p ∷ []
unfolding IsDistinct
set_one-new [] p rest distinct = refl
set_one-new (q ∷ items) p rest distinct =
    ap (λ (b : Bool). cond b (p ∷ items) (q ∷ set_one items p)) (differs q.name p.name (at items distinct.0)) ∙ ap (λ (l : List Property). q ∷ l) (set_one-new items p rest distinct.1)
  where
    at : (before : List Property) → AllByRecursion (λ name. bytes_eq q.name name ≡ false) (map (λ (x : Property). x.name) (before ++ p ∷ rest)) → bytes_eq q.name p.name ≡ false
    at [] all = all.0
    at (x ∷ before) all = at before all.1

pub encoded_len-cons : (p : Property) (items : List Property) → encoded_len (p ∷ items) ≡ length (property Lsb p) + encoded_len items
encoded_len-cons p items = length-append (property Lsb p) (flat_map (property Lsb) items)

-- what is left of a table has no more names and bytes than the table
pub length-kept : (test : Property → Bool) (items : List Property) → length (filter test items) ≤ length items
length-kept test [] = omega arith
length-kept test (p ∷ items) = by (test p) (length-kept test items)
  where
    by : (b : Bool) → length (filter test items) ≤ length items → length (cond b (p ∷ filter test items) (filter test items)) ≤ suc (length items)
    by true rest = omega (arith, rest)
    by false rest = omega (arith, rest)

pub encoded_len-kept : (test : Property → Bool) (items : List Property) → encoded_len (filter test items) ≤ encoded_len items
encoded_len-kept test [] = omega arith
encoded_len-kept test (p ∷ items) = by (test p) (encoded_len-kept test items)
  where
    by : (b : Bool) → encoded_len (filter test items) ≤ encoded_len items → encoded_len (cond b (p ∷ filter test items) (filter test items)) ≤ encoded_len (p ∷ items)
    by true rest = omega (arith, rest, encoded_len-cons p items, encoded_len-cons p (filter test items))
    by false rest = omega (arith, rest, encoded_len-cons p items)

pub kept-fits : (test : Property → Bool) (items : List Property) → ¬ (IsTableFull items) → ¬ (IsTableFull (filter test items))
kept-fits test items fits (inl names) = fits (inl (omega (arith, names, length-kept test items)))
kept-fits test items fits (inr bytes) = fits (inr (omega (arith, bytes, encoded_len-kept test items)))
