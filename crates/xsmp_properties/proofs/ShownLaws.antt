-- What a table shows of a list of properties.
use Rattle.std.proofs.Common.{◌≡◌, ℕ, suc, ◌+◌, ◌/◌, ◌%◌, ◌<◌, ◌≤◌, Bool, true, false, cond, not, ◌||◌, List, [], ◌∷◌, length, map, get_or, Some, refl, sym, ap, ap₂, ◌∙◌, subst, arith}
use Rattle.std.specs.Prelude.{None, nat_eq}
use Rattle.std.specs.Int.{bit_at}
use Rattle.std.specs.List.{AllByRecursion, IsDistinct}
use Rattle.std.specs.Str.{bytes_eq}
use Rattle.std.specs.Cmp.Lexicographic.{same_text}
use Rattle.std.proofs.lemmas.Bool.{ne_eqb}
use Rattle.std.proofs.lemmas.Nat.Bits.{bit_at_lowest, bit_at-suc, bit_at-zero}
use Rattle.ice_values.specs.declared.property.Property.{Property}
use Rattle.xsmp_properties.specs.Named.{place_among, shown_from}
use Rattle.xsmp_properties.specs.Tables.{is_named, without_names, find_property, AreNamesDistinct}
use Rattle.xsmp_properties.proofs.TableLaws.{LacksName, without-absent}

-- ---- one item after another

module _ {X : Type 0} where
  -- each bit of a number but the lowest is one of its half
  halved : (hidden i : ℕ) (xs : List X) → shown_from hidden (suc i) xs ≡ shown_from (hidden / 2) i xs
  halved hidden i [] = refl
  halved hidden i (x ∷ xs) = ap₂ (λ (n : ℕ) (l : List X). cond (nat_eq n 0) (x ∷ l) l) (bit_at-suc hidden i) (halved hidden (suc i) xs)

  by_lowest : (hidden : ℕ) (x : X) (xs : List X) → shown_from hidden 0 (x ∷ xs) ≡ cond (nat_eq (hidden % 2) 0) (x ∷ shown_from (hidden / 2) 0 xs) (shown_from (hidden / 2) 0 xs)
  by_lowest hidden x xs = ap₂ (λ (n : ℕ) (l : List X). cond (nat_eq n 0) (x ∷ l) l) (bit_at_lowest hidden) (halved hidden 0 xs)

  pub first_shown : (hidden : ℕ) (x : X) (xs : List X) → hidden % 2 ≡ 0 → shown_from hidden 0 (x ∷ xs) ≡ x ∷ shown_from (hidden / 2) 0 xs
  first_shown hidden x xs even = by_lowest hidden x xs ∙ ap (λ (n : ℕ). cond (nat_eq n 0) (x ∷ shown_from (hidden / 2) 0 xs) (shown_from (hidden / 2) 0 xs)) even

  pub first_hidden : (hidden : ℕ) (x : X) (xs : List X) → ¬ (hidden % 2 ≡ 0) → shown_from hidden 0 (x ∷ xs) ≡ shown_from (hidden / 2) 0 xs
  first_hidden hidden x xs odd = by_lowest hidden x xs ∙ ap (λ (b : Bool). cond b (x ∷ shown_from (hidden / 2) 0 xs) (shown_from (hidden / 2) 0 xs)) (ne_eqb (hidden % 2) 0 odd)

  pub none_hidden : (i : ℕ) (xs : List X) → shown_from 0 i xs ≡ xs
  none_hidden i [] = refl
  none_hidden i (x ∷ xs) = ap₂ (λ (n : ℕ) (l : List X). cond (nat_eq n 0) (x ∷ l) l) (bit_at-zero i) (none_hidden (suc i) xs)

  -- only the bits of its places count
  shown-alike : (new old i : ℕ) (xs : List X) → ((j : ℕ) → i ≤ j → bit_at new j ≡ bit_at old j) → shown_from new i xs ≡ shown_from old i xs
  shown-alike new old i [] alike = refl
  shown-alike new old i (x ∷ xs) alike =
      ap₂ (λ (n : ℕ) (l : List X). cond (nat_eq n 0) (x ∷ l) l) (alike i (omega arith)) (shown-alike new old (suc i) xs (λ j le. alike j (omega (arith, le))))

-- ---- names

abbrev pub names_of : List Property → List (List ℕ)
names_of items = map (λ (p : Property). p.name) items

abbrev pub LacksText : List ℕ → List (List ℕ) → Type 0
LacksText name names = AllByRecursion (λ other. bytes_eq name other ≡ false) names

pub lacks : (name : List ℕ) (items : List Property) → LacksText name (names_of items) → LacksName name items
lacks name [] all = tt
lacks name (p ∷ items) all = (all.0, lacks name items all.1)

lacks-shown : (name : List ℕ) (hidden i : ℕ) (items : List Property) → LacksText name (names_of items) → LacksText name (names_of (shown_from hidden i items))
lacks-shown name hidden i [] all = tt
lacks-shown name hidden i (p ∷ items) all = by (nat_eq (bit_at hidden i) 0) (lacks-shown name hidden (suc i) items all.1)
  where
    by : (b : Bool) → LacksText name (names_of (shown_from hidden (suc i) items)) → LacksText name (names_of (cond b (p ∷ shown_from hidden (suc i) items) (shown_from hidden (suc i) items)))
    by true rest = (all.0, rest)
    by false rest = rest

pub distinct-shown : (hidden i : ℕ) (items : List Property) → AreNamesDistinct items → AreNamesDistinct (shown_from hidden i items)
unfolding IsDistinct
distinct-shown hidden i [] distinct = tt
distinct-shown hidden i (p ∷ items) distinct = by (nat_eq (bit_at hidden i) 0) (distinct-shown hidden (suc i) items distinct.1)
  where
    by : (b : Bool) → AreNamesDistinct (shown_from hidden (suc i) items) → AreNamesDistinct (cond b (p ∷ shown_from hidden (suc i) items) (shown_from hidden (suc i) items))
    by true rest = (lacks-shown p.name hidden (suc i) items distinct.0, rest)
    by false rest = rest

-- no property has a name that has no place
missing : (name : List ℕ) (items : List Property) → length items ≤ place_among name items → LacksText name (names_of items)
missing name [] le = tt
missing name (q ∷ items) le = by (is_named name q) refl le (λ h. missing name items h)
  where
    by : (b : Bool) → is_named name q ≡ b → suc (length items) ≤ cond b 0 (suc (place_among name items)) → (length items ≤ place_among name items → LacksText name (names_of items)) → LacksText name (names_of (q ∷ items))
    by true same le rest = absurd (omega (arith, le))
    by false other le rest = (other, rest (omega (arith, le)))

-- those behind the one of a name have other names
lacks-behind : (name : List ℕ) (q : Property) (items : List Property) → is_named name q ≡ true → LacksText q.name (names_of items) → LacksText name (names_of items)
lacks-behind name q items same all = subst (λ (n : List ℕ). LacksText n (names_of items)) (sym (same_text name q.name (sym same))) all

without-lacking : (name : List ℕ) (items : List Property) → LacksText name (names_of items) → without_names (name ∷ []) items ≡ items
without-lacking name items all = without-absent name items (lacks name items all)

-- ---- a name is hidden

pub hidden-found : (name : List ℕ) (items : List Property) (new old i : ℕ) → AreNamesDistinct items → place_among name items < length items
    → bit_at new (i + place_among name items) ≡ 1 → ((j : ℕ) → ¬ (j ≡ i + place_among name items) → bit_at new j ≡ bit_at old j)
    → shown_from new i items ≡ without_names (name ∷ []) (shown_from old i items)
unfolding IsDistinct
hidden-found name [] new old i distinct lt set others = absurd (omega (arith, lt))
hidden-found name (q ∷ items) new old i distinct lt set others = by (is_named name q) refl lt set others (λ within one same. hidden-found name items new old (suc i) distinct.1 within one same)
  where
    rest : List Property
    rest = shown_from old (suc i) items

    at : (b : Bool) → is_named name q ≡ true → shown_from new (suc i) items ≡ rest → rest ≡ without_names (name ∷ []) rest → shown_from new (suc i) items ≡ without_names (name ∷ []) (cond b (q ∷ rest) rest)
    at true same alike lacking = alike ∙ lacking ∙ ap (λ (r : Bool). cond (not (r || false)) (q ∷ without_names (name ∷ []) rest) (without_names (name ∷ []) rest)) (sym same)
    at false same alike lacking = alike ∙ lacking

    kept : (b : Bool) → is_named name q ≡ false → cond b (q ∷ without_names (name ∷ []) rest) (without_names (name ∷ []) rest) ≡ without_names (name ∷ []) (cond b (q ∷ rest) rest)
    kept true other = ap (λ (r : Bool). cond (not (r || false)) (q ∷ without_names (name ∷ []) rest) (without_names (name ∷ []) rest)) (sym other)
    kept false other = refl

    Behind : Type 0
    Behind = place_among name items < length items → bit_at new (suc i + place_among name items) ≡ 1 → ((j : ℕ) → ¬ (j ≡ suc i + place_among name items) → bit_at new j ≡ bit_at old j) → shown_from new (suc i) items ≡ without_names (name ∷ []) rest

    by : (b : Bool) → is_named name q ≡ b → cond b 0 (suc (place_among name items)) < suc (length items)
        → bit_at new (i + cond b 0 (suc (place_among name items))) ≡ 1 → ((j : ℕ) → ¬ (j ≡ i + cond b 0 (suc (place_among name items))) → bit_at new j ≡ bit_at old j)
        → Behind → shown_from new i (q ∷ items) ≡ without_names (name ∷ []) (shown_from old i (q ∷ items))
    by true same lt set others behind =
        let gone : shown_from new i (q ∷ items) ≡ shown_from new (suc i) items = ap (λ (n : ℕ). cond (nat_eq n 0) (q ∷ shown_from new (suc i) items) (shown_from new (suc i) items)) (ap (bit_at new) (sym (plus_none i)) ∙ set) in
        let alike : shown_from new (suc i) items ≡ rest = shown-alike new old (suc i) items (λ j le. others j (λ is. omega (arith, le, is))) in
        let lacking : rest ≡ without_names (name ∷ []) rest = sym (without-lacking name rest (lacks-shown name old (suc i) items (lacks-behind name q items same distinct.0))) in
        gone ∙ at (nat_eq (bit_at old i) 0) same alike lacking
      where
        plus_none : (n : ℕ) → n + 0 ≡ n
        plus_none n = omega arith
    by false other lt set others behind =
        let is : i + suc (place_among name items) ≡ suc i + place_among name items = omega arith in
        let inner : shown_from new (suc i) items ≡ without_names (name ∷ []) rest =
        behind (omega (arith, lt)) (ap (bit_at new) (sym is) ∙ set) (λ j not_it. others j (λ it. not_it (it ∙ is))) in
        ap₂ (λ (n : ℕ) (l : List Property). cond (nat_eq n 0) (q ∷ l) l) (others i (λ it. omega (arith, it))) inner ∙ kept (nat_eq (bit_at old i) 0) other

pub hidden-missing : (name : List ℕ) (items : List Property) (hidden i : ℕ) → length items ≤ place_among name items → shown_from hidden i items ≡ without_names (name ∷ []) (shown_from hidden i items)
hidden-missing name items hidden i le = sym (without-lacking name (shown_from hidden i items) (lacks-shown name hidden i items (missing name items le)))

-- ---- a name is looked up

not-found : (name : List ℕ) (items : List Property) → LacksText name (names_of items) → find_property name items ≡ None
not-found name [] all = refl
not-found name (q ∷ items) all = ap (λ (b : Bool). cond b (Some q) (find_property name items)) all.0 ∙ not-found name items all.1

pub find-missing : (name : List ℕ) (items : List Property) (hidden i : ℕ) → length items ≤ place_among name items → find_property name (shown_from hidden i items) ≡ None
find-missing name items hidden i le = not-found name (shown_from hidden i items) (lacks-shown name hidden i items (missing name items le))

pub find-found : (name : List ℕ) (items : List Property) (hidden i : ℕ) (d : Property) → AreNamesDistinct items → place_among name items < length items
    → find_property name (shown_from hidden i items) ≡ cond (nat_eq (bit_at hidden (i + place_among name items)) 0) (Some (get_or items (place_among name items) d)) None
unfolding IsDistinct
find-found name [] hidden i d distinct lt = absurd (omega (arith, lt))
find-found name (q ∷ items) hidden i d distinct lt = by (is_named name q) refl lt (λ within. find-found name items hidden (suc i) d distinct.1 within)
  where
    rest : List Property
    rest = shown_from hidden (suc i) items

    at : (b : Bool) → is_named name q ≡ true → find_property name rest ≡ None → find_property name (cond b (q ∷ rest) rest) ≡ cond b (Some q) None
    at true same lacking = ap (λ (r : Bool). cond r (Some q) (find_property name rest)) same
    at false same lacking = lacking

    past : (b : Bool) → is_named name q ≡ false → find_property name (cond b (q ∷ rest) rest) ≡ find_property name rest
    past true other = ap (λ (r : Bool). cond r (Some q) (find_property name rest)) other
    past false other = refl

    Behind : Type 0
    Behind = place_among name items < length items → find_property name rest ≡ cond (nat_eq (bit_at hidden (suc i + place_among name items)) 0) (Some (get_or items (place_among name items) d)) None

    by : (b : Bool) → is_named name q ≡ b → cond b 0 (suc (place_among name items)) < suc (length items) → Behind
        → find_property name (shown_from hidden i (q ∷ items)) ≡ cond (nat_eq (bit_at hidden (i + cond b 0 (suc (place_among name items)))) 0) (Some (get_or (q ∷ items) (cond b 0 (suc (place_among name items))) d)) None
    by true same lt behind =
        let plus_none : i ≡ i + 0 = omega arith in
        at (nat_eq (bit_at hidden i) 0) same (not-found name rest (lacks-shown name hidden (suc i) items (lacks-behind name q items same distinct.0))) ∙ ap (λ (n : ℕ). cond (nat_eq (bit_at hidden n) 0) (Some q) None) plus_none
    by false other lt behind =
        let is : suc i + place_among name items ≡ i + suc (place_among name items) = omega arith in
        past (nat_eq (bit_at hidden i) 0) other ∙ behind (omega (arith, lt)) ∙ ap (λ (n : ℕ). cond (nat_eq (bit_at hidden n) 0) (Some (get_or items (place_among name items) d)) None) is

-- ---- the same of the place that a map tells

any : (items : List Property) (place : ℕ) → place < length items → Property
any [] place lt = absurd (omega (arith, lt))
any (p ∷ items) place lt = p

module _ (name : List ℕ) (items : List Property) (place : ℕ) (distinct : AreNamesDistinct items) (at : place ≡ place_among name items) (lt : place < length items) where
  pub hidden-at : (new old : ℕ) → bit_at new place ≡ 1 → ((j : ℕ) → ¬ (j ≡ place) → bit_at new j ≡ bit_at old j) → shown_from new 0 items ≡ without_names (name ∷ []) (shown_from old 0 items)
  hidden-at new old set others =
      let is : place ≡ 0 + place_among name items = omega (arith, at) in
      hidden-found name items new old 0 distinct (omega (arith, at, lt)) (ap (bit_at new) (sym is) ∙ set) (λ j not_it. others j (λ it. not_it (it ∙ is)))

  looked-up : (hidden : ℕ) (p : Property) → find_property name (shown_from hidden 0 items) ≡ cond (nat_eq (bit_at hidden place) 0) (Some (get_or items place p)) None
  looked-up hidden p =
      let is : 0 + place_among name items ≡ place = omega (arith, at) in
      find-found name items hidden 0 p distinct (omega (arith, at, lt)) ∙ ap₂ (λ (i j : ℕ). cond (nat_eq (bit_at hidden i) 0) (Some (get_or items j p)) None) is (sym at)

  pub found-at : (hidden : ℕ) (p : Property) → bit_at hidden place ≡ 0 → p ≡ get_or items place p → Some p ≡ find_property name (shown_from hidden 0 items)
  found-at hidden p shown is = ap (λ (q : Property). Some q) is ∙ sym (looked-up hidden p ∙ ap (λ (n : ℕ). cond (nat_eq n 0) (Some (get_or items place p)) None) shown)

  pub hidden-there : (hidden : ℕ) → bit_at hidden place ≡ 1 → None ≡ find_property name (shown_from hidden 0 items)
  hidden-there hidden hides =
      let p : Property = any items place lt in
      sym (looked-up hidden p ∙ ap (λ (n : ℕ). cond (nat_eq n 0) (Some (get_or items place p)) None) hides)
