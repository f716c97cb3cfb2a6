-- A map by names against a list of properties.
use Rattle.std.proofs.Common.{◌≡◌, ℕ, suc, ◌+◌, ◌≤◌, Bool, true, false, cond, not, ◌||◌, List, [], ◌∷◌, ◌++◌, length, map, refl, sym, ap, ap₂, ◌∙◌, subst, arith, append_assoc}
use Rattle.std.specs.Prelude.{nat_lt, Option, None, Some}
use Rattle.std.specs.List.{AllByRecursion, IsDistinct, position, position_or_len}
use Rattle.std.proofs.lemmas.Bool.{ltb-false}
use Rattle.std.specs.Str.{bytes_eq}
use Rattle.std.specs.Global.{Vec}
use Rattle.std.specs.Map.{keys_of, values_of, remove_entry}
use Rattle.std.specs.Cmp.Lexicographic.{same_text}
use Rattle.indexmap.specs.IndexMap.{insert_entry, insert_all}
use Rattle.ice_values.specs.declared.property.Property.{Property}
use Rattle.xsmp_properties.specs.Tables.{is_named, set_one, set_all, without_names, AreNamesDistinct}
use Rattle.xsmp_properties.specs.Named.{HasOwnName, AreNamed, same_key, place_among}
use Rattle.xsmp_properties.proofs.TableLaws.{set_one-new, without-absent}
use Rattle.xsmp_properties.proofs.ShownLaws.{LacksText, names_of, lacks}

-- ---- the place that a map tells

abbrev number : Option ℕ → ℕ
number None = 0
number (Some n) = suc n

some : (n m : ℕ) → Some n ≡ Some m → n ≡ m
some n m is = omega (arith, unsuc (ap number is))
  where
    unsuc : suc n ≡ suc m → n ≡ m
    unsuc same = omega (arith, same)

some-none : (n : ℕ) → Some n ≡ None → ⊥
some-none n is = by (ap number is)
  where
    by : suc n ≡ 0 → ⊥
    by none = omega (arith, none)

pub place-found : {A : Type 0} (test : A → Bool) (items : List A) (place : ℕ) → Some place ≡ position test items → place ≡ position_or_len test items
place-found test items place is = by (nat_lt (position_or_len test items) (length items)) is
  where
    by : (b : Bool) → Some place ≡ cond b (Some (position_or_len test items)) None → place ≡ position_or_len test items
    by true is = some place (position_or_len test items) is
    by false is = absurd (some-none place is)

pub place-missing : {A : Type 0} (test : A → Bool) (items : List A) → None ≡ position test items → length items ≤ position_or_len test items
place-missing test items is = by (nat_lt (position_or_len test items) (length items)) refl is
  where
    by : (b : Bool) → nat_lt (position_or_len test items) (length items) ≡ b → None ≡ cond b (Some (position_or_len test items)) None → length items ≤ position_or_len test items
    by true lt is = absurd (some-none (position_or_len test items) (sym is))
    by false other is = ltb-false (position_or_len test items) (length items) other

pub place-within : (name : List ℕ) (items : List Property) → place_among name items ≤ length items
place-within name [] = omega arith
place-within name (p ∷ items) = by (is_named name p) (place-within name items)
  where
    by : (b : Bool) → place_among name items ≤ length items → cond b 0 (suc (place_among name items)) ≤ suc (length items)
    by true rest = omega arith
    by false rest = omega (arith, rest)

-- a step of a walk over properties that are set in another map
pub set-more : (done : List Property) (p : Property) (left rest all : List Property) → left ≡ p ∷ rest → done ++ left ≡ all → AreNamesDistinct all → set_one done p ++ rest ≡ all
set-more done p left rest all step so_far distinct =
    let is : done ++ p ∷ rest ≡ all = ap (λ (l : List Property). done ++ l) (sym step) ∙ so_far in
    ap (λ (l : List Property). l ++ rest) (set_one-new done p rest (subst AreNamesDistinct (sym is) distinct)) ∙ append_assoc done (p ∷ []) rest ∙ is

module _ {X : Type 0} (of : X → Property) where
  abbrev Entries : Type 0
  Entries = List (Vec ℕ × X)

  abbrev properties : Entries → List Property
  properties es = map of (values_of es)

  pub values-insert : (es : Entries) (key : Vec ℕ) (x : X) → AllByRecursion (HasOwnName of) es → key.items ≡ (of x).name → properties (insert_entry same_key es key x) ≡ set_one (properties es) (of x)
  values-insert [] key x own is = refl
  values-insert (e ∷ es) key x own is =
      by (same_key key e.0) (values-insert es key x own.1 is) ∙ ap₂ (λ a b. cond (bytes_eq a b) (of x ∷ properties es) (of e.1 ∷ set_one (properties es) (of x))) is own.0
    where
      by : (b : Bool) → properties (insert_entry same_key es key x) ≡ set_one (properties es) (of x) → properties (cond b ((e.0, x) ∷ es) (e ∷ insert_entry same_key es key x)) ≡ cond b (of x ∷ properties es) (of e.1 ∷ set_one (properties es) (of x))
      by true rest = refl
      by false rest = ap (λ (l : List Property). of e.1 ∷ l) rest

  pub own-insert : (es : Entries) (key : Vec ℕ) (x : X) → AllByRecursion (HasOwnName of) es → key.items ≡ (of x).name → AllByRecursion (HasOwnName of) (insert_entry same_key es key x)
  own-insert [] key x own is = (is, tt)
  own-insert (e ∷ es) key x own is = by (same_key key e.0) refl (own-insert es key x own.1 is)
    where
      by : (b : Bool) → same_key key e.0 ≡ b → AllByRecursion (HasOwnName of) (insert_entry same_key es key x) → AllByRecursion (HasOwnName of) (cond b ((e.0, x) ∷ es) (e ∷ insert_entry same_key es key x))
      by true same rest = (sym (same_text key.items e.0.items (sym same)) ∙ is, own.1)
      by false same rest = (own.0, rest)

  -- each of a list in turn
  pub values-insert_all : (es others : Entries) → AllByRecursion (HasOwnName of) es → AllByRecursion (HasOwnName of) others → properties (insert_all same_key es others) ≡ set_all (properties es) (properties others)
  values-insert_all es [] own of_own = refl
  values-insert_all es (e ∷ others) own of_own =
      values-insert_all (insert_entry same_key es e.0 e.1) others (own-insert es e.0 e.1 own of_own.0) of_own.1 ∙ ap (λ (l : List Property). set_all l (properties others)) (values-insert es e.0 e.1 own of_own.0)

  pub own-insert_all : (es others : Entries) → AllByRecursion (HasOwnName of) es → AllByRecursion (HasOwnName of) others → AllByRecursion (HasOwnName of) (insert_all same_key es others)
  own-insert_all es [] own of_own = own
  own-insert_all es (e ∷ others) own of_own = own-insert_all (insert_entry same_key es e.0 e.1) others (own-insert es e.0 e.1 own of_own.0) of_own.1

  names-distinct-from : (es : Entries) (key : Vec ℕ) → AllByRecursion (HasOwnName of) es → AllByRecursion (λ other. same_key key other ≡ false) (keys_of es) → AllByRecursion (λ name. bytes_eq key.items name ≡ false) (map (λ (p : Property). p.name) (properties es))
  names-distinct-from [] key own all = tt
  names-distinct-from (e ∷ es) key own all = (ap (bytes_eq key.items) (sym own.0) ∙ all.0, names-distinct-from es key own.1 all.1)

  pub names-distinct : (es : Entries) → AreNamed of es → AreNamesDistinct (properties es)
  unfolding IsDistinct
  names-distinct [] named = tt
  names-distinct (e ∷ es) named =
      (subst (λ (name : List ℕ). AllByRecursion (λ other. bytes_eq name other ≡ false) (map (λ (p : Property). p.name) (properties es))) named.0.0 (names-distinct-from es e.0 named.0.1 named.1.0), names-distinct es (named.0.1, named.1.1))

  -- the place of a name among the keys
  pub place-by_keys : (es : Entries) (name : List ℕ) → AllByRecursion (HasOwnName of) es → position_or_len (λ key. bytes_eq name key.items) (keys_of es) ≡ place_among name (properties es)
  place-by_keys [] name own = refl
  place-by_keys (e ∷ es) name own =
      by (bytes_eq name e.0.items) (place-by_keys es name own.1) ∙ ap (λ (key : List ℕ). cond (bytes_eq name key) 0 (suc (place_among name (properties es)))) own.0
    where
      by : (b : Bool) → position_or_len (λ key. bytes_eq name key.items) (keys_of es) ≡ place_among name (properties es) → cond (not b) (1 + position_or_len (λ key. bytes_eq name key.items) (keys_of es)) 0 ≡ cond b 0 (suc (place_among name (properties es)))
      by true rest = refl
      by false rest = omega (arith, rest)

  -- to take the first of a name out is to take all of it out
  pub values-remove : (es : Entries) (name : List ℕ) → AreNamed of es → properties (remove_entry (λ key. bytes_eq name key.items) es) ≡ without_names (name ∷ []) (properties es)
  unfolding IsDistinct
  values-remove [] name named = refl
  values-remove (e ∷ es) name named =
      by (bytes_eq name e.0.items) refl (values-remove es name (named.0.1, named.1.1)) ∙ ap (λ (key : List ℕ). cond (not (bytes_eq name key || false)) (of e.1 ∷ without_names (name ∷ []) (properties es)) (without_names (name ∷ []) (properties es))) named.0.0
    where
      by : (b : Bool) → bytes_eq name e.0.items ≡ b → properties (remove_entry (λ key. bytes_eq name key.items) es) ≡ without_names (name ∷ []) (properties es) → properties (cond b es (e ∷ remove_entry (λ key. bytes_eq name key.items) es)) ≡ cond (not (b || false)) (of e.1 ∷ without_names (name ∷ []) (properties es)) (without_names (name ∷ []) (properties es))
      by true same rest = sym (without-absent name (properties es) (lacks name (properties es) (subst (λ (n : List ℕ). LacksText n (names_of (properties es))) (sym (same_text name e.0.items (sym same))) (names-distinct-from es e.0 named.0.1 named.1.0))))
      by false same rest = ap (λ (l : List Property). of e.1 ∷ l) rest

  pub own-remove : (es : Entries) (name : List ℕ) → AllByRecursion (HasOwnName of) es → AllByRecursion (HasOwnName of) (remove_entry (λ key. bytes_eq name key.items) es)
  own-remove [] name own = tt
  own-remove (e ∷ es) name own = by (bytes_eq name e.0.items) (own-remove es name own.1)
    where
      by : (b : Bool) → AllByRecursion (HasOwnName of) (remove_entry (λ key. bytes_eq name key.items) es) → AllByRecursion (HasOwnName of) (cond b es (e ∷ remove_entry (λ key. bytes_eq name key.items) es))
      by true rest = own.1
      by false rest = (own.0, rest)
