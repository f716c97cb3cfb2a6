-- Properties that are set in a list of their own first, and then in a table.
use Rattle.std.proofs.Common.{◌≡◌, ℕ, suc, ◌<◌, ◌≤◌, inl, inr, Bool, true, false, cond, List, [], ◌∷◌, length, refl, sym, ap, ◌∙◌, subst, arith}
use Rattle.std.specs.List.{IsDistinct}
use Rattle.std.specs.Str.{bytes_eq}
use Rattle.std.specs.Cmp.Lexicographic.{same_text}
use Rattle.std.proofs.lemmas.Bool.{cases_lt}
use Rattle.ice_values.specs.declared.property.Property.{Property}
use Rattle.xsmp_properties.specs.Named.{place_among}
use Rattle.xsmp_properties.specs.Tables.{is_named, set_one, set_all, AreNamesDistinct, IsTableFull}
use Rattle.xsmp_properties.proofs.ShownLaws.{LacksText, names_of}
use Rattle.xsmp_properties.proofs.TableLaws.{differs}

-- ---- names differ still

lacks-one : (name : List ℕ) (items : List Property) (p : Property) → bytes_eq name p.name ≡ false → LacksText name (names_of items) → LacksText name (names_of (set_one items p))
lacks-one name [] p other all = (other, tt)
lacks-one name (q ∷ items) p other all = by (is_named p.name q) (lacks-one name items p other all.1)
  where
    by : (b : Bool) → LacksText name (names_of (set_one items p)) → LacksText name (names_of (cond b (p ∷ items) (q ∷ set_one items p)))
    by true rest = (other, all.1)
    by false rest = (all.0, rest)

distinct-one : (items : List Property) (p : Property) → AreNamesDistinct items → AreNamesDistinct (set_one items p)
unfolding IsDistinct
distinct-one [] p distinct = (tt, tt)
distinct-one (q ∷ items) p distinct = by (is_named p.name q) refl (distinct-one items p distinct.1)
  where
    by : (b : Bool) → is_named p.name q ≡ b → AreNamesDistinct (set_one items p) → AreNamesDistinct (cond b (p ∷ items) (q ∷ set_one items p))
    by true same rest = (subst (λ (name : List ℕ). LacksText name (names_of items)) (sym (same_text p.name q.name (sym same))) distinct.0, distinct.1)
    by false same rest = (lacks-one q.name items p (differs p.name q.name same) distinct.0, rest)

-- ---- a name is there

abbrev IsThere : List ℕ → List Property → Type 0
IsThere name items = place_among name items < length items

there-now : (items : List Property) (q p : Property) → is_named p.name q ≡ true → IsThere p.name (set_one items q)
there-now [] q p same = subst (λ (b : Bool). cond b 0 1 < 1) (sym same) (omega arith)
there-now (r ∷ items) q p same = by (is_named q.name r) (there-now items q p same)
  where
    at : (b : Bool) → IsThere p.name (set_one items q) → cond b 0 (suc (place_among p.name (set_one items q))) < suc (length (set_one items q))
    at true rest = omega arith
    at false rest = omega (arith, rest)

    by : (b : Bool) → IsThere p.name (set_one items q) → IsThere p.name (cond b (q ∷ items) (r ∷ set_one items q))
    by true rest = subst (λ (b : Bool). cond b 0 (suc (place_among p.name items)) < suc (length items)) (sym same) (omega arith)
    by false rest = at (is_named p.name r) rest

there-still : (name : List ℕ) (items : List Property) (r : Property) → is_named name r ≡ false → IsThere name items → IsThere name (set_one items r)
there-still name [] r other there = absurd (omega (arith, there))
there-still name (s ∷ items) r other there = by (is_named r.name s) refl (λ h. there-still name items r other h)
  where
    at : (b : Bool) → cond b 0 (suc (place_among name items)) < suc (length items) → (IsThere name items → IsThere name (set_one items r)) → cond b 0 (suc (place_among name (set_one items r))) < suc (length (set_one items r))
    at true there rest = omega arith
    at false there rest = omega (arith, rest (omega (arith, there)))

    by : (b : Bool) → is_named r.name s ≡ b → (IsThere name items → IsThere name (set_one items r)) → IsThere name (cond b (r ∷ items) (s ∷ set_one items r))
    by true same rest =
        let alike : is_named name s ≡ is_named name r = ap (bytes_eq name) (sym (same_text r.name s.name (sym same))) in
        subst (λ (b : Bool). cond b 0 (suc (place_among name items)) < suc (length items)) alike there
    by false same rest = at (is_named name s) there rest

-- ---- one after another

-- what is set last of a name stays
set-again : (items : List Property) (q p : Property) → is_named p.name q ≡ true → set_one (set_one items q) p ≡ set_one items p
set-again [] q p same = ap (λ (b : Bool). cond b (p ∷ []) (q ∷ p ∷ [])) same
set-again (r ∷ items) q p same = by (is_named q.name r) alike (set-again items q p same) ∙ ap (λ (b : Bool). cond b (p ∷ items) (r ∷ set_one items p)) (sym alike)
  where
    alike : is_named p.name r ≡ is_named q.name r
    alike = ap (λ (name : List ℕ). bytes_eq name r.name) (same_text p.name q.name (sym same))

    by : (b : Bool) → is_named p.name r ≡ b → set_one (set_one items q) p ≡ set_one items p → set_one (cond b (q ∷ items) (r ∷ set_one items q)) p ≡ cond b (p ∷ items) (r ∷ set_one items p)
    by true named rest = ap (λ (b : Bool). cond b (p ∷ items) (q ∷ set_one items p)) same
    by false other rest = ap (λ (b : Bool). cond b (p ∷ set_one items q) (r ∷ set_one (set_one items q) p)) other ∙ ap (λ (l : List Property). r ∷ l) rest

-- of two names of which one is there it doesn't matter which is set first
swapped : (items : List Property) (p r : Property) → is_named p.name r ≡ false → IsThere p.name items → set_one (set_one items r) p ≡ set_one (set_one items p) r
swapped [] p r other there = absurd (omega (arith, there))
swapped (s ∷ items) p r other there = by (is_named p.name s) refl there (λ h. swapped items p r other h)
  where
    first : (b : Bool) → is_named p.name s ≡ true → is_named r.name s ≡ b → set_one (cond b (r ∷ items) (s ∷ set_one items r)) p ≡ set_one (p ∷ items) r
    first true same also = absurd (both_names same also)
      where
        both_names : is_named p.name s ≡ true → is_named r.name s ≡ true → ⊥
        both_names same also = no (sym other ∙ ap (bytes_eq p.name) (same_text r.name s.name (sym also)) ∙ same)
          where
            no : false ≡ true → ⊥
            no is = subst (λ (b : Bool). cond b ⊥ (Unit {0})) is tt
    first false same also = ap (λ (b : Bool). cond b (p ∷ set_one items r) (s ∷ set_one (set_one items r) p)) same ∙ sym (ap (λ (b : Bool). cond b (r ∷ items) (p ∷ set_one items r)) (differs p.name r.name other))

    second : (b : Bool) → is_named p.name s ≡ false → is_named r.name s ≡ b → set_one (set_one items r) p ≡ set_one (set_one items p) r
        → set_one (cond b (r ∷ items) (s ∷ set_one items r)) p ≡ cond b (r ∷ set_one items p) (s ∷ set_one (set_one items p) r)
    second true same also rest = ap (λ (b : Bool). cond b (p ∷ items) (r ∷ set_one items p)) other
    second false same also rest = ap (λ (b : Bool). cond b (p ∷ set_one items r) (s ∷ set_one (set_one items r) p)) same ∙ ap (λ (l : List Property). s ∷ l) rest

    by : (b : Bool) → is_named p.name s ≡ b → cond b 0 (suc (place_among p.name items)) < suc (length items) → (IsThere p.name items → set_one (set_one items r) p ≡ set_one (set_one items p) r)
        → set_one (set_one (s ∷ items) r) p ≡ set_one (cond b (p ∷ items) (s ∷ set_one items p)) r
    by true same there rest = first (is_named r.name s) same refl
    by false same there rest = second (is_named r.name s) same refl (rest (omega (arith, there)))

-- and so of many
swapped-all : (items others : List Property) (p : Property) → IsThere p.name items → LacksText p.name (names_of others) → set_one (set_all items others) p ≡ set_all (set_one items p) others
swapped-all items [] p there lacks = refl
swapped-all items (r ∷ others) p there lacks =
    swapped-all (set_one items r) others p (there-still p.name items r lacks.0 there) lacks.1 ∙ ap (λ (l : List Property). set_all l others) (swapped items p r lacks.0 there)

set-into : (items others : List Property) (p : Property) → AreNamesDistinct others → set_all items (set_one others p) ≡ set_one (set_all items others) p
unfolding IsDistinct
set-into items [] p distinct = refl
set-into items (q ∷ others) p distinct = by (is_named p.name q) refl (set-into (set_one items q) others p distinct.1)
  where
    by : (b : Bool) → is_named p.name q ≡ b → set_all (set_one items q) (set_one others p) ≡ set_one (set_all (set_one items q) others) p
        → set_all items (cond b (p ∷ others) (q ∷ set_one others p)) ≡ set_one (set_all (set_one items q) others) p
    by true same rest =
        let lacks : LacksText p.name (names_of others) = subst (λ (name : List ℕ). LacksText name (names_of others)) (sym (same_text p.name q.name (sym same))) distinct.0 in
        sym (swapped-all (set_one items q) others p (there-now items q p same) lacks ∙ ap (λ (l : List Property). set_all l others) (set-again items q p same))
    by false same rest = rest

into : (items others list : List Property) → AreNamesDistinct others → set_all items (set_all others list) ≡ set_all (set_all items others) list
into items others [] distinct = refl
into items others (p ∷ list) distinct = into items (set_one others p) list (distinct-one others p distinct) ∙ ap (λ (l : List Property). set_all l list) (set-into items others p distinct)

-- to set what a list makes of itself is to set the list
pub set_all-anew : (items list : List Property) → set_all items (set_all [] list) ≡ set_all items list
unfolding IsDistinct
set_all-anew items list = into items [] list tt

-- what isn't too full has no more names than a client may say
pub fits : (items : List Property) → ¬ (IsTableFull items) → length items ≤ 128
fits items not_full = elim (cases_lt 128 (length items)) [
  | inl many ↦ absurd (not_full (inl many))
  | inr few ↦ few
]
