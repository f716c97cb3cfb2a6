-- The names and lengths of a table against the table.
use Rattle.std.proofs.Common.{◌≡◌, ℕ, zero, suc, ◌+◌, ◌<◌, ◌≤◌, Bool, true, false, cond, inl, inr, List, [], ◌∷◌, ◌++◌, length, map, set, drop, refl, sym, ap, ◌∙◌, subst, arith, append_assoc, length-append}
use Rattle.std.specs.Prelude.{nat_lt, slice_set, ◌↔◌}
use Rattle.std.specs.List.{refill}
use Rattle.std.specs.Str.{bytes_eq}
use Rattle.std.proofs.lemmas.Bool.{cases_lt, lt-ltb, ltb-true}
use Rattle.std.proofs.lemmas.List.{append-nil, length-set, take_at}
use Rattle.ice_values.specs.declared.property.Property.{Property}
use Rattle.xsmp_properties.specs.Sizes.{sized, shown, place_of, set_size, set_sizes, total_of}
use Rattle.xsmp_properties.specs.Tables.{set_one, set_all, encoded_len, IsTableFull, AreNamesDistinct}
use Rattle.xsmp_properties.specs.declared.sizes.Size.{Size}
use Rattle.xsmp_properties.proofs.TableLaws.{set_one-new, encoded_len-cons}

abbrev Sizes : Type 0
Sizes = List (List ℕ × ℕ)

-- ---- where a name stands

pub place-within : (name : List ℕ) (sizes : Sizes) → place_of name sizes ≤ length sizes
place-within name [] = omega arith
place-within name (x ∷ sizes) = by (bytes_eq name x.0) (place-within name sizes)
  where
    by : (b : Bool) → place_of name sizes ≤ length sizes → cond b 0 (suc (place_of name sizes)) ≤ suc (length sizes)
    by true rest = omega arith
    by false rest = omega (arith, rest)

-- a size takes the place of its name
pub set-found : (sizes : Sizes) (x : List ℕ × ℕ) → place_of x.0 sizes < length sizes → set_size sizes x ≡ set sizes (place_of x.0 sizes) x
set-found [] x lt = absurd (omega (arith, lt))
set-found (y ∷ sizes) x lt = by (bytes_eq x.0 y.0) lt (λ h. set-found sizes x h)
  where
    by : (b : Bool) → cond b 0 (suc (place_of x.0 sizes)) < suc (length sizes) → (place_of x.0 sizes < length sizes → set_size sizes x ≡ set sizes (place_of x.0 sizes) x)
        → cond b (x ∷ sizes) (y ∷ set_size sizes x) ≡ set (y ∷ sizes) (cond b 0 (suc (place_of x.0 sizes))) x
    by true lt rest = refl
    by false lt rest = ap (λ (l : Sizes). y ∷ l) (rest (omega (arith, lt)))

-- and goes last where there is none
pub set-absent : (sizes : Sizes) (x : List ℕ × ℕ) → length sizes ≤ place_of x.0 sizes → set_size sizes x ≡ sizes ++ x ∷ []
set-absent [] x le = refl
set-absent (y ∷ sizes) x le = by (bytes_eq x.0 y.0) le (λ h. set-absent sizes x h)
  where
    by : (b : Bool) → suc (length sizes) ≤ cond b 0 (suc (place_of x.0 sizes)) → (length sizes ≤ place_of x.0 sizes → set_size sizes x ≡ sizes ++ x ∷ []) → cond b (x ∷ sizes) (y ∷ set_size sizes x) ≡ y ∷ sizes ++ x ∷ []
    by true le rest = absurd (omega (arith, le))
    by false le rest = ap (λ (l : Sizes). y ∷ l) (rest (omega (arith, le)))

pub mapped-length : {A B : Type 0} (f : A → B) (xs : List A) → length (map f xs) ≡ length xs
mapped-length f [] = refl
mapped-length f (x ∷ xs) = ap suc (mapped-length f xs)

pub map-set : {A B : Type 0} (f : A → B) (xs : List A) (i : ℕ) (y : A) → map f (set xs i y) ≡ set (map f xs) i (f y)
map-set f [] i y = refl
map-set f (x ∷ xs) zero y = refl
map-set f (x ∷ xs) (suc i) y = ap (λ l. f x ∷ l) (map-set f xs i y)

-- what is written at the place of a name
pub place_written : (held slice : List Size) (place : ℕ) (size : Size) → slice ≡ held → place ≡ place_of size.name.now (map shown held) → place < length held
    → map shown (refill (length held) held (slice_set slice place size)) ≡ set_size (map shown held) (shown size)
place_written held slice place size same is lt =
    let kept : refill (length held) held (slice_set slice place size) ≡ set held place size =
    ap (λ (l : List Size). refill (length held) held (set l place size)) same ∙ take_at (set held place size) (drop (length (set held place size)) held) (length held) (length-set held place size) in
    let within : place_of size.name.now (map shown held) < length (map shown held) = omega (arith, is, lt, mapped-length shown held) in
    ap (map shown) kept ∙ map-set shown held place size ∙ ap (λ (i : ℕ). set (map shown held) i (shown size)) is ∙ sym (set-found (map shown held) (shown size) within)

pub no_place : (held : List Size) (place : ℕ) (x : List ℕ × ℕ) → place ≡ place_of x.0 (map shown held) → length held ≤ place → set_size (map shown held) x ≡ map shown held ++ x ∷ []
no_place held place x is le = set-absent (map shown held) x (omega (arith, is, le, mapped-length shown held))

pub one_longer : (held : List Size) (place : ℕ) (x : List ℕ × ℕ) → place ≡ place_of x.0 (map shown held) → length held ≤ place → length (set_size (map shown held) x) ≡ suc (length held)
one_longer held place x is le = omega (arith, ap length (no_place held place x is le), length-append (map shown held) (x ∷ []), mapped-length shown held)

pub shown-more : (held : List Size) (size : Size) → map shown (held ++ size ∷ []) ≡ map shown held ++ shown size ∷ []
shown-more [] size = refl
shown-more (x ∷ held) size = ap (λ (l : Sizes). shown x ∷ l) (shown-more held size)

-- ---- to set takes no name out

set_size-longer : (sizes : Sizes) (x : List ℕ × ℕ) → length sizes ≤ length (set_size sizes x)
set_size-longer [] x = omega arith
set_size-longer (y ∷ sizes) x = by (bytes_eq x.0 y.0) (set_size-longer sizes x)
  where
    by : (b : Bool) → length sizes ≤ length (set_size sizes x) → suc (length sizes) ≤ length (cond b (x ∷ sizes) (y ∷ set_size sizes x))
    by true rest = omega arith
    by false rest = omega (arith, rest)

pub set_sizes-longer : (sizes list : Sizes) → length sizes ≤ length (set_sizes sizes list)
set_sizes-longer sizes [] = omega arith
set_sizes-longer sizes (x ∷ list) = omega (arith, set_size-longer sizes x, set_sizes-longer (set_size sizes x) list)

-- ---- the sizes of a table

sized-one : (items : List Property) (p : Property) → map sized (set_one items p) ≡ set_size (map sized items) (sized p)
sized-one [] p = refl
sized-one (q ∷ items) p = by (bytes_eq p.name q.name) (sized-one items p)
  where
    by : (b : Bool) → map sized (set_one items p) ≡ set_size (map sized items) (sized p) → map sized (cond b (p ∷ items) (q ∷ set_one items p)) ≡ cond b (sized p ∷ map sized items) (sized q ∷ set_size (map sized items) (sized p))
    by true rest = refl
    by false rest = ap (λ (l : Sizes). sized q ∷ l) rest

pub sized-all : (items list : List Property) → map sized (set_all items list) ≡ set_sizes (map sized items) (map sized list)
sized-all items [] = refl
sized-all items (p ∷ list) = sized-all (set_one items p) list ∙ ap (λ (l : Sizes). set_sizes l (map sized list)) (sized-one items p)

set_all-new : (front rest : List Property) → AreNamesDistinct (front ++ rest) → set_all front rest ≡ front ++ rest
set_all-new front [] distinct = sym (append-nil front)
set_all-new front (p ∷ rest) distinct =
    let grown : set_one front p ≡ front ++ p ∷ [] = set_one-new front p rest distinct in
    let whole : (front ++ p ∷ []) ++ rest ≡ front ++ p ∷ rest = append_assoc front (p ∷ []) rest in
    ap (λ (l : List Property). set_all l rest) grown ∙ set_all-new (front ++ p ∷ []) rest (subst AreNamesDistinct (sym whole) distinct) ∙ whole

-- a table is made of its own properties, set in turn
pub sized-table : (items : List Property) → AreNamesDistinct items → set_sizes [] (map sized items) ≡ map sized items
sized-table items distinct = sym (sized-all [] items) ∙ ap (λ (l : List Property). map sized l) (set_all-new [] items distinct)

pub set_all-longer : (items list : List Property) → length items ≤ length (set_all items list)
set_all-longer items list =
    let all : length (map sized (set_all items list)) ≡ length (set_sizes (map sized items) (map sized list)) = ap length (sized-all items list) in
    omega (arith, all, set_sizes-longer (map sized items) (map sized list), mapped-length sized items, mapped-length sized (set_all items list))

-- where the next of a list can't be set, all of it would have too many names
pub not_set : (sizes : Sizes) (x : List ℕ × ℕ) (p : Property) (left rest : List Property) (all : Sizes) → x ≡ sized p → left ≡ p ∷ rest → set_sizes sizes (map sized left) ≡ all → 128 < length (set_size sizes x) → 128 < length all
not_set sizes x p left rest all is next whole many =
    let grown : set_sizes (set_size sizes x) (map sized rest) ≡ all =
    ap (λ (y : List ℕ × ℕ). set_sizes (set_size sizes y) (map sized rest)) is ∙ ap (λ (l : List Property). set_sizes sizes (map sized l)) (sym next) ∙ whole in
    omega (arith, many, set_sizes-longer (set_size sizes x) (map sized rest), ap length grown)

-- ---- all lengths together

total-least : (items : List Property) → total_of (map sized items) ≤ encoded_len items
total-least [] = omega arith
total-least (p ∷ items) = omega (arith, total-least items, encoded_len-cons p items)

total-exact : (items : List Property) → total_of (map sized items) ≤ 16384 → total_of (map sized items) ≡ encoded_len items
total-exact [] le = refl
total-exact (p ∷ items) le =
    let rest : total_of (map sized items) ≡ encoded_len items = total-exact items (omega (arith, le)) in
    omega (arith, le, rest, encoded_len-cons p items)

over : (items : List Property) (sizes : Sizes) → total_of sizes ≡ total_of (map sized items) → 16384 < encoded_len items → 16384 < total_of sizes
over items sizes total long = elim (cases_lt 16384 (total_of sizes)) [
  | inl lt ↦ lt
  | inr le ↦ absurd (omega (arith, le, total, long, total-exact items (omega (arith, le, total))))
]

-- what the lengths tell of a table that has no more names than a client may say
pub is_full-by : (sizes : Sizes) (items : List Property) → sizes ≡ map sized items → length sizes ≤ 128 → (nat_lt 16384 (total_of sizes) ≡ true) ↔ IsTableFull items
is_full-by sizes items is names =
    let total : total_of sizes ≡ total_of (map sized items) = ap total_of is in
    let count : length sizes ≡ length items = ap length is ∙ mapped-length sized items in (
      λ long. inr (omega (arith, ltb-true 16384 (total_of sizes) long, total, total-least items)),
      λ full. elim full [
        | inl many ↦ absurd (omega (arith, many, count, names))
        | inr long ↦ lt-ltb 16384 (total_of sizes) (over items sizes total long)
      ],
    )

-- where there are too many names before the rest of a list is set, there are too many after it
pub too_many : (before now list whole : List Property) (p : Property) (n : ℕ) → set_all before (drop n list) ≡ whole → drop n list ≡ p ∷ drop (n + 1) list → now ≡ set_one before p → 128 < length now → 128 < length whole
too_many before now list whole p n is next put many =
    let step : set_all now (drop (n + 1) list) ≡ whole = ap (λ l. set_all l (drop (n + 1) list)) put ∙ ap (set_all before) (sym next) ∙ is in
    omega (arith, many, set_all-longer now (drop (n + 1) list), ap length step)
