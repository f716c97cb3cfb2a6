-- What a change does to lists, by places.
use Rattle.std.proofs.Common.{◌≡◌, ℕ, zero, suc, ◌+◌, ◌<◌, ◌≤◌, ap₂, drop, get_or, add-one, drop-cons, true, false, List, [], ◌∷◌, ◌++◌, length, set, Some, None, refl, sym, ap, ◌∙◌, subst, arith}
use Rattle.std.specs.Prelude.{HoldsAt, remove}
use Rattle.std.specs.List.{AllWithin}
use Rattle.std.specs.Str.{bytes_eq}
use Rattle.checkpoint_records.specs.declared.records.Entry.{Entry}
use Rattle.checkpoint_changes.specs.Changes.{with_entry, without, without_at}

abbrev pub HasId : List ℕ → Entry → Type 0
HasId id e = bytes_eq e.id id ≡ true

abbrev pub LacksId : List ℕ → Entry → Type 0
LacksId id e = bytes_eq e.id id ≡ false

pub without_none : (id : List ℕ) (entries : List Entry) → AllWithin (LacksId id) entries 0 (length entries) → without id entries ≡ None
without_none id [] lacks = refl
without_none id (e ∷ entries) lacks =
    let first : bytes_eq e.id id ≡ false = lacks 0 e (omega arith) (omega arith) in
    let rest = without_none id entries (λ k d low high. lacks (suc k) d (omega arith) (omega arith)) in
    rw (first, rest) refl

pub without_found : (id : List ℕ) (entries : List Entry) (i : ℕ) → i < length entries → HoldsAt (HasId id) entries i → AllWithin (LacksId id) entries 0 i → without id entries ≡ Some (remove entries i)
without_found id [] i lt has lacks = absurd (omega (arith, lt))
without_found id (e ∷ entries) zero lt has lacks = (let first : bytes_eq e.id id ≡ true = has e in rw first refl)
without_found id (e ∷ entries) (suc i) lt has lacks =
    let first : bytes_eq e.id id ≡ false = lacks 0 e (omega arith) (omega arith) in
    let rest = without_found id entries i (omega (arith, lt)) has (λ k d low high. lacks (suc k) d (omega arith) (omega arith)) in
    rw (first, rest) refl

pub put_none : (f : Entry) (entries : List Entry) → AllWithin (LacksId f.id) entries 0 (length entries) → with_entry f entries ≡ entries ++ f ∷ []
put_none f [] lacks = refl
put_none f (e ∷ entries) lacks =
    let first : bytes_eq e.id f.id ≡ false = lacks 0 e (omega arith) (omega arith) in
    let rest = put_none f entries (λ k d low high. lacks (suc k) d (omega arith) (omega arith)) in
    rw (first, rest) refl

pub put_found : (f : Entry) (entries : List Entry) (i : ℕ) → i < length entries → HoldsAt (HasId f.id) entries i → AllWithin (LacksId f.id) entries 0 i → with_entry f entries ≡ set entries i f
put_found f [] i lt has lacks = absurd (omega (arith, lt))
put_found f (e ∷ entries) zero lt has lacks = (let first : bytes_eq e.id f.id ≡ true = has e in rw first refl)
put_found f (e ∷ entries) (suc i) lt has lacks =
    let first : bytes_eq e.id f.id ≡ false = lacks 0 e (omega arith) (omega arith) in
    let rest = put_found f entries i (omega (arith, lt)) has (λ k d low high. lacks (suc k) d (omega arith) (omega arith)) in
    rw (first, rest) refl

pub at_none : {A : Type 0} (n : ℕ) (items : List A) → length items ≤ n → without_at n items ≡ None
at_none n [] le = refl
at_none zero (x ∷ items) le = absurd (omega (arith, le))
at_none (suc n) (x ∷ items) le = (let rest = at_none n items (omega (arith, le)) in rw rest refl)

pub at_found : {A : Type 0} (n : ℕ) (items : List A) → n < length items → without_at n items ≡ Some (remove items n)
at_found n [] lt = absurd (omega (arith, lt))
at_found zero (x ∷ items) lt = refl
at_found (suc n) (x ∷ items) lt = (let rest = at_found n items (omega (arith, lt)) in rw rest refl)

pub next_item : {A : Type 0} (i : ℕ) (xs : List A) (x : A) → i < length xs → x ≡ get_or xs i x → drop i xs ≡ x ∷ drop (i + 1) xs
next_item {A} i xs x lt is = drop-cons xs i x lt ∙ ap₂ (λ (y : A) (n : ℕ). y ∷ drop n xs) (sym is) (sym (add-one i))

-- ---- the calls

pub none_without : (id : List ℕ) (slice entries : List Entry) → slice ≡ entries → AllWithin (LacksId id) slice 0 (length slice) → without id entries ≡ None
none_without id slice entries is lacks = ap (without id) (sym is) ∙ without_none id slice lacks

pub found_without : (id : List ℕ) (slice entries items left final : List Entry) (i : ℕ) → slice ≡ entries → items ≡ entries → left ≡ remove items i → final ≡ left → (i < length slice) × HoldsAt (HasId id) slice i × AllWithin (LacksId id) slice 0 i → Some final ≡ without id entries
found_without id slice entries items left final i is is_items is_left is_final found =
    ap (λ (l : List Entry). Some l) (is_final ∙ is_left ∙ ap (λ (l : List Entry). remove l i) (is_items ∙ sym is)) ∙ sym (without_found id slice i found.0 found.1 found.2) ∙ ap (without id) is

pub none_put : (entry : Entry) (id : List ℕ) (slice entries final : List Entry) → id ≡ entry.id → slice ≡ entries → AllWithin (LacksId id) slice 0 (length slice) → final ≡ entries ++ entry ∷ [] → final ≡ with_entry entry entries
none_put entry id slice entries final is_id is lacks is_final =
    is_final ∙ ap (λ (l : List Entry). l ++ entry ∷ []) (sym is) ∙ sym (put_none entry slice (subst (λ (k : List ℕ). AllWithin (LacksId k) slice 0 (length slice)) is_id lacks)) ∙ ap (with_entry entry) is

pub found_put : (entry : Entry) (id : List ℕ) (slice entries items final : List Entry) (i : ℕ) → id ≡ entry.id → slice ≡ entries → items ≡ entries → final ≡ set items i entry → (i < length slice) × HoldsAt (HasId id) slice i × AllWithin (LacksId id) slice 0 i → final ≡ with_entry entry entries
found_put entry id slice entries items final i is_id is is_items is_final found =
    is_final ∙ ap (λ (l : List Entry). set l i entry) (is_items ∙ sym is)
    ∙ sym (put_found entry slice i found.0 (subst (λ (k : List ℕ). HoldsAt (HasId k) slice i) is_id found.1) (subst (λ (k : List ℕ). AllWithin (LacksId k) slice 0 i) is_id found.2)) ∙ ap (with_entry entry) is

pub past_end : {A : Type 0} (n : ℕ) (slice items : List A) → slice ≡ items → length slice ≤ n → None ≡ without_at n items
past_end n slice items is le = sym (ap (without_at n) (sym is) ∙ at_none n slice le)

pub within : {A : Type 0} (n : ℕ) (slice items all left final : List A) → slice ≡ items → all ≡ items → left ≡ remove all n → final ≡ left → n < length slice → Some final ≡ without_at n items
within {A} n slice items all left final is is_all is_left is_final lt =
    ap (λ (l : List A). Some l) (is_final ∙ is_left ∙ ap (λ (l : List A). remove l n) (is_all ∙ sym is)) ∙ sym (at_found n slice lt) ∙ ap (without_at n) is
