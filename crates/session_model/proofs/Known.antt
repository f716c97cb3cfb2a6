-- The IDs that are known: those of the book, and of registered clients those that the book doesn't have.
use Rattle.std.proofs.Common.{◌≡◌, refl, ℕ, Bool, true, false, ◌||◌, List, [], ◌∷◌, ◌++◌, eqb, sym, ap, subst, ◌∙◌, arith}
use Rattle.std.specs.Prelude.{Option, Some, None, filter_map}
use Rattle.std.specs.List.{AllByRecursion, IsDistinct, cons_option}
use Rattle.std.specs.Str.{bytes_eq}
use Rattle.std.specs.Cmp.Lexicographic.{same_text}
use Rattle.std.proofs.lemmas.Bool.Decides.{nat_tests}
use Rattle.checkpoint_records.specs.declared.records.Entry.{Entry}
use Rattle.checkpoint_records.specs.Rules.{ids_of}
use Rattle.interact_queue.specs.Queue.{is_in}
use Rattle.session_model.specs.Moves.{History}
use Rattle.session_model.specs.Readings as of
use Rattle.session_model.proofs.Lists.{Once}
use Rattle.session_model.proofs.Names.{AreOwn}
use Rattle.session_model.proofs.Pending.{all-append}
use Rattle.session_model.proofs.Ruled.{denied}

-- Lists without twins

distinct-none : IsDistinct bytes_eq []
unfolding IsDistinct
distinct-none = tt

pub distinct-head : (x : List ℕ) (xs : List (List ℕ)) → IsDistinct bytes_eq (x ∷ xs) → AllByRecursion (λ y. bytes_eq x y ≡ false) xs
unfolding IsDistinct
distinct-head x xs d = d.0

pub distinct-tail : (x : List ℕ) (xs : List (List ℕ)) → IsDistinct bytes_eq (x ∷ xs) → IsDistinct bytes_eq xs
unfolding IsDistinct
distinct-tail x xs d = d.1

pub distinct-cons : (x : List ℕ) (xs : List (List ℕ)) → AllByRecursion (λ y. bytes_eq x y ≡ false) xs → IsDistinct bytes_eq xs → IsDistinct bytes_eq (x ∷ xs)
unfolding IsDistinct
distinct-cons x xs a d = (a, d)

pub distinct-append : (xs ys : List (List ℕ)) → IsDistinct bytes_eq xs → IsDistinct bytes_eq ys → AllByRecursion (λ x. AllByRecursion (λ y. bytes_eq x y ≡ false) ys) xs → IsDistinct bytes_eq (xs ++ ys)
distinct-append [] ys d e a = e
distinct-append (x ∷ xs) ys d e a =
    distinct-cons x (xs ++ ys) (all-append (λ y. bytes_eq x y ≡ false) xs ys (distinct-head x xs d) a.0) (distinct-append xs ys (distinct-tail x xs d) e a.1)

-- What a function makes of a list

-- none of what it makes is x
apart-cons : (x : List ℕ) (o : Option (List ℕ)) (ys : List (List ℕ)) → ((id : List ℕ) → o ≡ Some id → bytes_eq x id ≡ false) → AllByRecursion (λ y. bytes_eq x y ≡ false) ys → AllByRecursion (λ y. bytes_eq x y ≡ false) (cons_option o ys)
apart-cons x None ys f a = a
apart-cons x (Some id) ys f a = (f id refl, a)

distinct-option : (o : Option (List ℕ)) (ys : List (List ℕ)) → ((id : List ℕ) → o ≡ Some id → AllByRecursion (λ y. bytes_eq id y ≡ false) ys) → IsDistinct bytes_eq ys → IsDistinct bytes_eq (cons_option o ys)
distinct-option None ys f d = d
distinct-option (Some id) ys f d = distinct-cons id ys (f id refl) d

-- IDs of connections

-- what is made of a connection is its ID
abbrev IsIdOf : History → (ℕ → Option (List ℕ)) → Type 0
IsIdOf h f = (c : ℕ) (id : List ℕ) → f c ≡ Some id → of.id_of c h ≡ Some id

same-in : (c : ℕ) (cs : List ℕ) → is_in c (c ∷ cs) ≡ true
same-in c cs = grind (arith, nat_tests)

or-parts : (x y : Bool) → (x || y) ≡ false → (x ≡ false) × (y ≡ false)
or-parts true y e = absurd (grind arith)
or-parts false y e = (refl, e)

apart-conns : (h : History) (f : ℕ → Option (List ℕ)) (c : ℕ) (x : List ℕ) (cs : List ℕ) → IsIdOf h f → AreOwn h → of.id_of c h ≡ Some x → is_in c cs ≡ false → AllByRecursion (λ y. bytes_eq x y ≡ false) (filter_map f cs)
apart-conns h f c x [] i o e n = tt
apart-conns h f c x (d ∷ cs) i o e n =
    let p : (eqb d c ≡ false) × (is_in c cs ≡ false) = or-parts (eqb d c) (is_in c cs) n in
    apart-cons x (f d) (filter_map f cs)
    (λ id k. denied (bytes_eq x id) (λ s. other_conn d c (o d c id (i d id k) (e ∙ ap (λ (t : List ℕ). Some t) (same_text x id (sym s)))) p.0))
    (apart-conns h f c x cs i o e p.1) where
      other_conn : (d c : ℕ) → d ≡ c → eqb d c ≡ false → ⊥
      other_conn d c s n = grind (arith, nat_tests)

pub distinct-conns : (h : History) (f : ℕ → Option (List ℕ)) (cs : List ℕ) → IsIdOf h f → AreOwn h → Once cs → IsDistinct bytes_eq (filter_map f cs)
distinct-conns h f [] i o n = distinct-none
distinct-conns h f (c ∷ cs) i o n = distinct-option (f c) (filter_map f cs) (λ id k. apart-conns h f c id cs i o (i c id k) n.0) (distinct-conns h f cs i o n.1)

-- IDs of entries

abbrev pub entry_id : Option Entry → Option (List ℕ)
entry_id None = None
entry_id (Some entry) = Some entry.id

pub ids-map : {A : Type 0} (g : A → Option Entry) (xs : List A) → ids_of (filter_map g xs) ≡ filter_map (λ x. entry_id (g x)) xs
ids-map g [] = refl
ids-map g (x ∷ xs) = ids-cons (g x) (filter_map g xs) ∙ ap (λ (ys : List (List ℕ)). cons_option (entry_id (g x)) ys) (ids-map g xs) where
  ids-cons : (o : Option Entry) (ys : List Entry) → ids_of (cons_option o ys) ≡ cons_option (entry_id o) (ids_of ys)
  ids-cons None ys = refl
  ids-cons (Some entry) ys = refl

-- what is made of an entry has its ID
abbrev KeepsId : (Entry → Option (List ℕ)) → Type 0
KeepsId f = (entry : Entry) (id : List ℕ) → f entry ≡ Some id → id ≡ entry.id

apart-entries : (f : Entry → Option (List ℕ)) (x : List ℕ) (entries : List Entry) → KeepsId f → AllByRecursion (λ y. bytes_eq x y ≡ false) (ids_of entries) → AllByRecursion (λ y. bytes_eq x y ≡ false) (filter_map f entries)
apart-entries f x [] k a = tt
apart-entries f x (entry ∷ entries) k a =
    apart-cons x (f entry) (filter_map f entries) (λ id e. ap (λ (t : List ℕ). bytes_eq x t) (k entry id e) ∙ a.0) (apart-entries f x entries k a.1)

pub distinct-entries : (f : Entry → Option (List ℕ)) (entries : List Entry) → KeepsId f → IsDistinct bytes_eq (ids_of entries) → IsDistinct bytes_eq (filter_map f entries)
distinct-entries f [] k d = distinct-none
distinct-entries f (entry ∷ entries) k d =
    distinct-option (f entry) (filter_map f entries)
    (λ id e. subst (λ (t : List ℕ). AllByRecursion (λ y. bytes_eq t y ≡ false) (filter_map f entries)) (sym (k entry id e)) (apart-entries f entry.id entries k (distinct-head entry.id (ids_of entries) d)))
    (distinct-entries f entries k (distinct-tail entry.id (ids_of entries) d))
