-- What holds at each move of a history holds of each front of what is seen of it.
use Rattle.std.proofs.Common.{◌≡◌, refl, List, [], ◌∷◌, ◌++◌, sym, ap, subst, ◌∙◌, arith, inl, inr}
use Rattle.std.specs.Prelude.{reverse, drop, ◌⊎◌}
use Rattle.std.specs.List.{AllByRecursion}
use Rattle.std.proofs.lemmas.List.{append-nil, reverse-append}
use Rattle.session_model.specs.declared.events.Act.{Act}
use Rattle.session_model.specs.Moves.{Move, Outside, Gave, Blamed, Unset, Closed, Tried, Committed, Printed, Finished, History, Opened, acts_of, all_acts, ◌▷◌}
use Rattle.session_notes.specs.Notes.{Did, Entry, Note, Came, acts_in, entries_of, entries, noted, notes}

-- A list of one item at most

abbrev pub IsOne : List Entry → Type 0
IsOne ys = (ys ≡ []) ⊎ ((y : Entry) × (ys ≡ y ∷ []))

pub one-of : (m : Move) → IsOne (entries_of m)
one-of (Outside event) = inr (Came event, refl)
one-of (Tried cause command) = inr (_, refl)
one-of (Gave c m) = inr (_, refl)
one-of (Blamed c error) = inr (_, refl)
one-of (Unset c) = inr (_, refl)
one-of (Closed c) = inr (_, refl)
one-of (Committed book) = inr (_, refl)
one-of (Printed text) = inr (_, refl)
one-of Finished = inr (_, refl)
one-of m = inl refl

-- All acts

acts-append : (xs ys : List Entry) → acts_in (xs ++ ys) ≡ acts_in xs ++ acts_in ys
acts-append [] ys = refl
acts-append (Came event ∷ xs) ys = acts-append xs ys
acts-append (Did act ∷ xs) ys = ap (λ (acts : List Act). act ∷ acts) (acts-append xs ys)

acts-of : (m : Move) → acts_in (entries_of m) ≡ acts_of m
acts-of (Outside event) = refl
acts-of m = refl

pub all-acts : (h : History) → acts_in (entries h) ≡ all_acts h
all-acts (Opened opening) = refl
all-acts (m ▷ h) =
    acts-append (entries h) (entries_of m) ∙ ap (λ (acts : List Act). acts ++ acts_in (entries_of m)) (all-acts h) ∙ ap (λ (acts : List Act). all_acts h ++ acts) (acts-of m)

-- The latest first

abbrev pub latest : History → List Entry
latest (Opened opening) = []
latest (m ▷ h) = entries_of m ++ latest h

turned : (ys : List Entry) → IsOne ys → reverse ys ≡ ys
turned ys (inl e) = ap (λ (xs : List Entry). reverse xs) e ∙ sym e
turned ys (inr (y, e)) = ap (λ (xs : List Entry). reverse xs) e ∙ sym e

pub latest-is : (h : History) → reverse (entries h) ≡ latest h
latest-is (Opened opening) = refl
latest-is (m ▷ h) =
    reverse-append (entries h) (entries_of m) ∙ ap (λ (xs : List Entry). xs ++ reverse (entries h)) (turned (entries_of m) (one-of m)) ∙ ap (λ (xs : List Entry). entries_of m ++ xs) (latest-is h)

-- what is noted of a history
abbrev pub noted_of : History → List Note
noted_of h = noted (latest h)

pub notes-are : (h : History) → notes (entries h) ≡ noted_of h
notes-are h = ap (λ (xs : List Entry). noted xs) (latest-is h)

-- Fronts

nothing-left : (xs ys : List Entry) → xs ++ ys ≡ [] → xs ≡ []
nothing-left [] ys e = refl
nothing-left (x ∷ xs) ys e = absurd (grind arith)

-- a front of a list that ends in one item at most is the whole, or a front of the rest
part-of : (front later xs ys : List Entry) → IsOne ys → front ++ later ≡ xs ++ ys → (front ≡ xs ++ ys) ⊎ ((left : List Entry) × (front ++ left ≡ xs))
part-of [] later xs ys o e = inr (xs, refl)
part-of (f ∷ front) later [] ys (inl n) e = absurd (no-item f (front ++ later) (e ∙ n)) where
  no-item : (f : Entry) (xs : List Entry) → f ∷ xs ≡ [] → ⊥
  no-item f xs e = grind arith
part-of (f ∷ front) later [] ys (inr (y, n)) e =
    let k : front ++ later ≡ [] = ap (λ (xs : List Entry). drop 1 xs) (e ∙ n) in
    let z : front ≡ [] = nothing-left front later k in
    let w : f ∷ [] ≡ y ∷ [] = ap (λ (xs : List Entry). f ∷ xs) (sym k) ∙ (e ∙ n) in
    inl (ap (λ (xs : List Entry). f ∷ xs) z ∙ w ∙ sym n)
part-of (f ∷ front) later (x ∷ xs) ys o e = more (part-of front later xs ys o (ap (λ (zs : List Entry). drop 1 zs) e)) where
  same : f ≡ x
  same = head f x (front ++ later) (xs ++ ys) e where
    head : (f x : Entry) (fs xs : List Entry) → f ∷ fs ≡ x ∷ xs → f ≡ x
    head f x fs xs e = cc

  more : (front ≡ xs ++ ys) ⊎ ((left : List Entry) × (front ++ left ≡ xs)) → (f ∷ front ≡ x ∷ xs ++ ys) ⊎ ((left : List Entry) × (f ∷ front ++ left ≡ x ∷ xs))
  more (inl k) = inl (ap (λ (zs : List Entry). f ∷ zs) k ∙ ap (λ (z : Entry). z ∷ xs ++ ys) same)
  more (inr (left, k)) = inr (left, ap (λ (zs : List Entry). f ∷ zs) k ∙ ap (λ (z : Entry). z ∷ xs) same)

-- this holds of the notes at each moment
abbrev pub AtEach : (List Note → Type 0) → History → Type 0
AtEach P (Opened opening) = P []
AtEach P (m ▷ h) = P (noted_of (m ▷ h)) × AtEach P h

pub at-front : (P : List Note → Type 0) (h : History) (front later : List Entry) → front ++ later ≡ entries h → AtEach P h → P (notes front)
at-front P (Opened opening) front later e a = subst (λ (xs : List Entry). P (notes xs)) (sym (nothing-left front later e)) a
at-front P (m ▷ h) front later e a = front-at (part-of front later (entries h) (entries_of m) (one-of m) e) (λ left k. at-front P h front left k a.1) where
  front-at : (front ≡ entries h ++ entries_of m) ⊎ ((left : List Entry) × (front ++ left ≡ entries h)) → ((left : List Entry) → front ++ left ≡ entries h → P (notes front)) → P (notes front)
  front-at (inl k) r = subst (λ (xs : List Entry). P (notes xs)) (sym k) (subst P (sym (notes-are (m ▷ h))) a.0)
  front-at (inr (left, k)) r = r left k

-- this holds of each entry, with the notes of what was seen before it
abbrev pub EachEntry : (List Note → Entry → Type 0) → History → Type 0
EachEntry P (Opened opening) = Unit {0}
EachEntry P (m ▷ h) = AllByRecursion (P (noted_of h)) (entries_of m) × EachEntry P h

last-is : (seen xs : List Entry) (e y : Entry) → seen ++ e ∷ [] ≡ xs ++ y ∷ [] → (seen ≡ xs) × (e ≡ y)
last-is [] [] e y k = (refl, ones e y k) where
  ones : (e y : Entry) → e ∷ [] ≡ y ∷ [] → e ≡ y
  ones e y k = cc
last-is [] (x ∷ xs) e y k = absurd (longer xs (ap (λ (zs : List Entry). drop 1 zs) k)) where
  longer : (xs : List Entry) → [] ≡ xs ++ y ∷ [] → ⊥
  longer [] k = grind arith
  longer (x ∷ xs) k = grind arith
last-is (s ∷ seen) [] e y k = absurd (longer seen (ap (λ (zs : List Entry). drop 1 zs) k)) where
  longer : (xs : List Entry) → xs ++ e ∷ [] ≡ [] → ⊥
  longer [] k = grind arith
  longer (x ∷ xs) k = grind arith
last-is (s ∷ seen) (x ∷ xs) e y k =
    let r : (seen ≡ xs) × (e ≡ y) = last-is seen xs e y (ap (λ (zs : List Entry). drop 1 zs) k) in
    (ap (λ (z : Entry). z ∷ seen) (head s x (seen ++ e ∷ []) (xs ++ y ∷ []) k) ∙ ap (λ (zs : List Entry). x ∷ zs) r.0, r.1) where
      head : (f x : Entry) (fs xs : List Entry) → f ∷ fs ≡ x ∷ xs → f ≡ x
      head f x fs xs e = cc

no-last : (seen : List Entry) (e : Entry) → seen ++ e ∷ [] ≡ [] → ⊥
no-last [] e k = grind arith
no-last (s ∷ seen) e k = grind arith

pub at-entry : (P : List Note → Entry → Type 0) (h : History) (seen later : List Entry) (e : Entry) → (seen ++ e ∷ []) ++ later ≡ entries h → EachEntry P h → P (notes seen) e
at-entry P (Opened opening) seen later e k a = absurd (no-last seen e (nothing-left (seen ++ e ∷ []) later k))
at-entry P (m ▷ h) seen later e k a =
    entry-at (part-of (seen ++ e ∷ []) later (entries h) (entries_of m) (one-of m) k) (one-of m) (λ left j. at-entry P h seen left e j a.1) where
      entry-at : (seen ++ e ∷ [] ≡ entries h ++ entries_of m) ⊎ ((left : List Entry) × ((seen ++ e ∷ []) ++ left ≡ entries h)) → IsOne (entries_of m)
          → ((left : List Entry) → (seen ++ e ∷ []) ++ left ≡ entries h → P (notes seen) e) → P (notes seen) e
      entry-at (inr (left, j)) o r = r left j
      entry-at (inl j) (inl n) r = r [] (append-nil (seen ++ e ∷ []) ∙ j ∙ ap (λ (xs : List Entry). entries h ++ xs) n ∙ append-nil (entries h))
      entry-at (inl j) (inr (y, n)) r =
          let s : (seen ≡ entries h) × (e ≡ y) = last-is seen (entries h) e y (j ∙ ap (λ (xs : List Entry). entries h ++ xs) n) in
          let p : AllByRecursion (P (noted_of h)) (y ∷ []) = subst (λ (xs : List Entry). AllByRecursion (P (noted_of h)) xs) n a.0 in
          subst (λ (x : Entry). P (notes seen) x) (sym s.1) (subst (λ (xs : List Entry). P (notes xs) y) (sym s.0) (subst (λ (ns : List Note). P ns y) (sym (notes-are h)) p.0))
