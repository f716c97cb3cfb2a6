-- Readers of counted lists take exactly what is spelled, also read in a loop.
use Rattle.std.proofs.Common.{◌≡◌, ℕ, zero, suc, ◌+◌, ◌-◌, ◌<◌, ◌≤◌, List, [], ◌∷◌, ◌++◌, length, Option, Some, None, refl, sym, ap, ◌∙◌, subst, arith, append_assoc}
use Rattle.std.proofs.lemmas.List.{append-nil}
use Rattle.std.specs.Prelude.{flat_map}
use Rattle.std.specs.List.{AllByRecursion}
use Rattle.ice_values.specs.Cells.{Cells, Begins}
use Rattle.ice_values.specs.Fields.{IsCounted}
use Rattle.ice_values.specs.Reading.{◌>>=◌, many_at, rest_of, FailsAs}
use Rattle.ice_values.specs.declared.refusals.ValueRefusal.{ValueRefusal}
use Rattle.ice_values.specs.declared.refusals.ValueRefusal.TheVariants.{TooLong, Short, NoMemory}
use Rattle.ice_values.proofs.CellLaws.{IsBytes, Begins-append, Begins-split, Begins-fits}
use Rattle.ice_values.proofs.OptionLaws.{some_is, none_not_some}
use Rattle.ice_values.proofs.FieldLaws.{Exact, bind_some}

many_taken : {A : Type 0} (cells : A → Cells) (Fits : A → Type 0) (read : List ℕ → Option (A × List ℕ)) → Exact cells Fits read → (n : ℕ) (bytes : List ℕ) (xs : List A) (rest : List ℕ) → IsBytes bytes
    → many_at read n bytes ≡ Some (xs, rest) → Begins (flat_map cells xs) bytes rest × IsCounted Fits n xs
unfolding many_at
many_taken {A} cells Fits read exact zero bytes xs rest fits e =
    subst (λ (y : List A × List ℕ). Begins (flat_map cells y.0) bytes y.1 × IsCounted Fits 0 y.0) (some_is ([], bytes) (xs, rest) e) (refl, (refl, tt))
many_taken {A} cells Fits read exact (suc n) bytes xs rest fits e =
    let p = bind_some (read bytes) (λ first. many_at read n first.1 >>= λ others. Some (first.0 ∷ others.0, others.1)) (xs, rest) e in
    let q = bind_some (many_at read n p.0.1) (λ others. Some (p.0.0 ∷ others.0, others.1)) (xs, rest) p.2 in
    let first = exact.takes bytes p.0.0 p.0.1 fits p.1 in
    let others = many_taken cells Fits read exact n p.0.1 q.0.0 q.0.1 (Begins-fits (cells p.0.0) bytes p.0.1 first.0 fits) q.1 in
    subst (λ (y : List A × List ℕ). Begins (flat_map cells y.0) bytes y.1 × IsCounted Fits (suc n) y.0) (some_is (p.0.0 ∷ q.0.0, q.0.1) (xs, rest) q.2)
    (Begins-append (cells p.0.0) (flat_map cells q.0.0) bytes p.0.1 q.0.1 first.0 others.0, (ap suc others.1.0, (first.1, others.1.1)))

many_again : {A : Type 0} (cells : A → Cells) (Fits : A → Type 0) (read : List ℕ → Option (A × List ℕ)) → Exact cells Fits read → (xs : List A) (bytes rest : List ℕ) → AllByRecursion Fits xs → Begins (flat_map cells xs) bytes rest
    → many_at read (length xs) bytes ≡ Some (xs, rest)
unfolding many_at
many_again cells Fits read exact [] bytes rest fits h = rw h refl
many_again cells Fits read exact (x ∷ xs) bytes rest fits h =
    let s = Begins-split (cells x) (flat_map cells xs) bytes rest h in
    rw (exact.again bytes x s.0 fits.0 s.1, many_again cells Fits read exact xs s.0 rest fits.1 s.2) refl

-- so many values, one after the other
pub many : {A : Type 0} (cells : A → Cells) (Fits : A → Type 0) (read : List ℕ → Option (A × List ℕ)) → Exact cells Fits read → (n : ℕ) → Exact (flat_map cells) (IsCounted Fits n) (many_at read n)
many cells Fits read exact n = record {
  takes = λ bytes xs rest fits e. many_taken cells Fits read exact n bytes xs rest fits e;
  again = λ bytes xs rest fits h. subst (λ (k : ℕ). many_at read k bytes ≡ Some (xs, rest)) fits.0 (many_again cells Fits read exact xs bytes rest fits.1 h);
}

-- ---- in a loop, with what it has read in front of what is left to read

abbrev pub with_front : {A : Type 0} → List A → Option (List A × List ℕ) → Option (List A × List ℕ)
with_front front None = None
with_front front (Some x) = Some (front ++ x.0, x.1)

next_is : {A : Type 0} (read : List ℕ → Option (A × List ℕ)) (n : ℕ) (bytes : List ℕ) (x : A) (rest : List ℕ) → read bytes ≡ Some (x, rest)
    → many_at read (suc n) bytes ≡ (many_at read n rest >>= λ others. Some (x ∷ others.0, others.1))
unfolding many_at
next_is read n bytes x rest e = rw e refl

put_front : {A : Type 0} (front : List A) (x : A) (o : Option (List A × List ℕ)) → with_front front (o >>= λ others. Some (x ∷ others.0, others.1)) ≡ with_front (front ++ x ∷ []) o
put_front front x None = refl
put_front front x (Some y) = rw (append_assoc front (x ∷ []) y.0) refl

pub goes_on : {A : Type 0} (read : List ℕ → Option (A × List ℕ)) (front : List A) (count i : ℕ) (bytes : List ℕ) (x : A) (rest : List ℕ) (total : Option (List A × List ℕ)) → i < count → read bytes ≡ Some (x, rest)
    → with_front front (many_at read (count - i) bytes) ≡ total → with_front (front ++ x ∷ []) (many_at read (count - (i + 1)) rest) ≡ total
goes_on read front count i bytes x rest total lt e h =
    let step : count - i ≡ suc (count - (i + 1)) = omega arith in
    let is : many_at read (count - i) bytes ≡ (many_at read (count - (i + 1)) rest >>= λ others. Some (x ∷ others.0, others.1)) = rw step (next_is read (count - (i + 1)) bytes x rest e) in
    sym (put_front front x (many_at read (count - (i + 1)) rest)) ∙ ap (with_front front) (sym is) ∙ h

none_is : {A : Type 0} (read : List ℕ → Option (A × List ℕ)) (n : ℕ) (bytes : List ℕ) → read bytes ≡ None → many_at read (suc n) bytes ≡ None
unfolding many_at
none_is read n bytes e = rw e refl

pub ends : {A : Type 0} (refusal : ValueRefusal) (read : List ℕ → Option (A × List ℕ)) (front : List A) (count i : ℕ) (bytes : List ℕ) (total : Option (List A × List ℕ)) → i < count → FailsAs refusal (read bytes)
    → with_front front (many_at read (count - i) bytes) ≡ total → FailsAs refusal total
ends TooLong read front count i bytes total lt fails h = fails
ends NoMemory read front count i bytes total lt fails h = tt
ends Short read front count i bytes total lt fails h =
    let step : count - i ≡ suc (count - (i + 1)) = omega arith in
    let is : many_at read (count - i) bytes ≡ None = rw step (none_is read (count - (i + 1)) bytes fails) in
    sym h ∙ ap (with_front front) is

pub is_done : {A : Type 0} (read : List ℕ → Option (A × List ℕ)) (front : List A) (count i : ℕ) (bytes : List ℕ) (total : Option (List A × List ℕ)) → count ≤ i → with_front front (many_at read (count - i) bytes) ≡ total → total ≡ Some (front, bytes)
unfolding many_at
is_done read front count i bytes total le h =
    let step : count - i ≡ 0 = omega arith in
    let is : many_at read (count - i) bytes ≡ Some ([], bytes) = rw step refl in
    sym h ∙ ap (with_front front) is ∙ rw (append-nil front) refl

-- ---- in a loop that passes values over

rest_behind : {A : Type 0} (o : Option (List A × List ℕ)) (x : A) → rest_of (o >>= λ others. Some (x ∷ others.0, others.1)) ≡ rest_of o
rest_behind None x = refl
rest_behind (Some y) x = refl

pub passes_on : {A : Type 0} (read : List ℕ → Option (A × List ℕ)) (count i : ℕ) (bytes rest : List ℕ) (total : Option (List ℕ)) → i < count → rest_of (read bytes) ≡ Some rest
    → rest_of (many_at read (count - i) bytes) ≡ total → rest_of (many_at read (count - (i + 1)) rest) ≡ total
passes_on {A} read count i bytes rest total lt e h = passed (read bytes) refl e
  where
    step : count - i ≡ suc (count - (i + 1))
    step = omega arith

    passed : (o : Option (A × List ℕ)) → read bytes ≡ o → rest_of o ≡ Some rest → rest_of (many_at read (count - (i + 1)) rest) ≡ total
    passed None is says = absurd (none_not_some rest says)
    passed (Some x) is says =
        let at : read bytes ≡ Some (x.0, rest) = is ∙ ap (λ r. Some (x.0, r)) (some_is x.1 rest says) in
        sym (rest_behind (many_at read (count - (i + 1)) rest) x.0) ∙ ap rest_of (sym (next_is read (count - (i + 1)) bytes x.0 rest at)) ∙ ap (λ n. rest_of (many_at read n bytes)) (sym step) ∙ h

pub passes_none : {A : Type 0} (read : List ℕ → Option (A × List ℕ)) (count i : ℕ) (bytes : List ℕ) (total : Option (List ℕ)) → i < count → rest_of (read bytes) ≡ None
    → rest_of (many_at read (count - i) bytes) ≡ total → total ≡ None
passes_none {A} read count i bytes total lt e h = passed (read bytes) refl e
  where
    step : count - i ≡ suc (count - (i + 1))
    step = omega arith

    passed : (o : Option (A × List ℕ)) → read bytes ≡ o → rest_of o ≡ None → total ≡ None
    passed None is says = sym h ∙ ap (λ n. rest_of (many_at read n bytes)) step ∙ ap rest_of (none_is read (count - (i + 1)) bytes is)
    passed (Some x) is says = absurd (none_not_some x.1 (sym says))

pub passed_all : {A : Type 0} (read : List ℕ → Option (A × List ℕ)) (count i : ℕ) (bytes : List ℕ) (total : Option (List ℕ)) → count ≤ i → rest_of (many_at read (count - i) bytes) ≡ total → total ≡ Some bytes
unfolding many_at
passed_all read count i bytes total le h =
    let step : count - i ≡ 0 = omega arith in
    sym h ∙ ap (λ n. rest_of (many_at read n bytes)) step
