-- Where all rows of a connection stand from one place to another, who goes over those alone has gone over all.
use Rattle.std.proofs.Common.{◌≡◌, ℕ, zero, suc, ◌≤◌, ◌==◌, ◌+◌, ◌-◌, ◌++◌, ◌∷◌, Bool, true, false, not, ◌&&◌, ◌||◌, cond, List, [], length, Some, refl, sym, ap, ap₂, ◌∙◌, map, take, drop, arith, slice_get, is_none, is_ok, subst, Result, Ok, Err, OnOk}
use Rattle.std.proofs.lemmas.Bool.{eqb-true, false≢true}
use Rattle.std.proofs.lemmas.Bool.Decides.{nat_tests}
use Rattle.std.proofs.lemmas.List.{drop-drop, length-map, map-append, take-append-drop}
use Rattle.std.proofs.Math.Seq.{take-append_seam}
use Rattle.owned_lists.specs.declared.failures.NoMemory.{NoMemory}
use Rattle.round_agreement.specs.Agreement.{are_distinct}
use Rattle.round_agreement.proofs.BoolLaws.{left, right, head-apart, tail-apart, both}
use Rattle.round_agreement.proofs.CountLaws.{once-without}
use Rattle.interact_queue.specs.Queue.{is_in, without}
use Rattle.session_model.proofs.Lists.{in-append}
use Rattle.session_clients.specs.declared.client.Client.{Client}
use Rattle.session_clients.specs.Clients.{conns_in, no_client, without_row}
use Rattle.session_clients.specs.Rows.{StandsWithin, is_of, row_in}

neither : (a b : Bool) → a ≡ false → b ≡ false → (a || b) ≡ false
neither true b e f = e
neither false b e f = f

-- ---- a list in three parts

abbrev middle : ℕ → ℕ → List Client → List Client
middle start end rows = take (end - start) (drop start rows)

in-three : (rows : List Client) (start end : ℕ) → start ≤ end → rows ≡ take start rows ++ (middle start end rows ++ drop end rows)
in-three rows start end in_order =
    let rest : drop (end - start) (drop start rows) ≡ drop end rows = drop-drop (end - start) start rows ∙ ap (λ (k : ℕ). drop k rows) (omega (arith, in_order)) in
    sym (take-append-drop start rows) ∙ ap (λ (xs : List Client). take start rows ++ xs) (sym (take-append-drop (end - start) (drop start rows)) ∙ ap (λ (xs : List Client). middle start end rows ++ xs) rest)

-- ---- a step that leaves the rows of other connections as they are

abbrev pub IsFor : ℕ → (Client → Client) → Type 0
IsFor c f = (k : Client) → (k.conn == c) ≡ false → f k ≡ k

untouched : (c : ℕ) (f : Client → Client) → IsFor c f → (rows : List Client) → is_in c (conns_in rows) ≡ false → map f rows ≡ rows
untouched c f for [] none = refl
untouched c f for (k ∷ ks) none =
    ap₂ (λ x xs. x ∷ xs) (for k (left (k.conn == c) (is_in c (conns_in ks)) none)) (untouched c f for ks (right (k.conn == c) (is_in c (conns_in ks)) none))

within : (c : ℕ) (f : Client → Client) → IsFor c f → (rows : List Client) (start end : ℕ) → StandsWithin c rows start end → take start rows ++ (map f (middle start end rows) ++ drop end rows) ≡ map f rows
within c f for rows start end stands =
    ap₂ (λ front back. front ++ (map f (middle start end rows) ++ back)) (sym (untouched c f for (take start rows) stands.none_before)) (sym (untouched c f for (drop end rows) stands.none_behind))
    ∙ ap (λ xs. map f (take start rows) ++ xs) (sym (map-append f (middle start end rows) (drop end rows)))
    ∙ sym (map-append f (take start rows) (middle start end rows ++ drop end rows))
    ∙ ap (map f) (sym (in-three rows start end stands.in_order))

-- these in the place of the middle
abbrev pub put : ℕ → ℕ → List Client → List Client → List Client
put start end rows new = take start rows ++ (new ++ drop (end - start) (drop start rows))

put-within : (c : ℕ) (f : Client → Client) → IsFor c f → (rows : List Client) (start end : ℕ) → StandsWithin c rows start end → put start end rows (map f (middle start end rows)) ≡ map f rows
put-within c f for rows start end stands =
    let rest : drop (end - start) (drop start rows) ≡ drop end rows = drop-drop (end - start) start rows ∙ ap (λ (k : ℕ). drop k rows) (omega (arith, stands.in_order)) in
    ap (λ (xs : List Client). take start rows ++ (map f (middle start end rows) ++ xs)) rest ∙ within c f for rows start end stands

-- what a step leaves in a vector whose rows were lent
pub changed-all : (f : Client → Client) (items lent new : List Client) (len : ℕ) → lent ≡ items → length lent ≡ len → new ≡ map f lent → take len (new ++ drop (length new) items) ≡ map f items
changed-all f items lent new len is long are =
    let all : new ≡ map f items = are ∙ ap (map f) is in
    let as_long : len ≡ length new = sym long ∙ sym (length-map lent f) ∙ ap (λ (xs : List Client). length xs) (sym are) in
    ap (λ (n : ℕ). take n (new ++ drop (length new) items)) as_long ∙ take-append_seam new (drop (length new) items) ∙ all

pub changed : (c : ℕ) (f : Client → Client) → IsFor c f → (items lent new : List Client) (start end len : ℕ) → lent ≡ items → length lent ≡ len → StandsWithin c items start end → new ≡ map f (middle start end lent) → take len (put start end lent new ++ drop (length (put start end lent new)) items) ≡ map f items
changed c f for items lent new start end len is long stands are =
    let same : put start end lent new ≡ map f lent =
    ap (put start end lent) are ∙ put-within c f for lent start end (subst (λ (rows : List Client). StandsWithin c rows start end) (sym is) stands) in
    changed-all f items lent (put start end lent new) len is long same

-- ---- which places those are

has-of : (c n : ℕ) (rows : List Client) → is_of c (slice_get rows n) ≡ true → is_in c (conns_in rows) ≡ true
has-of c n [] of = of
has-of c zero (k ∷ ks) of = rw of refl
has-of c (suc n) (k ∷ ks) of = by (k.conn == c) (has-of c n ks of)
  where
    by : (b : Bool) → is_in c (conns_in ks) ≡ true → (b || is_in c (conns_in ks)) ≡ true
    by true rest = refl
    by false rest = rest

none-in-front : (c n : ℕ) (rows : List Client) → are_distinct (conns_in rows) ≡ true → is_of c (slice_get rows n) ≡ true → is_in c (conns_in (take n rows)) ≡ false
none-in-front c n [] once of = absurd cc
none-in-front c zero (k ∷ ks) once of = refl
none-in-front c (suc n) (k ∷ ks) once of =
    by (k.conn == c) refl (none-in-front c n ks (tail-apart (is_in k.conn (conns_in ks)) (are_distinct (conns_in ks)) once) of)
  where
    by : (b : Bool) → (k.conn == c) ≡ b → is_in c (conns_in (take n ks)) ≡ false → is_in c (conns_in (k ∷ take n ks)) ≡ false
    by true is rest =
        let twice : is_in k.conn (conns_in ks) ≡ true = ap (λ (d : ℕ). is_in d (conns_in ks)) (eqb-true k.conn c is) ∙ has-of c n ks of in
        absurd (false≢true (sym (head-apart (is_in k.conn (conns_in ks)) (are_distinct (conns_in ks)) once) ∙ twice))
    by false other rest = neither (k.conn == c) (is_in c (conns_in (take n ks))) other rest

none-after : (c n : ℕ) (rows : List Client) → are_distinct (conns_in rows) ≡ true → is_of c (slice_get rows n) ≡ true → is_in c (conns_in (drop (suc n) rows)) ≡ false
none-after c n [] once of = absurd cc
none-after c zero (k ∷ ks) once of =
    ap (λ (d : ℕ). is_in d (conns_in ks)) (sym (eqb-true k.conn c of)) ∙ head-apart (is_in k.conn (conns_in ks)) (are_distinct (conns_in ks)) once
none-after c (suc n) (k ∷ ks) once of = none-after c n ks (tail-apart (is_in k.conn (conns_in ks)) (are_distinct (conns_in ks)) once) of

there : (c n : ℕ) (rows : List Client) → is_of c (slice_get rows n) ≡ true → n + 1 ≤ length rows
there c n [] of = absurd cc
there c zero (k ∷ ks) of = omega arith
there c (suc n) (k ∷ ks) of = omega (arith, there c n ks of)

pub stands-alone : (c n : ℕ) (rows : List Client) → are_distinct (conns_in rows) ≡ true → is_of c (slice_get rows n) ≡ true → StandsWithin c rows n (n + 1)
stands-alone c n rows once of =
    let next : n + 1 ≡ suc n = omega arith in
    record {
      in_order = omega arith;
      inside = there c n rows of;
      none_before = none-in-front c n rows once of;
      none_behind = ap (λ (k : ℕ). is_in c (conns_in (drop k rows))) next ∙ none-after c n rows once of;
    }

-- ---- the only row of a connection

pub only-row : (c n : ℕ) (rows : List Client) → are_distinct (conns_in rows) ≡ true → is_of c (slice_get rows n) ≡ true → slice_get rows n ≡ row_in c rows
only-row c n [] once of = absurd cc
only-row c zero (k ∷ ks) once of = rw of refl
only-row c (suc n) (k ∷ ks) once of =
    by (k.conn == c) refl (only-row c n ks (tail-apart (is_in k.conn (conns_in ks)) (are_distinct (conns_in ks)) once) of)
  where
    by : (b : Bool) → (k.conn == c) ≡ b → slice_get ks n ≡ row_in c ks → slice_get ks n ≡ row_in c (k ∷ ks)
    by true is rest =
        let twice : is_in k.conn (conns_in ks) ≡ true = ap (λ (d : ℕ). is_in d (conns_in ks)) (eqb-true k.conn c is) ∙ has-of c n ks of in
        absurd (false≢true (sym (head-apart (is_in k.conn (conns_in ks)) (are_distinct (conns_in ks)) once) ∙ twice))
    by false other rest = rw other rest

-- ---- that no connection stands twice

conns-kept : (f : Client → Client) → ((k : Client) → (f k).conn ≡ k.conn) → (rows : List Client) → conns_in (map f rows) ≡ conns_in rows
conns-kept f keeps [] = refl
conns-kept f keeps (k ∷ ks) = ap₂ (λ x xs. x ∷ xs) (keeps k) (conns-kept f keeps ks)

conns-without : (c : ℕ) (rows : List Client) → conns_in (without_row c rows) ≡ without c (conns_in rows)
conns-without c [] = refl
conns-without c (k ∷ ks) = by (not (k.conn == c)) (conns-without c ks)
  where
    by : (b : Bool) → conns_in (without_row c ks) ≡ without c (conns_in ks) → conns_in (cond b (k ∷ without_row c ks) (without_row c ks)) ≡ cond b (k.conn ∷ without c (conns_in ks)) (without c (conns_in ks))
    by true rest = ap (λ xs. k.conn ∷ xs) rest
    by false rest = rest

distinct-push : (c : ℕ) (cs : List ℕ) → are_distinct cs ≡ true → is_in c cs ≡ false → are_distinct (cs ++ c ∷ []) ≡ true
distinct-push c [] once new = refl
distinct-push c (d ∷ cs) once new =
    both (is_in d (cs ++ c ∷ [])) (are_distinct (cs ++ c ∷ [])) (grind (arith, nat_tests, in-append d cs (c ∷ []), head-apart (is_in d cs) (are_distinct cs) once))
    (distinct-push c cs (tail-apart (is_in d cs) (are_distinct cs) once) (right (d == c) (is_in c cs) new))

conns-push : (c : ℕ) (rows : List Client) → conns_in (rows ++ no_client c ∷ []) ≡ conns_in rows ++ c ∷ []
conns-push c [] = refl
conns-push c (k ∷ ks) = ap (λ xs. k.conn ∷ xs) (conns-push c ks)

none-found : (c : ℕ) (rows : List Client) → is_none (row_in c rows) ≡ true → is_in c (conns_in rows) ≡ false
none-found c [] none = refl
none-found c (k ∷ ks) none = by (k.conn == c) (none-found c ks) none
  where
    by : (b : Bool) → (is_none (row_in c ks) ≡ true → is_in c (conns_in ks) ≡ false) → is_none (cond b (Some k) (row_in c ks)) ≡ true → (b || is_in c (conns_in ks)) ≡ false
    by true rest none = sym none
    by false rest none = rest none

-- ---- what is known while each connection has one row

abbrev pub Once : Bool → List Client → Type 0
Once b rows = b ≡ true → are_distinct (conns_in rows) ≡ true

pub once-kept : (b : Bool) (f : Client → Client) (rows new : List Client) → ((k : Client) → (f k).conn ≡ k.conn) → new ≡ map f rows → Once b rows → Once b new
once-kept b f rows new keeps are once = λ is. ap (λ xs. are_distinct (conns_in xs)) are ∙ ap (λ cs. are_distinct cs) (conns-kept f keeps rows) ∙ once is

pub once-left : (b : Bool) (c : ℕ) (rows new : List Client) → new ≡ without_row c rows → Once b rows → Once b new
once-left b c rows new are once = λ is. ap (λ xs. are_distinct (conns_in xs)) are ∙ ap (λ cs. are_distinct cs) (conns-without c rows) ∙ once-without c (conns_in rows) (once is)

first-of-both : (a b : Bool) → (a && b) ≡ true → a ≡ true
first-of-both true b e = refl
first-of-both false b e = e

second-of-both : (a b : Bool) → (a && b) ≡ true → b ≡ true
second-of-both true b e = e
second-of-both false b e = absurd cc

pub once-joined : (a b : Bool) (c : ℕ) (rows : List Client) → b ≡ is_none (row_in c rows) → Once a rows → Once (a && b) (rows ++ no_client c ∷ [])
once-joined a b c rows new once = λ is.
    let apart : is_in c (conns_in rows) ≡ false = none-found c rows (sym new ∙ second-of-both a b is) in
    ap (λ cs. are_distinct cs) (conns-push c rows) ∙ distinct-push c (conns_in rows) (once (first-of-both a b is)) apart

pub once-ok : (b ok : Bool) (r : Result (Unit {0}) NoMemory) (f : Client → Client) (rows new : List Client) → ok ≡ is_ok r → ((k : Client) → (f k).conn ≡ k.conn) → OnOk r (new ≡ map f rows) → Once b rows → Once (b && ok) new
once-ok b ok (Ok x) f rows new is keeps are once = λ both-are. once-kept b f rows new keeps are once (first-of-both b ok both-are)
once-ok b ok (Err e) f rows new is keeps are once = λ both-are. absurd (false≢true (sym is ∙ second-of-both b ok both-are))
