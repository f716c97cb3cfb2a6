-- What is counted of a round's members, as one of them stops saving and as one leaves. Each connection stands once.
use Rattle.std.proofs.Common.{◌≡◌, ℕ, zero, suc, ◌<◌, ◌≤◌, ◌+◌, ◌-◌, ◌==◌, subst, Bool, true, false, not, cond, ◌&&◌, ◌||◌, List, [], ◌∷◌, length, Some, None, refl, sym, ap, ap₂, ◌∙◌, arith, position, slice_index_or, slice_set}
use Rattle.std.specs.Prelude.{filter}
use Rattle.std.specs.List.{HoldsAt, list_all, list_any, position_or_len}
use Rattle.std.specs.Ordering.{nat_cmp}
use Rattle.std.specs.declared.cmp.Ordering.TheVariants.{Equal}
use Rattle.std.proofs.lemmas.Bool.{eqb-true, false≢true}
use Rattle.std.proofs.lemmas.Bool.Decides.{nat_tests}
use Rattle.std.proofs.lemmas.Grind.{common_steps}
use Rattle.std.proofs.lemmas.Map.Lookups.{exact_unsigned}
use Rattle.round_agreement.specs.declared.round.Member.{Member}
use Rattle.round_agreement.specs.declared.round.Step.{Step}
use Rattle.round_agreement.specs.declared.round.Step.TheVariants.{Saving, WantsTwo, SavingTwo, Done}
use Rattle.round_agreement.specs.Agreement.{is_at, is_done, is_first_saving, is_saving, wants_two, are_distinct, conns_of, count_at, all_saving, moved, with_step, second_step, with_second, two_ready, all_done}
use Rattle.round_agreement.proofs.BoolLaws.{left, right, head-apart, tail-apart, both}
use Rattle.round_agreement.proofs.MemberLaws.{conns-moved, conns-saving, conns-second}

-- one of them is of this connection
abbrev has : ℕ → List ℕ → Bool
has c conns = list_any (λ other. other == c) conns

-- a member of these parts
abbrev made : ℕ → Step → Member
made c step = record { conn = c; step = step }

first : (t a b : Bool) → t ≡ true → b ≡ false → ((t && a) || b) ≡ true → a ≡ true
first true true b e f g = refl
first true false b e f g = sym f ∙ g
first false a b e f g = absurd cc

later : (t a b : Bool) → t ≡ false → ((t && a) || b) ≡ true → b ≡ true
later true a b e g = absurd cc
later false a b e g = g

-- ---- who isn't there

stays : (c : ℕ) (step : Step) (ms : List Member) → has c (conns_of ms) ≡ false → with_step c step ms ≡ ms
stays c step [] absent = refl
stays c step (m ∷ ms) absent =
    let other : (m.conn == c) ≡ false = left (m.conn == c) (has c (conns_of ms)) absent in
    ap₂ (λ x xs. x ∷ xs) (rw other refl) (stays c step ms (right (m.conn == c) (has c (conns_of ms)) absent))

not-at : (test : Step → Bool) (c : ℕ) (ms : List Member) → has c (conns_of ms) ≡ false → is_at test c ms ≡ false
not-at test c [] absent = refl
not-at test c (m ∷ ms) absent =
    let other : (m.conn == c) ≡ false = left (m.conn == c) (has c (conns_of ms)) absent in
    rw other (not-at test c ms (right (m.conn == c) (has c (conns_of ms)) absent))

-- a later member is of another connection than the first
apart : (c : ℕ) (m : Member) (ms : List Member) → (m.conn == c) ≡ true → are_distinct (conns_of (m ∷ ms)) ≡ true → has c (conns_of ms) ≡ false
apart c m ms is once =
    ap (λ (d : ℕ). has d (conns_of ms)) (sym (eqb-true m.conn c is)) ∙ head-apart (has m.conn (conns_of ms)) (are_distinct (conns_of ms)) once

-- ---- where one stops saving

count-cons : (test : Step → Bool) (m : Member) (ms : List Member) → count_at test (m ∷ ms) ≡ cond (test m.step) 1 0 + count_at test ms
count-cons test m ms = by (test m.step)
  where
    by : (b : Bool) → length (cond b (m ∷ filter (λ (k : Member). test k.step) ms) (filter (λ (k : Member). test k.step) ms)) ≡ cond b 1 0 + count_at test ms
    by true = omega arith
    by false = omega arith

abbrev Less : ℕ → Step → List Member → Type 0
Less c step ms = count_at is_saving ms ≡ count_at is_saving (with_step c step ms) + 1

less-here : (c : ℕ) (step : Step) (m : Member) (ms : List Member) → (m.conn == c) ≡ true → has c (conns_of ms) ≡ false → is_at is_saving c (m ∷ ms) ≡ true → is_saving step ≡ false → Less c step (m ∷ ms)
less-here c step m ms is absent at stops =
    let saves : is_saving m.step ≡ true = first (m.conn == c) (is_saving m.step) (is_at is_saving c ms) is (not-at is_saving c ms absent) at in
    let before : count_at is_saving (m ∷ ms) ≡ 1 + count_at is_saving ms = count-cons is_saving m ms ∙ ap (λ b. cond b 1 0 + count_at is_saving ms) saves in
    let stopped : is_saving (moved c step m).step ≡ false = ap (λ b. is_saving (cond b step m.step)) is ∙ stops in
    let after : count_at is_saving (with_step c step (m ∷ ms)) ≡ 0 + count_at is_saving ms = count-cons is_saving (moved c step m) (with_step c step ms) ∙ ap₂ (λ b xs. cond b 1 0 + count_at is_saving xs) stopped (stays c step ms absent) in
    omega (arith, before, after)

less-later : (c : ℕ) (step : Step) (m : Member) (ms : List Member) → (m.conn == c) ≡ false → Less c step ms → Less c step (m ∷ ms)
less-later c step m ms other less =
    let before : count_at is_saving (m ∷ ms) ≡ cond (is_saving m.step) 1 0 + count_at is_saving ms = count-cons is_saving m ms in
    let after : count_at is_saving (with_step c step (m ∷ ms)) ≡ cond (is_saving m.step) 1 0 + count_at is_saving (with_step c step ms) = count-cons is_saving (moved c step m) (with_step c step ms) ∙ ap (λ b. cond (is_saving (cond b step m.step)) 1 0 + count_at is_saving (with_step c step ms)) other in
    omega (arith, before, after, less)

one-less : (c : ℕ) (step : Step) (ms : List Member) → are_distinct (conns_of ms) ≡ true → is_at is_saving c ms ≡ true → is_saving step ≡ false → Less c step ms
one-less c step [] once at stops = absurd cc
one-less c step (m ∷ ms) once at stops = by (m.conn == c) refl (one-less c step ms (tail-apart (has m.conn (conns_of ms)) (are_distinct (conns_of ms)) once))
  where
    by : (b : Bool) → (m.conn == c) ≡ b → (is_at is_saving c ms ≡ true → is_saving step ≡ false → Less c step ms) → Less c step (m ∷ ms)
    by true is less = less-here c step m ms is (apart c m ms is once) at stops
    by false other less = less-later c step m ms other (less (later (m.conn == c) (is_saving m.step) (is_at is_saving c ms) other at) stops)

-- one of them waits for the second phase
abbrev is_wanted : List Member → Bool
is_wanted ms = list_any (λ m. wants_two m.step) ms

saves-now : (step : Step) → is_saving step ≡ true → wants_two step ≡ false
saves-now Saving e = refl
saves-now WantsTwo e = sym e
saves-now SavingTwo e = refl
saves-now (Done success) e = refl

or-swapped : (s a w : Bool) → w ≡ false → (s || a) ≡ ((w || a) || s)
or-swapped true true true e = refl
or-swapped true false true e = refl
or-swapped true true false e = refl
or-swapped true false false e = refl
or-swapped false true w e = grind (arith, nat_tests)
or-swapped false false w e = grind (arith, nat_tests)

or-later : (w a s : Bool) → (w || (a || s)) ≡ ((w || a) || s)
or-later true a s = refl
or-later false a s = refl

more-wanted : (c : ℕ) (step : Step) (ms : List Member) → are_distinct (conns_of ms) ≡ true → is_at is_saving c ms ≡ true → is_wanted (with_step c step ms) ≡ (is_wanted ms || wants_two step)
more-wanted c step [] once at = absurd cc
more-wanted c step (m ∷ ms) once at = by (m.conn == c) refl (more-wanted c step ms (tail-apart (has m.conn (conns_of ms)) (are_distinct (conns_of ms)) once))
  where
    by : (b : Bool) → (m.conn == c) ≡ b → (is_at is_saving c ms ≡ true → is_wanted (with_step c step ms) ≡ (is_wanted ms || wants_two step)) → is_wanted (with_step c step (m ∷ ms)) ≡ (is_wanted (m ∷ ms) || wants_two step)
    by true is rest =
        let absent : has c (conns_of ms) ≡ false = apart c m ms is once in
        let saves : is_saving m.step ≡ true = first (m.conn == c) (is_saving m.step) (is_at is_saving c ms) is (not-at is_saving c ms absent) at in
        ap₂ (λ b xs. wants_two (cond b step m.step) || is_wanted xs) is (stays c step ms absent) ∙ or-swapped (wants_two step) (is_wanted ms) (wants_two m.step) (saves-now m.step saves)
    by false other rest =
        ap₂ (λ b (w : Bool). wants_two (cond b step m.step) || w) other (rest (later (m.conn == c) (is_saving m.step) (is_at is_saving c ms) other at)) ∙ or-later (wants_two m.step) (is_wanted ms) (wants_two step)

first-by : (t : Bool) (s : Step) (a b : Bool) → (a ≡ true → b ≡ true) → ((t && is_first_saving s) || a) ≡ true → ((t && is_saving s) || b) ≡ true
first-by true Saving a b f e = refl
first-by true WantsTwo a b f e = f e
first-by true SavingTwo a b f e = refl
first-by true (Done success) a b f e = f e
first-by false s a b f e = f e

-- who saves in the first phase saves
pub first-saves : (c : ℕ) (ms : List Member) → is_at is_first_saving c ms ≡ true → is_at is_saving c ms ≡ true
first-saves c [] at = at
first-saves c (m ∷ ms) at = first-by (m.conn == c) m.step (is_at is_first_saving c ms) (is_at is_saving c ms) (first-saves c ms) at

-- ---- where one is set in its place

abbrev place : ℕ → List ℕ → ℕ
place c conns = position_or_len (λ other. other == c) conns

same : (c : ℕ) (step : Step) (m : Member) → (m.conn == c) ≡ true → made c step ≡ moved c step m
same c step m is = ap₂ (λ (d : ℕ) (s : Step). made d s) (sym (eqb-true m.conn c is)) (sym (ap (λ b. cond b step m.step) is))

set-at : (c : ℕ) (step : Step) (ms : List Member) (n : ℕ) → are_distinct (conns_of ms) ≡ true → place c (conns_of ms) ≡ n → n < length (conns_of ms) → slice_set ms n (made c step) ≡ with_step c step ms
set-at c step [] n once at inside = absurd (omega (arith, inside))
set-at c step (m ∷ ms) zero once at inside = by (m.conn == c) refl
  where
    by : (b : Bool) → (m.conn == c) ≡ b → (made c step ∷ ms) ≡ with_step c step (m ∷ ms)
    by true is = ap₂ (λ x xs. x ∷ xs) (same c step m is) (sym (stays c step ms (apart c m ms is once)))
    by false other =
        let more : place c (conns_of (m ∷ ms)) ≡ 1 + place c (conns_of ms) = rw other refl in
        absurd (omega (arith, more, at))
set-at c step (m ∷ ms) (suc n) once at inside = by (m.conn == c) refl (set-at c step ms n (tail-apart (has m.conn (conns_of ms)) (are_distinct (conns_of ms)) once))
  where
    by : (b : Bool) → (m.conn == c) ≡ b → (place c (conns_of ms) ≡ n → n < length (conns_of ms) → slice_set ms n (made c step) ≡ with_step c step ms) → (m ∷ slice_set ms n (made c step)) ≡ with_step c step (m ∷ ms)
    by true is rest =
        let none : place c (conns_of (m ∷ ms)) ≡ 0 = rw is refl in
        absurd (omega (arith, none, at))
    by false other rest =
        let more : place c (conns_of (m ∷ ms)) ≡ 1 + place c (conns_of ms) = rw other refl in
        ap₂ (λ x xs. x ∷ xs) (ap (λ b. made m.conn (cond b step m.step)) (sym other)) (rest (omega (arith, more, at)) (omega (arith, inside)))

pub set-in-place : (c : ℕ) (step : Step) (ms : List Member) (conns : List ℕ) (n : ℕ) → conns ≡ conns_of ms → are_distinct conns ≡ true → position (λ other. other == c) conns ≡ Some n → slice_set ms n (record { conn = c; step = step }) ≡ with_step c step ms
set-in-place c step ms conns n are once is =
    let at : place c conns ≡ n = grind (arith, common_steps) in
    let inside : n < length conns = grind (arith, common_steps) in
    set-at c step ms n (ap (λ cs. are_distinct cs) (sym are) ∙ once) (ap (λ cs. place c cs) (sym are) ∙ at) (subst (λ (cs : List ℕ). n < length cs) are inside)

-- ---- the one place of a connection

is-same : (d c : ℕ) → d ≡ c → (d == c) ≡ true
is-same d c e = grind (arith, nat_tests, e)

has-at : (c n : ℕ) (conns : List ℕ) → n < length conns → slice_index_or conns n 0 ≡ c → has c conns ≡ true
has-at c n [] inside at = absurd (omega (arith, inside))
has-at c zero (d ∷ conns) inside at = rw (is-same d c at) refl
has-at c (suc n) (d ∷ conns) inside at = by (d == c) (has-at c n conns (omega (arith, inside)) at)
  where
    by : (b : Bool) → has c conns ≡ true → (b || has c conns) ≡ true
    by true rest = refl
    by false rest = rest

placed : (c n : ℕ) (conns : List ℕ) → are_distinct conns ≡ true → n < length conns → slice_index_or conns n 0 ≡ c → place c conns ≡ n
placed c n [] once inside at = absurd (omega (arith, inside))
placed c zero (d ∷ conns) once inside at = rw (is-same d c at) refl
placed c (suc n) (d ∷ conns) once inside at =
    by (d == c) refl (placed c n conns (tail-apart (has d conns) (are_distinct conns) once) (omega (arith, inside)) at)
  where
    by : (b : Bool) → (d == c) ≡ b → place c conns ≡ n → place c (d ∷ conns) ≡ suc n
    by true is rest =
        let twice : has d conns ≡ true = ap (λ (e : ℕ). has e conns) (eqb-true d c is) ∙ has-at c n conns (omega (arith, inside)) at in
        absurd (false≢true (sym (head-apart (has d conns) (are_distinct conns) once) ∙ twice))
    by false other rest =
        let more : place c (d ∷ conns) ≡ 1 + place c conns = rw other refl in
        omega (arith, more, rest)

pub found-at : (c n : ℕ) (conns : List ℕ) → are_distinct conns ≡ true → n < length conns → HoldsAt (λ (other : ℕ). nat_cmp other c ≡ Equal) conns n → Some n ≡ position (λ other. other == c) conns
found-at c n conns once inside equal =
    let at : place c conns ≡ n = placed c n conns once inside (exact_unsigned (slice_index_or conns n 0) c (equal 0)) in
    grind (arith, common_steps, at)

absent-past : (c : ℕ) (conns : List ℕ) → length conns ≤ place c conns → has c conns ≡ false
absent-past c [] past = refl
absent-past c (d ∷ conns) past = by (d == c) refl (absent-past c conns)
  where
    by : (b : Bool) → (d == c) ≡ b → (length conns ≤ place c conns → has c conns ≡ false) → has c (d ∷ conns) ≡ false
    by true is rest =
        let none : place c (d ∷ conns) ≡ 0 = rw is refl in
        absurd (omega (arith, none, past))
    by false other rest =
        let more : place c (d ∷ conns) ≡ 1 + place c conns = rw other refl in
        rw other (rest (omega (arith, more, past)))

pub nowhere : (c : ℕ) (step : Step) (ms : List Member) (conns : List ℕ) → conns ≡ conns_of ms → position (λ other. other == c) conns ≡ None → ms ≡ with_step c step ms
nowhere c step ms conns are none =
    let past : length conns ≤ place c conns = grind (arith, common_steps) in
    sym (stays c step ms (ap (λ cs. has c cs) (sym are) ∙ absent-past c conns past))

-- ---- what the counts say

saving-all : (conns : List ℕ) → length conns ≡ count_at is_saving (all_saving conns)
saving-all [] = refl
saving-all (c ∷ cs) = ap suc (saving-all cs)

none-wanted : (conns : List ℕ) → false ≡ is_wanted (all_saving conns)
none-wanted [] = refl
none-wanted (c ∷ cs) = none-wanted cs

none-by : (s : Step) (b : Bool) → false ≡ b → false ≡ (wants_two (second_step s) || b)
none-by Saving b e = e
none-by WantsTwo b e = e
none-by SavingTwo b e = e
none-by (Done success) b e = e

none-left-wanted : (ms : List Member) → false ≡ is_wanted (with_second ms)
none-left-wanted [] = refl
none-left-wanted (m ∷ ms) = none-by m.step (is_wanted (with_second ms)) (none-left-wanted ms)

has-without : (c d : ℕ) (cs : List ℕ) → has c cs ≡ false → has c (filter (λ other. not (other == d)) cs) ≡ false
has-without c d [] absent = refl
has-without c d (x ∷ cs) absent = by (not (x == d)) (has-without c d cs (right (x == c) (has c cs) absent))
  where
    by : (b : Bool) → has c (filter (λ other. not (other == d)) cs) ≡ false → has c (cond b (x ∷ filter (λ other. not (other == d)) cs) (filter (λ other. not (other == d)) cs)) ≡ false
    by true rest = rw (left (x == c) (has c cs) absent) rest
    by false rest = rest

pub once-without : (d : ℕ) (cs : List ℕ) → are_distinct cs ≡ true → are_distinct (filter (λ other. not (other == d)) cs) ≡ true
once-without d [] once = refl
once-without d (x ∷ cs) once = by (not (x == d)) (once-without d cs (tail-apart (has x cs) (are_distinct cs) once))
  where
    by : (b : Bool) → are_distinct (filter (λ other. not (other == d)) cs) ≡ true → are_distinct (cond b (x ∷ filter (λ other. not (other == d)) cs) (filter (λ other. not (other == d)) cs)) ≡ true
    by true rest = both (has x (filter (λ other. not (other == d)) cs)) (are_distinct (filter (λ other. not (other == d)) cs)) (has-without x d cs (head-apart (has x cs) (are_distinct cs) once)) rest
    by false rest = rest

nobody-by : (s : Step) (n : ℕ) (b : Bool) → (n == 0) ≡ b → (cond (is_saving s) 1 0 + n == 0) ≡ ((is_done s || wants_two s) && b)
nobody-by Saving n b e = grind (arith, nat_tests)
nobody-by WantsTwo n b e = grind (arith, nat_tests)
nobody-by SavingTwo n b e = grind (arith, nat_tests)
nobody-by (Done success) n b e = grind (arith, nat_tests)

nobody-saves : (ms : List Member) → (count_at is_saving ms == 0) ≡ list_all (λ (m : Member). is_done m.step || wants_two m.step) ms
nobody-saves [] = refl
nobody-saves (m ∷ ms) = ap (λ (n : ℕ). n == 0) (count-cons is_saving m ms) ∙ nobody-by m.step (count_at is_saving ms) (list_all (λ (k : Member). is_done k.step || wants_two k.step) ms) (nobody-saves ms)

done-by : (s : Step) (n : ℕ) (w b : Bool) → ((n == 0) && not w) ≡ b → ((cond (is_saving s) 1 0 + n == 0) && not (wants_two s || w)) ≡ (is_done s && b)
done-by Saving n w b e = grind (arith, nat_tests)
done-by WantsTwo n w b e = grind (arith, nat_tests)
done-by SavingTwo n w b e = grind (arith, nat_tests)
done-by (Done success) n w b e = grind (arith, nat_tests)

all-are-done : (ms : List Member) → ((count_at is_saving ms == 0) && not (is_wanted ms)) ≡ all_done ms
all-are-done [] = refl
all-are-done (m ∷ ms) = ap (λ (n : ℕ). (n == 0) && not (is_wanted (m ∷ ms))) (count-cons is_saving m ms) ∙ done-by m.step (count_at is_saving ms) (is_wanted ms) (all_done ms) (all-are-done ms)

-- ---- what the round asks of its counts

pub second-can : (ms : List Member) (n : ℕ) (w : Bool) → n ≡ count_at is_saving ms → w ≡ is_wanted ms → ((n == 0) && w) ≡ two_ready ms
second-can ms n w counted wanted = ap₂ (λ (k : ℕ) v. (k == 0) && v) counted wanted ∙ ap (λ b. b && is_wanted ms) (nobody-saves ms)

pub all-can : (ms : List Member) (n : ℕ) (w : Bool) → n ≡ count_at is_saving ms → w ≡ is_wanted ms → ((n == 0) && not w) ≡ all_done ms
all-can ms n w counted wanted = ap₂ (λ (k : ℕ) v. (k == 0) && not v) counted wanted ∙ all-are-done ms

pub then-is : (n : ℕ) (b : Bool) → n ≡ 0 → b ≡ ((n == 0) && b)
then-is n b e = rw e refl

pub else-is : (n : ℕ) (b : Bool) → (n ≡ 0 → ⊥) → (n == 0) ≡ ((n == 0) && b)
else-is n b apart = grind (arith, nat_tests)

-- what a round holds beside its members fits them
abbrev pub Counts : List Member → List ℕ → ℕ → Bool → Type 0
Counts ms conns n w = (conns ≡ conns_of ms) × (are_distinct conns ≡ true) × (n ≡ count_at is_saving ms) × (w ≡ is_wanted ms)

pub begun : (ms : List Member) (conns : List ℕ) (n : ℕ) → ms ≡ all_saving conns → are_distinct conns ≡ true → n ≡ length conns → Counts ms conns n false
begun ms conns n are once long = (
  sym (conns-saving conns) ∙ ap (λ xs. conns_of xs) (sym are),
  once,
  long ∙ saving-all conns ∙ ap (λ xs. count_at is_saving xs) (sym are),
  none-wanted conns ∙ ap (λ xs. is_wanted xs) (sym are),
)

pub in-second : (ms new : List Member) (conns : List ℕ) (n : ℕ) → conns ≡ conns_of ms → are_distinct conns ≡ true → new ≡ with_second ms → n ≡ count_at is_saving new → Counts new conns n false
in-second ms new conns n of once are counted = (
  of ∙ sym (conns-second ms) ∙ ap (λ xs. conns_of xs) (sym are),
  once,
  counted,
  none-left-wanted ms ∙ ap (λ xs. is_wanted xs) (sym are),
)

pub stopped : (c : ℕ) (step : Step) (ms new : List Member) (conns : List ℕ) (n : ℕ) (w waits : Bool) → Counts ms conns n w → is_at is_saving c ms ≡ true → is_saving step ≡ false → new ≡ with_step c step ms → waits ≡ wants_two step → Counts new conns (n - 1) (w || waits)
stopped c step ms new conns n w waits counts at stops are second =
    let once : are_distinct (conns_of ms) ≡ true = ap (λ cs. are_distinct cs) (sym counts.0) ∙ counts.1 in
    let less : count_at is_saving ms ≡ count_at is_saving (with_step c step ms) + 1 = one-less c step ms once at stops in
    let counted : n - 1 ≡ count_at is_saving (with_step c step ms) = omega (arith, counts.2, less) in (
      counts.0 ∙ sym (conns-moved c step ms) ∙ ap (λ xs. conns_of xs) (sym are),
      counts.1,
      counted ∙ ap (λ xs. count_at is_saving xs) (sym are),
      ap₂ (λ b v. b || v) counts.3 second ∙ sym (more-wanted c step ms once at) ∙ ap (λ xs. is_wanted xs) (sym are),
    )

pub some-save : (c : ℕ) (ms : List Member) (n : ℕ) → are_distinct (conns_of ms) ≡ true → is_at is_saving c ms ≡ true → n ≡ count_at is_saving ms → 1 ≤ n
some-save c ms n once at counted = omega (arith, counted, one-less c WantsTwo ms once at refl)
