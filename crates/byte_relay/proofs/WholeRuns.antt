-- What each of a pair gets in a whole run.
use Rattle.std.proofs.Common.{◌≡◌, ◌≢◌, ◌⊎◌, inl, inr, ℕ, ◌+◌, ◌-◌, ◌<◌, ◌%◌, Bool, true, false, List, [], ◌∷◌, ◌++◌, Option, Some, None, refl, sym, ap, ap₂, ◌∙◌, subst, arith, append_assoc, if◌then◌else◌}
use Rattle.std.specs.Prelude.{◌==◌, min, max, is_some}
use Rattle.std.proofs.lemmas.Bool.{eqb-true, eqb-false, eq-eqb, ne_eqb, false≢true}
use Rattle.std.proofs.lemmas.Grind.{flat_map-append}
use Rattle.sm_world.specs.declared.effects.Effect.TheVariants.{Heard, Sent, Shut}
use Rattle.sm_world.specs.declared.events.Event.{Event}
use Rattle.sm_world.specs.declared.events.Event.TheVariants.{Joined, Piece, Gone, Operator, Tick, End}
use Rattle.ice_framing.specs.Parts.{new_parts}
use Rattle.ice_values.specs.declared.numbers.Endian.{Endian}
use Rattle.byte_relay.specs.Relaying.{Line, Passed, Step, fed_on, gone, greeting, greetings, has_end, is_end, is_fresh, is_live, is_refused, joined, joining, parted, partner, passed, passing, piece_for, run_from, stays, step, stream_of}
use Rattle.byte_relay.specs.Sides.{ArePair, GetsItsPart, NeverJoins, came, gets, got_of, is_join}
use Rattle.byte_relay.proofs.OneSide.{IsOver, if_dead, if_lines, if_step, is_of, live_fed, one_side, over_run, over_step, stream_more, stream_parted}
use Rattle.byte_relay.proofs.Running.{neither}
use Rattle.byte_relay.proofs.Stepping.{joins_alone, joins_pair, joins_refused}

-- ---- the numbers of a pair

back_by : (a b : Bool) (c m : ℕ) → 0 < c → (c % 2 == 1) ≡ a → m ≡ (if a then c + 1 else c - 1) → (m % 2 == 1) ≡ b → (if b then m + 1 else m - 1) ≡ c
back_by true true c m some one is two = omega (arith, is, eqb-true (c % 2) 1 one, eqb-true (m % 2) 1 two)
back_by true false c m some one is two = omega (arith, is)
back_by false true c m some one is two = omega (arith, is, some)
back_by false false c m some one is two = omega (arith, is, some, eqb-false (c % 2) 1 one, eqb-false (m % 2) 1 two)

-- each is the other's
back : (c : ℕ) → 0 < c → partner (partner c) ≡ c
back c some = back_by (c % 2 == 1) (partner c % 2 == 1) c (partner c) some refl refl refl

apart_by : (a : Bool) (c m : ℕ) → 0 < c → m ≡ (if a then c + 1 else c - 1) → c ≢ m
apart_by true c m some is same = omega (arith, is, same)
apart_by false c m some is same = omega (arith, is, same, some)

apart : (c : ℕ) → 0 < c → (c == partner c) ≡ false
apart c some = ne_eqb c (partner c) (apart_by (c % 2 == 1) c (partner c) some refl)

apart_back : (c : ℕ) → 0 < c → (partner c == c) ≡ false
apart_back c some = ne_eqb (partner c) c (λ same. apart_by (c % 2 == 1) c (partner c) some refl (sym same))

-- ---- what each is told

told_at : (to : Endian) (d low high : ℕ) → ((low == d) ≡ true) × ((high == d) ≡ false) ⊎ ((low == d) ≡ false) × ((high == d) ≡ true) → gets d (Sent low (greeting to) ∷ Sent high (greeting to) ∷ []) ≡ greeting to ∷ []
told_at to d low high (inl is) = rw (is.0, is.1) refl
told_at to d low high (inr is) = rw (is.0, is.1) refl

-- of two numbers of which one is this, the lower or the higher one is
one_is : (d x y : ℕ) → y ≢ d → x ≡ d → ((min x y == d) ≡ true) × ((max x y == d) ≡ false) ⊎ ((min x y == d) ≡ false) × ((max x y == d) ≡ true)
one_is d x y other own = by (min x y == d) refl
  where
    by : (b : Bool) → (min x y == d) ≡ b → ((min x y == d) ≡ true) × ((max x y == d) ≡ false) ⊎ ((min x y == d) ≡ false) × ((max x y == d) ≡ true)
    by true is = inl (is, ne_eqb (max x y) d (λ same. other (omega (arith, own, same, eqb-true (min x y) d is))))
    by false is = inr (is, eq-eqb (max x y) d (omega (arith, own, eqb-false (min x y) d is)))

two_is : (d x y : ℕ) → x ≢ d → y ≡ d → ((min x y == d) ≡ true) × ((max x y == d) ≡ false) ⊎ ((min x y == d) ≡ false) × ((max x y == d) ≡ true)
two_is d x y other own = by (min x y == d) refl
  where
    by : (b : Bool) → (min x y == d) ≡ b → ((min x y == d) ≡ true) × ((max x y == d) ≡ false) ⊎ ((min x y == d) ≡ false) × ((max x y == d) ≡ true)
    by true is = inl (is, ne_eqb (max x y) d (λ same. other (omega (arith, own, same, eqb-true (min x y) d is))))
    by false is = inr (is, eq-eqb (max x y) d (omega (arith, own, eqb-false (min x y) d is)))

-- as the one joins ..
told_own : (to : Endian) (d n : ℕ) → partner n ≢ d → n ≡ d → gets d (greetings to n) ≡ greeting to ∷ []
told_own to d n other own = told_at to d (min n (partner n)) (max n (partner n)) (one_is d n (partner n) other own)

-- .. or the other
told_other : (to : Endian) (d n : ℕ) → n ≢ d → partner n ≡ d → gets d (greetings to n) ≡ greeting to ∷ []
told_other to d n other own = told_at to d (min n (partner n)) (max n (partner n)) (two_is d n (partner n) other own)

-- ---- who isn't live

last_by : (n : ℕ) (l : Line) (ls : List Line) (own : Bool) → (l.number == n) ≡ own → is_live n (l ∷ ls) ≡ false → (is_live n ls ≡ false → stream_of n (ls ++ record { number = n; stream = [] } ∷ []) ≡ Some []) → stream_of n ((l ∷ ls) ++ record { number = n; stream = [] } ∷ []) ≡ Some []
last_by n l ls true own dead later = absurd (false≢true (sym dead ∙ rw own refl))
last_by n l ls false own dead later = rw own (later (rw own at dead))

-- who joins is live, and nothing came on it
stream_last : (n : ℕ) (ls : List Line) → is_live n ls ≡ false → stream_of n (ls ++ record { number = n; stream = [] } ∷ []) ≡ Some []
stream_last n [] dead = rw (eq-eqb n n refl) refl
stream_last n (l ∷ ls) dead = last_by n l ls (l.number == n) refl dead (stream_last n ls)

module _ (to : Endian) (x : ℕ) where
  abbrev IsDead : List Line → Type 0
  IsDead ls = is_live x ls ≡ false

  abbrev LeavesDead : Step → Type 0
  LeavesDead s = IsDead s.next

  dead_parted : (n : ℕ) (ls : List Line) → IsDead ls → IsDead (parted n ls)
  dead_parted n ls dead = ap is_some (stream_parted x n ls) ∙ if_dead (is_of n x) (stream_of x ls) dead

  dead_joined : (n : ℕ) (ls : List Line) → (n == x) ≡ false → IsDead ls → LeavesDead (joined to n ls)
  dead_joined n ls other dead =
      if_step LeavesDead (is_live n ls) (stays ls) (if is_refused n ls then record { line = Shut n ∷ []; next = ls } else joining to n ls) dead
      (if_step LeavesDead (is_refused n ls) (record { line = Shut n ∷ []; next = ls }) (joining to n ls) dead (ap is_some (stream_more x n ls other) ∙ dead))

  dead_passing : (n : ℕ) (bytes : List ℕ) (p : Passed) (ls : List Line) → IsDead ls → LeavesDead (passing to n bytes p ls)
  dead_passing n bytes p ls dead = if_lines IsDead p.broken (parted n ls) (fed_on n bytes ls) (dead_parted n ls dead) (live_fed x n bytes ls ∙ dead)

  dead_piece : (n : ℕ) (bytes : List ℕ) (stream : Option (List ℕ)) (ls : List Line) → IsDead ls → LeavesDead (piece_for to n bytes stream ls)
  dead_piece n bytes None ls dead = dead
  dead_piece n bytes (Some stream) ls dead =
      if_step LeavesDead (is_live (partner n) ls) (passing to n bytes (passed to (is_fresh stream) (new_parts stream bytes)) ls) (record { line = Shut n ∷ []; next = parted n ls })
      (dead_passing n bytes (passed to (is_fresh stream) (new_parts stream bytes)) ls dead) (dead_parted n ls dead)

  dead_gone : (n : ℕ) (ls : List Line) → IsDead ls → LeavesDead (gone n ls)
  dead_gone n ls dead = if_step LeavesDead (is_live n ls) (record { line = if is_live (partner n) ls then Shut (partner n) ∷ [] else []; next = parted n ls }) (stays ls) (dead_parted n ls dead) dead

  -- who doesn't join stays so
  dead_step : (ls : List Line) (event : Event) → is_join x event ≡ false → IsDead ls → LeavesDead (step to ls event)
  dead_step ls (Joined n) other dead = dead_joined n ls other dead
  dead_step ls (Piece n bytes) other dead = dead_piece n bytes (stream_of n ls) ls dead
  dead_step ls (Gone n) other dead = dead_gone n ls dead
  dead_step ls (Operator order) other dead = dead
  dead_step ls (Tick milliseconds) other dead = dead
  dead_step ls End other dead = dead

-- ---- both join

module _ (to : Endian) (x one two : ℕ) (differ : (one == two) ≡ false) (differ_back : (two == one) ≡ false) (first_of : partner two ≡ one) (second_of : partner one ≡ two) where
  -- Nothing is sent on x, and one of both isn't live; or both are told, and are live.
  abbrev Comes : Step → Step → Type 0
  Comes s t =
      ((gets x (s.line ++ t.line) ≡ []) × ((is_live one t.next ≡ false) ⊎ (is_live two t.next ≡ false)))
      ⊎ ((s.line ++ t.line ≡ greetings to two) × (stream_of one t.next ≡ Some []) × (stream_of two t.next ≡ Some []))

  behind_refused : (ls : List Line) (b : Bool) → is_refused two ls ≡ b → is_live one ls ≡ false → is_live two ls ≡ false → Comes (record { line = Shut one ∷ []; next = ls }) (joined to two ls)
  behind_refused ls true refused dead dead_too = subst (Comes (record { line = Shut one ∷ []; next = ls })) (sym (joins_refused to two ls dead_too refused)) (inl (refl, inl dead))
  behind_refused ls false refused dead dead_too =
      subst (Comes (record { line = Shut one ∷ []; next = ls })) (sym (joins_alone to two ls dead_too refused (ap (λ (n : ℕ). is_live n ls) first_of ∙ dead))) (inl (refl, inl (ap is_some (stream_more one two ls differ_back) ∙ dead)))

  abbrev with_one : List Line → List Line
  with_one ls = ls ++ record { number = one; stream = [] } ∷ []

  behind_one : (ls : List Line) (b : Bool) → is_refused two (with_one ls) ≡ b → is_live one ls ≡ false → is_live two ls ≡ false → Comes (record { line = []; next = with_one ls }) (joined to two (with_one ls))
  behind_one ls b refused dead dead_too = by b refused
    where
      still : is_live two (with_one ls) ≡ false
      still = ap is_some (stream_more two one ls differ) ∙ dead_too

      is_there : stream_of one (with_one ls) ≡ Some []
      is_there = stream_last one ls dead

      by : (b : Bool) → is_refused two (with_one ls) ≡ b → Comes (record { line = []; next = with_one ls }) (joined to two (with_one ls))
      by true is = subst (Comes (record { line = []; next = with_one ls })) (sym (joins_refused to two (with_one ls) still is)) (inl (refl, inr still))
      by false is =
          subst (Comes (record { line = []; next = with_one ls })) (sym (joins_pair to two (with_one ls) still is (ap (λ (n : ℕ). is_live n (with_one ls)) first_of ∙ ap is_some is_there)))
          (inr (refl, stream_more one two (with_one ls) differ_back ∙ is_there, stream_last two (with_one ls) still))

  both_join : (ls : List Line) (b : Bool) → is_refused one ls ≡ b → is_live one ls ≡ false → is_live two ls ≡ false → Comes (joined to one ls) (joined to two (joined to one ls).next)
  both_join ls true refused dead dead_too =
      subst (λ (s : Step). Comes s (joined to two s.next)) (sym (joins_refused to one ls dead refused)) (behind_refused ls (is_refused two ls) refl dead dead_too)
  both_join ls false refused dead dead_too =
      subst (λ (s : Step). Comes s (joined to two s.next)) (sym (joins_alone to one ls dead refused (ap (λ (n : ℕ). is_live n ls) second_of ∙ dead_too)))
      (behind_one ls (is_refused two (with_one ls)) refl dead dead_too)

module _ (to : Endian) (c : ℕ) (some : 0 < c) (events : List Event) (never : NeverJoins c events) (never_too : NeverJoins (partner c) events) where
  abbrev d : ℕ
  d = partner c

  abbrev GetsIts : List (List ℕ) → Type 0
  GetsIts got = GetsItsPart to (came c events) got

  module _ (one two : ℕ) (told : gets d (greetings to two) ≡ greeting to ∷ []) (over_of : (ls : List Line) → (is_live one ls ≡ false) ⊎ (is_live two ls ≡ false) → IsOver to c some ls) (open_of : (ls : List Line) → stream_of one ls ≡ Some [] → stream_of two ls ≡ Some [] → (stream_of c ls ≡ Some []) × (is_live d ls ≡ true)) where
    parts : (s t : Step) → gets d (Heard (Joined one) ∷ (s.line ++ (Heard (Joined two) ∷ (t.line ++ run_from to t.next events)))) ≡ gets d (s.line ++ t.line) ++ gets d (run_from to t.next events)
    parts s t =
        flat_map-append (got_of d) s.line (Heard (Joined two) ∷ (t.line ++ run_from to t.next events))
        ∙ (ap (λ (ms : List (List ℕ)). gets d s.line ++ ms) (flat_map-append (got_of d) t.line (run_from to t.next events))
        ∙ (sym (append_assoc (gets d s.line) (gets d t.line) (gets d (run_from to t.next events)))
        ∙ ap (λ (ms : List (List ℕ)). ms ++ gets d (run_from to t.next events)) (sym (flat_map-append (got_of d) s.line t.line))))

    from_here : (s t : Step) → ((gets d (s.line ++ t.line) ≡ []) × ((is_live one t.next ≡ false) ⊎ (is_live two t.next ≡ false))) ⊎ ((s.line ++ t.line ≡ greetings to two) × (stream_of one t.next ≡ Some []) × (stream_of two t.next ≡ Some [])) → GetsIts (gets d (s.line ++ t.line) ++ gets d (run_from to t.next events))
    from_here s t (inl off) = inl (ap₂ (λ (xs ys : List (List ℕ)). xs ++ ys) off.0 (over_run to c some t.next events never never_too (over_of t.next off.1)))
    from_here s t (inr on) =
        let here = open_of t.next on.1 on.2 in
        inr (gets d (run_from to t.next events), ap (λ (ms : List (List ℕ)). ms ++ gets d (run_from to t.next events)) (ap (gets d) on.0 ∙ told), one_side to c some t.next events here.0 here.1 never never_too)

  joins : (one two : ℕ) → ArePair c one two → (ls : List Line) → is_live c ls ≡ false → is_live d ls ≡ false → GetsIts (gets d (run_from to ls (Joined one ∷ Joined two ∷ events)))
  joins one two (inl is) ls dead dead_too = subst (λ (n : ℕ). GetsIts (gets d (run_from to ls (Joined n ∷ Joined two ∷ events)))) (sym is.0) (subst (λ (n : ℕ). GetsIts (gets d (run_from to ls (Joined c ∷ Joined n ∷ events)))) (sym is.1) in_order)
    where
      s : Step
      s = joined to c ls

      told : gets d (greetings to d) ≡ greeting to ∷ []
      told = told_own to d d (λ same. apart_by (c % 2 == 1) c d some refl (sym (back c some) ∙ same)) refl

      in_order : GetsIts (gets d (run_from to ls (Joined c ∷ Joined d ∷ events)))
      in_order =
          subst GetsIts (sym (parts c d told (λ ms over. over) (λ ms first second. (first, ap is_some second)) s (joined to d s.next)))
          (from_here c d told (λ ms over. over) (λ ms first second. (first, ap is_some second)) s (joined to d s.next) (both_join to d c d (apart c some) (apart_back c some) (back c some) refl ls (is_refused c ls) refl dead dead_too))
  joins one two (inr is) ls dead dead_too = subst (λ (n : ℕ). GetsIts (gets d (run_from to ls (Joined n ∷ Joined two ∷ events)))) (sym is.0) (subst (λ (n : ℕ). GetsIts (gets d (run_from to ls (Joined d ∷ Joined n ∷ events)))) (sym is.1) in_order)
    where
      s : Step
      s = joined to d ls

      swapped : (ms : List Line) → (is_live d ms ≡ false) ⊎ (is_live c ms ≡ false) → IsOver to c some ms
      swapped ms (inl off) = inr off
      swapped ms (inr off) = inl off

      told : gets d (greetings to c) ≡ greeting to ∷ []
      told = told_other to d c (apart_by (c % 2 == 1) c d some refl) refl

      in_order : GetsIts (gets d (run_from to ls (Joined d ∷ Joined c ∷ events)))
      in_order =
          subst GetsIts (sym (parts d c told swapped (λ ms first second. (second, ap is_some first)) s (joined to c s.next)))
          (from_here d c told swapped (λ ms first second. (second, ap is_some first)) s (joined to c s.next) (both_join to d d c (apart_back c some) (apart c some) refl (back c some) ls (is_refused d ls) refl dead_too dead))

  -- ---- whatever came before

  module _ (one two : ℕ) (pair : ArePair c one two) where
    abbrev all_behind : List Event → List Event
    all_behind front = front ++ Joined one ∷ Joined two ∷ events

    whole_run : (ls : List Line) (front : List Event) → has_end front ≡ false → NeverJoins c front → NeverJoins d front → is_live c ls ≡ false → is_live d ls ≡ false → GetsIts (gets d (run_from to ls (all_behind front)))
    whole_run ls [] goes first second dead dead_too = joins one two pair ls dead dead_too
    whole_run ls (event ∷ front) goes first second dead dead_too =
        let both = neither (is_end event) (has_end front) goes in
        let now : Step = step to ls event in
        let silent = (over_step to c some ls event first.0 second.0 (inl dead)).0 in
        let later = whole_run now.next front both.1 first.1 second.1 (dead_step to c ls event first.0 dead) (dead_step to d ls event second.0 dead_too) in
        rw both.0 (subst GetsIts (sym (flat_map-append (got_of d) now.line (run_from to now.next (all_behind front)) ∙ ap (λ (ms : List (List ℕ)). ms ++ gets d (run_from to now.next (all_behind front))) silent)) later)

pub each_side : (to : Endian) (c : ℕ) → 0 < c → (one two : ℕ) → ArePair c one two → (front events : List Event) → has_end front ≡ false → NeverJoins c front → NeverJoins (partner c) front → NeverJoins c events → NeverJoins (partner c) events → GetsItsPart to (came c events) (gets (partner c) (run_from to [] (front ++ Joined one ∷ Joined two ∷ events)))
each_side to c some one two pair front events goes first second never never_too = whole_run to c some events never never_too one two pair [] front goes first second refl refl
