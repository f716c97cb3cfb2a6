-- Events that are added one after the other.
use Rattle.std.proofs.Common.{◌≡◌, ℕ, zero, suc, ◌+◌, ◌%◌, Bool, true, false, List, [], ◌∷◌, ◌++◌, refl, sym, ◌∙◌, ap, arith, append_assoc, add-one, subst}
use Rattle.std.specs.List.{AllByRecursion}
use Rattle.sm_world.specs.Events.{HasPieceSize}
use Rattle.sm_world.specs.declared.events.Event.{Event}
use Rattle.smd_app.specs.Exercises.{each, login_events, sends, wants_two, first_answer, second_answer, round_events, ending_events, exercise_events, save_done, connection_closed}

-- one part more
pub also : (old so_far now next more : List Event) → now ≡ old ++ so_far → next ≡ now ++ more → next ≡ old ++ (so_far ++ more)
also old so_far now next more is e = e ∙ (ap (λ events. events ++ more) is ∙ append_assoc old so_far more)

pub each-more : (brings : ℕ → List Event) (n : ℕ) → each brings (n + 1) ≡ each brings n ++ brings (n + 1)
each-more brings n = rw (add-one n) refl

-- what one more brings
pub one_more : (brings : ℕ → List Event) (n : ℕ) (old now next : List Event) → now ≡ old ++ each brings n → next ≡ now ++ brings (n + 1) → next ≡ old ++ each brings (n + 1)
one_more brings n old now next is e = also old (each brings n) now next (brings (n + 1)) is e ∙ ap (λ events. old ++ events) (sym (each-more brings n))

-- ---- the sizes of pieces

sized-append : (xs ys : List Event) → AllByRecursion HasPieceSize xs → AllByRecursion HasPieceSize ys → AllByRecursion HasPieceSize (xs ++ ys)
sized-append [] ys front back = back
sized-append (x ∷ xs) ys front back = (front.0, sized-append xs ys front.1 back)

sized-each : (brings : ℕ → List Event) (n : ℕ) → ((c : ℕ) → AllByRecursion HasPieceSize (brings c)) → AllByRecursion HasPieceSize (each brings n)
sized-each brings zero sized = tt
sized-each brings (suc n) sized = sized-append (each brings n) (brings (suc n)) (sized-each brings n sized) (sized (suc n))

login_sized : (c : ℕ) → AllByRecursion HasPieceSize (login_events c)
login_sized c = (tt, ((omega arith, omega arith), ((omega arith, omega arith), ((omega arith, omega arith), ((omega arith, omega arith), ((omega arith, omega arith), ((omega arith, omega arith), ((omega arith, omega arith), ((omega arith, omega arith), tt)))))))))

first_sized : (bits c : ℕ) (b : Bool) → wants_two bits c ≡ b → AllByRecursion HasPieceSize (first_answer bits c)
first_sized bits c true e = rw (e) ((omega arith, omega arith), tt)
first_sized bits c false e = rw (e) ((omega arith, omega arith), tt)

second_sized : (bits c : ℕ) (b : Bool) → wants_two bits c ≡ b → AllByRecursion HasPieceSize (second_answer bits c)
second_sized bits c true e = rw (e) ((omega arith, omega arith), tt)
second_sized bits c false e = rw (e) tt

round_sized : (pattern t : ℕ) → AllByRecursion HasPieceSize (round_events pattern t)
round_sized pattern t =
    let bits = (pattern + t) % 256 in (
      tt,
      sized-append (each (first_answer bits) 8) (each (second_answer bits) 8)
          (sized-each (first_answer bits) 8 (λ c. first_sized bits c (wants_two bits c) refl))
          (sized-each (second_answer bits) 8 (λ c. second_sized bits c (wants_two bits c) refl)),
    )

done_sized : (c : ℕ) → AllByRecursion HasPieceSize (sends save_done c)
done_sized c = ((omega arith, omega arith), tt)

closed_sized : (c : ℕ) → AllByRecursion HasPieceSize (sends connection_closed c)
closed_sized c = ((omega arith, omega arith), tt)

ending_sized : AllByRecursion HasPieceSize ending_events
ending_sized = (tt, sized-append (each (sends save_done) 8) (each (sends connection_closed) 8) (sized-each (sends save_done) 8 done_sized) (sized-each (sends connection_closed) 8 closed_sized))

pub all_sized : (pattern rounds : ℕ) → AllByRecursion HasPieceSize (exercise_events pattern rounds)
all_sized pattern rounds =
    sized-append (each login_events 8) (each (round_events pattern) rounds ++ ending_events) (sized-each login_events 8 login_sized)
    (sized-append (each (round_events pattern) rounds) ending_events (sized-each (round_events pattern) rounds (round_sized pattern)) ending_sized)

pub script_sized : (pattern rounds : ℕ) (none logins played whole : List Event) → none ≡ [] → logins ≡ none ++ each login_events 8 → played ≡ logins ++ each (round_events pattern) rounds → whole ≡ played ++ ending_events → AllByRecursion HasPieceSize whole
script_sized pattern rounds none logins played whole is_none first second third =
    let same : whole ≡ exercise_events pattern rounds = third
    ∙ (ap (λ events. events ++ ending_events) (second ∙ ap (λ events. events ++ each (round_events pattern) rounds) (first ∙ ap (λ events. events ++ each login_events 8) is_none))
    ∙ append_assoc (each login_events 8) (each (round_events pattern) rounds) ending_events) in
    subst (AllByRecursion HasPieceSize) (sym same) (all_sized pattern rounds)
