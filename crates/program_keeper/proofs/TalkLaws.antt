-- What each move of a talk says of its windows.
use Rattle.std.proofs.Common.{◌≡◌, ℕ, ◌<◌, ◌≤◌, ◌⊎◌, inl, inr, Bool, true, false, ◌&&◌, ◌||◌, ◌==◌, cond, List, [], ◌∷◌, Option, None, Some, Result, Ok, Err, refl, sym, ◌∙◌, ap, subst}
use Rattle.std.specs.Prelude.{IfOk, IfSome, IsSomeAnd, find, nat_lt}
use Rattle.std.specs.List.{list_any}
use Rattle.std.proofs.lemmas.Bool.{and_from, and_parts, eq-eqb, ltb-false, ltb-true, or_from, or_left, or_right}
use Rattle.program_keeper.specs.Windows.{comes_first, is_main, is_target, next_main, sooner}
use Rattle.program_keeper.specs.Talking.{MayClose, MayMove, MayRefuse, asking, awaiting, behind_answer, behind_nothing, behind_touch, by_dialog, by_target, dialog, has_new_title, is_front, showing, target, target_of, turn_taken, was_touched}
use Rattle.program_keeper.specs.declared.talk.Move.{Move}
use Rattle.program_keeper.specs.declared.talk.UserTalk.{UserTalk}
use Rattle.program_keeper.specs.declared.windows.Window.{Window}

-- ---- which window is found

is_own : (window : Window) → is_main window.kind ≡ true → is_target window.number window ≡ true
is_own window main = and_from (is_main window.kind) (window.number == window.number) main (eq-eqb window.number window.number refl)

abbrev is_there : Window → List Window → Type 0
is_there window windows = list_any (is_target window.number) windows ≡ true

cond_found : (b : Bool) (one other window : Window) (P : Type 0) → Some (cond b one other) ≡ Some window → (one ≡ window → P) → (other ≡ window → P) → P
cond_found true one other window P e first second = first (cc)
cond_found false one other window P e first second = second (cc)

-- the sooner one of two is one of them
found_sooner : (all : List Window) (found : Option Window) (here window : Window) → Some (sooner all found here) ≡ Some window → (found ≡ Some window) ⊎ (here ≡ window)
found_sooner all None here window e = inr (cc)
found_sooner all (Some best) here window e = cond_found (comes_first all here best) here best window ((Some best ≡ Some window) ⊎ (here ≡ window)) e (λ same. inr same) (λ same. inl (ap (λ (w : Window). Some w) same))

found_here : (b : Bool) (here window : Window) (left : List Window) → is_main here.kind ≡ b → b ≡ true → here ≡ window → is_there window (here ∷ left)
found_here b here window left kind main same = subst (λ (w : Window). is_there w (here ∷ left)) same (or_left (is_target here.number here) (list_any (is_target here.number) left) (is_own here (kind ∙ main)))

found_below : (here window : Window) (left : List Window) → is_there window left → is_there window (here ∷ left)
found_below here window left there = or_right (is_target window.number here) (list_any (is_target window.number) left) there

-- what is found was found before, or stands among those that are left
pub found_main : (all : List Window) (found : Option Window) (left : List Window) (window : Window) → next_main all found left ≡ Some window → (found ≡ Some window) ⊎ is_there window left
found_main all found [] window e = inl e
found_main all found (here ∷ left) window e = by_kind (is_main here.kind) refl (found_main all (cond (is_main here.kind) (Some (sooner all found here)) found) left window e)
  where
    was_found : (b : Bool) → is_main here.kind ≡ b → cond b (Some (sooner all found here)) found ≡ Some window → (found ≡ Some window) ⊎ is_there window (here ∷ left)
    was_found true kind same = elim (found_sooner all found here window same) [ inl before ↦ inl before | inr now ↦ inr (found_here true here window left kind refl now) ]
    was_found false kind same = inl same

    by_kind : (b : Bool) → is_main here.kind ≡ b → (cond (is_main here.kind) (Some (sooner all found here)) found ≡ Some window) ⊎ is_there window left → (found ≡ Some window) ⊎ is_there window (here ∷ left)
    by_kind b kind (inl same) = was_found (is_main here.kind) refl same
    by_kind b kind (inr there) = inr (found_below here window left there)

-- where none is found none was, and none that is left is a main window
pub none_main : (all : List Window) (found : Option Window) (left : List Window) → next_main all found left ≡ None → (found ≡ None) × (list_any (λ window. is_main window.kind) left ≡ false)
none_main all found [] e = (e, refl)
none_main all found (here ∷ left) e = by_kind (is_main here.kind) refl (none_main all (cond (is_main here.kind) (Some (sooner all found here)) found) left e)
  where
    by_kind : (b : Bool) → is_main here.kind ≡ b → (cond b (Some (sooner all found here)) found ≡ None) × (list_any (λ window. is_main window.kind) left ≡ false) → (found ≡ None) × (list_any (λ window. is_main window.kind) (here ∷ left) ≡ false)
    by_kind true kind none = cc (none.0)
    by_kind false kind none = (none.0, or_from (is_main here.kind) (list_any (λ window. is_main window.kind) left) kind none.1)

-- the window of a number is a main window that stands
pub found_target : (number : ℕ) (windows : List Window) (window : Window) → find (is_target number) windows ≡ Some window → is_there window windows
found_target number (here ∷ left) window e = by_test (is_target number here) refl e (λ same. found_target number left window same)
  where
    by_test : (b : Bool) → is_target number here ≡ b → cond b (Some here) (find (is_target number) left) ≡ Some window → (find (is_target number) left ≡ Some window → is_there window left) → is_there window (here ∷ left)
    by_test true test same rest = found_here true here window left (and_parts (is_main here.kind) (here.number == number) test).0 refl (cc)
    by_test false test same rest = found_below here window left (rest same)
found_target number [] window e = cc

stands_there : (asked : Option Window) (windows : List Window) (window : Window) → target_of asked windows ≡ Some window → is_there window windows
stands_there (Some asked) windows window e = found_target asked.number windows window e
stands_there None windows window e = cc

-- ---- what a move says

module _ (windows : List Window) (talk : UserTalk) where
  -- no window that was asked stands, and no dialog does
  none_stands : target talk windows ≡ None → dialog talk windows ≡ None → (next : Option Window) → next_main windows None windows ≡ next → MayMove talk windows (asking next windows talk).move
  none_stands gone none None e = record { mains = (none_main windows None windows e).1; dialogs = none }
  none_stands gone none (Some window) e = record { main = there (found_main windows None windows window e); once = subst (λ (t : Option Window). IfSome t (λ w. (w.number ≡ window.number) × (talk.again < 3))) (sym gone) tt }
    where
      there : (let nobody : Option Window = None in nobody ≡ Some window) ⊎ is_there window windows → is_there window windows
      there (inl wrong) = cc
      there (inr found) = found

  module _ (window : Window) (stands : target talk windows ≡ Some window) where
    again : (talk.again < 3) → MayClose talk windows window.number
    again few = record { main = stands_there talk.asked windows window stands; once = subst (λ (t : Option Window). IfSome t (λ w. (w.number ≡ window.number) × (talk.again < 3))) (sym stands) (refl, few) }

    refused : ((talk.seen || has_new_title talk.asked window) ≡ true) × (4000 ≤ talk.calm) ⊎ (was_touched talk.asked window ≡ true) × (10000 ≤ talk.calm) → MayRefuse talk windows
    refused why = subst (λ (t : Option Window). IsSomeAnd t (λ w. ((talk.seen || has_new_title talk.asked w) ≡ true) × (4000 ≤ talk.calm) ⊎ (was_touched talk.asked w ≡ true) × (10000 ≤ talk.calm))) (sym stands) why

    answer_moves : (short more : Bool) → nat_lt talk.calm 4000 ≡ short → (has_new_title talk.asked window && nat_lt talk.again 3) ≡ more → (talk.seen || has_new_title talk.asked window) ≡ true → MayMove talk windows (behind_answer window talk).move
    answer_moves true more calm often answered = rw calm tt
    answer_moves false true calm often answered = rw (calm, often) (again (ltb-true talk.again 3 (and_parts (has_new_title talk.asked window) (nat_lt talk.again 3) often).1))
    answer_moves false false calm often answered = rw (calm, often) (refused (inl (answered, ltb-false talk.calm 4000 calm)))

    touch_moves : (short : Bool) → nat_lt talk.calm 10000 ≡ short → was_touched talk.asked window ≡ true → MayMove talk windows (behind_touch talk).move
    touch_moves true calm touched = rw calm tt
    touch_moves false calm touched = rw calm (refused (inr (touched, ltb-false talk.calm 10000 calm)))

    shown_moves : (there : Bool) (number : ℕ) (at : UserTalk) → is_front number at.front ≡ there → MayMove talk windows (showing number at).move
    shown_moves true number at front = rw front tt
    shown_moves false number at front = rw front tt

    nothing_moves : (short : Bool) → nat_lt talk.waited 5000 ≡ short → MayMove talk windows (behind_nothing window talk).move
    nothing_moves true waited = rw waited tt
    nothing_moves false waited = rw waited (shown_moves (is_front window.number talk.front) window.number talk refl)

    pub awaited : (answered touched : Bool) → (talk.seen || has_new_title talk.asked window) ≡ answered → was_touched talk.asked window ≡ touched → MayMove talk windows (awaiting window talk).move
    awaited true touched saw did = rw saw (answer_moves (nat_lt talk.calm 4000) (has_new_title talk.asked window && nat_lt talk.again 3) refl refl saw)
    awaited false true saw did = rw (saw, did) (touch_moves (nat_lt talk.calm 10000) refl did)
    awaited false false saw did = rw (saw, did) (nothing_moves (nat_lt talk.waited 5000) refl)

-- an option that is not Some
pub none_of : {A : Type 0} (o : Option A) → ((x : A) → o ≡ Some x → ⊥) → o ≡ None
none_of None other = refl
none_of (Some x) other = absurd (other x refl)

-- the window that was asked stands
pub moved_by_target : (windows : List Window) (talk : UserTalk) (found : Option Window) (window : Window) (move : Move) → found ≡ target talk windows → found ≡ Some window → move ≡ (awaiting window talk).move → MayMove talk windows move
moved_by_target windows talk found window move is some moved = subst (λ (m : Move). MayMove talk windows m) (sym moved) (awaited windows talk window (sym is ∙ some) (talk.seen || has_new_title talk.asked window) (was_touched talk.asked window) refl refl)

-- the next window is asked, or none is left
pub moved_by_none : {E : Type 0} (windows : List Window) (talk : UserTalk) (found standing : Option Window) (result : Result Move E) → found ≡ target talk windows → found ≡ None → standing ≡ dialog talk windows → standing ≡ None → IfOk result (λ one. one ≡ (asking (next_main windows None windows) windows talk).move) → IfOk result (λ one. MayMove talk windows one)
moved_by_none windows talk found standing (Ok move) is none no_dialog not_there moved = subst (λ (m : Move). MayMove talk windows m) (sym moved) (none_stands windows talk (sym is ∙ none) (sym no_dialog ∙ not_there) (next_main windows None windows) refl)
moved_by_none windows talk found standing (Err e) is none no_dialog not_there moved = tt

shown_any : (windows : List Window) (talk at : UserTalk) (there : Bool) (number : ℕ) → is_front number at.front ≡ there → MayMove talk windows (showing number at).move
shown_any windows talk at true number front = rw front tt
shown_any windows talk at false number front = rw front tt

-- the talk goes on by moves that may be made
pub may_turn : (windows : List Window) (talk : UserTalk) → MayMove talk windows (turn_taken windows talk).move
may_turn windows talk = by_standing (dialog talk windows) refl
  where
    by_asked : dialog talk windows ≡ None → (found : Option Window) → target talk windows ≡ found → MayMove talk windows (by_target found windows talk).move
    by_asked none (Some window) e = awaited windows talk window e (talk.seen || has_new_title talk.asked window) (was_touched talk.asked window) refl refl
    by_asked none None e = none_stands windows talk e none (next_main windows None windows) refl

    by_standing : (found : Option Window) → dialog talk windows ≡ found → MayMove talk windows (by_dialog found windows talk).move
    by_standing (Some window) e = shown_any windows talk (record talk { seen = true }) (is_front window.number talk.front) window.number refl
    by_standing None e = by_asked e (target talk windows) refl
