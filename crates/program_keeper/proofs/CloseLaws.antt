-- A window that stands at each turn of a talk is asked to close four times at most.
use Rattle.std.proofs.Common.{◌≡◌, ℕ, ◌+◌, ◌-◌, ◌<◌, ◌≤◌, Bool, true, false, ◌&&◌, ◌||◌, ◌==◌, cond, List, [], ◌∷◌, Option, None, Some, refl, sym, ◌∙◌, ap, subst, arith}
use Rattle.std.specs.Prelude.{find, nat_lt}
use Rattle.std.specs.List.{AllByRecursion, list_any}
use Rattle.std.proofs.lemmas.Bool.{and_parts, eqb-true, false≢true, ltb-true, or_from}
use Rattle.program_keeper.specs.Closes.{ClosesAreFew, Moment, StandsAt, behind_moment, closes, closes_at, closes_by}
use Rattle.program_keeper.specs.Closes.Moment.{Turns, Disturbs, Passes}
use Rattle.program_keeper.specs.Talking.{Turn, asking, asked_again, awaiting, behind_answer, behind_nothing, behind_touch, by_dialog, by_target, dialog, has_new_title, is_front, showing, target, target_of, turn, was_touched}
use Rattle.program_keeper.specs.Windows.{is_main, is_target, next_main}
use Rattle.program_keeper.specs.declared.talk.Move.TheVariants.{Close, Wait}
use Rattle.program_keeper.specs.declared.talk.UserTalk.{UserTalk}
use Rattle.program_keeper.specs.declared.windows.Window.{Window}

-- ---- what is found by its number

none_there : (number : ℕ) (windows : List Window) → find (is_target number) windows ≡ None → list_any (is_target number) windows ≡ false
none_there number [] e = refl
none_there number (window ∷ windows) e = by_test (is_target number window) refl e (λ rest. none_there number windows rest)
  where
    by_test : (b : Bool) → is_target number window ≡ b → cond b (Some window) (find (is_target number) windows) ≡ None → (find (is_target number) windows ≡ None → list_any (is_target number) windows ≡ false) → list_any (is_target number) (window ∷ windows) ≡ false
    by_test true test same rest = cc
    by_test false test same rest = or_from (is_target number window) (list_any (is_target number) windows) test (rest same)

found_number : (number : ℕ) (windows : List Window) (window : Window) → find (is_target number) windows ≡ Some window → window.number ≡ number
found_number number [] window e = cc
found_number number (here ∷ windows) window e = by_test (is_target number here) refl e (λ rest. found_number number windows window rest)
  where
    by_test : (b : Bool) → is_target number here ≡ b → cond b (Some here) (find (is_target number) windows) ≡ Some window → (find (is_target number) windows ≡ Some window → window.number ≡ number) → window.number ≡ number
    by_test true test same rest = let e : here ≡ window = cc in ap (λ (w : Window). w.number) (sym e) ∙ eqb-true here.number number (and_parts (is_main here.kind) (here.number == number) test).1
    by_test false test same rest = rest same

-- ---- how often it may be asked still

abbrev is_asked : ℕ → Option Window → Bool
is_asked number None = false
is_asked number (Some asked) = asked.number == number

abbrev allowed : ℕ → UserTalk → ℕ
allowed number talk = cond (is_asked number talk.asked) (3 - talk.again) 4

-- a turn asks no more than is allowed
abbrev Allows : ℕ → UserTalk → Turn → Type 0
Allows number talk it = closes_by number it.move + allowed number it.next ≤ allowed number talk

module _ (number : ℕ) (talk : UserTalk) where
  waits : Allows number talk (turn Wait talk)
  waits = omega arith

  shows : (there : Bool) (other : ℕ) (at : UserTalk) → is_front other at.front ≡ there → allowed number at ≡ allowed number talk → Allows number talk (showing other at)
  shows true other at front same = rw front (omega arith)
  shows false other at front same = rw front (omega arith)

  -- it isn't the one that was asked, where it stands and that one doesn't
  not_asked : (windows : List Window) (asked : Option Window) → target_of asked windows ≡ None → list_any (is_target number) windows ≡ true → is_asked number asked ≡ false
  not_asked windows None gone stands = refl
  not_asked windows (Some asked) gone stands = by_test (asked.number == number) refl
    where
      by_test : (b : Bool) → (asked.number == number) ≡ b → (asked.number == number) ≡ false
      by_test true same = absurd (false≢true (sym (subst (λ (n : ℕ). list_any (is_target n) windows ≡ false) (eqb-true asked.number number same) (none_there asked.number windows gone)) ∙ stands))
      by_test false same = same

  asks_first : (same : Bool) (window : Window) (windows : List Window) → (window.number == number) ≡ same → is_asked number talk.asked ≡ false → Allows number talk (asking (Some window) windows talk)
  asks_first true window windows same other = rw (same, other) (omega arith)
  asks_first false window windows same other = rw (same, other) (omega arith)

  asks_next : (windows : List Window) (next : Option Window) → is_asked number talk.asked ≡ false → Allows number talk (asking next windows talk)
  asks_next windows None other = omega arith
  asks_next windows (Some window) other = asks_first (window.number == number) window windows refl other

  -- the window that was asked is asked again
  module _ (window : Window) (is : (window.number == number) ≡ is_asked number talk.asked) where
    asks_again : (same : Bool) → is_asked number talk.asked ≡ same → talk.again < 3 → Allows number talk (turn (Close window.number) (asked_again talk))
    asks_again true same few = rw (is, same) (omega arith)
    asks_again false same few = rw (is, same) (omega arith)

    answers : (short more : Bool) → nat_lt talk.calm 4000 ≡ short → (has_new_title talk.asked window && nat_lt talk.again 3) ≡ more → Allows number talk (behind_answer window talk)
    answers true more calm often = rw calm (omega arith)
    answers false true calm often = rw (calm, often) (asks_again (is_asked number talk.asked) refl (ltb-true talk.again 3 (and_parts (has_new_title talk.asked window) (nat_lt talk.again 3) often).1))
    answers false false calm often = rw (calm, often) (omega arith)

    touches : (short : Bool) → nat_lt talk.calm 10000 ≡ short → Allows number talk (behind_touch talk)
    touches true calm = rw calm (omega arith)
    touches false calm = rw calm (omega arith)

    silence : (short : Bool) → nat_lt talk.waited 5000 ≡ short → Allows number talk (behind_nothing window talk)
    silence true waited = rw waited (omega arith)
    silence false waited = rw waited (shows (is_front window.number talk.front) window.number talk refl refl)

    awaits : (answered touched : Bool) → (talk.seen || has_new_title talk.asked window) ≡ answered → was_touched talk.asked window ≡ touched → Allows number talk (awaiting window talk)
    awaits true touched saw did = rw saw (answers (nat_lt talk.calm 4000) (has_new_title talk.asked window && nat_lt talk.again 3) refl refl)
    awaits false true saw did = rw (saw, did) (touches (nat_lt talk.calm 10000) refl)
    awaits false false saw did = rw (saw, did) (silence (nat_lt talk.waited 5000) refl)

  is_that : (windows : List Window) (asked : Option Window) (window : Window) → target_of asked windows ≡ Some window → (window.number == number) ≡ is_asked number asked
  is_that windows None window e = cc
  is_that windows (Some asked) window e = ap (λ (n : ℕ). n == number) (found_number asked.number windows window e)

  by_found : (windows : List Window) (found : Option Window) → target talk windows ≡ found → list_any (is_target number) windows ≡ true → Allows number talk (by_target found windows talk)
  by_found windows (Some window) e stands = awaits window (is_that windows talk.asked window e) (talk.seen || has_new_title talk.asked window) (was_touched talk.asked window) refl refl
  by_found windows None e stands = asks_next windows (next_main windows None windows) (not_asked windows talk.asked e stands)

  by_standing : (windows : List Window) (found : Option Window) → list_any (is_target number) windows ≡ true → Allows number talk (by_dialog found windows talk)
  by_standing windows (Some window) stands = shows (is_front window.number talk.front) window.number (record talk { seen = true }) refl refl
  by_standing windows None stands = by_found windows (target talk windows) refl stands

-- ---- all that comes

moment_allows : (number : ℕ) (talk : UserTalk) (moment : Moment) → StandsAt number moment → closes_at number moment talk + allowed number (behind_moment moment talk) ≤ allowed number talk
moment_allows number talk (Turns windows) stands = by_standing number talk windows (dialog talk windows) stands
moment_allows number talk Disturbs stands = omega arith
moment_allows number talk (Passes windows elapsed answered) stands = omega arith

within : (number : ℕ) (talk : UserTalk) (moments : List Moment) → AllByRecursion (StandsAt number) moments → closes number talk moments ≤ allowed number talk
within number talk [] each = omega arith
within number talk (moment ∷ more) each = omega (arith, moment_allows number talk moment each.0, within number (behind_moment moment talk) more each.1)

four : (asked : Bool) (again : ℕ) → cond asked (3 - again) 4 ≤ 4
four true again = omega arith
four false again = omega arith

pub closes_are_few : ClosesAreFew
closes_are_few number talk moments each = omega (arith, within number talk moments each, four (is_asked number talk.asked) talk.again)
