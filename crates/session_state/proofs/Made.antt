-- A made history goes on, and what is held reads as it does.
use Rattle.std.proofs.Common.{◌≡◌, refl, ◌<◌, ◌≤◌, length, List, [], ◌∷◌, ◌++◌, sym, ap, subst, ◌∙◌}
use Rattle.checkpoint_records.specs.Rules.{KeepsRules}
use Rattle.session_model.specs.declared.events.SessionEvent.{SessionEvent}
use Rattle.session_model.specs.Moves.{History, Opening}
use Rattle.session_model.specs.Reading.{Reading, reading}
use Rattle.session_model.specs.Rules.{Takes, opened, rule, run, taken}
use Rattle.session_model.specs.Laws.{AllTake}
use Rattle.session_model.proofs.Level.{Good}
use Rattle.session_model.proofs.Replied.{good-opened, good-run}
use Rattle.session_model.proofs.Rests.{rests-always}
use Rattle.session_state.specs.Session.{Session, reading_in}
use Rattle.session_state.specs.Stands.{IsMade, Stands}
use Rattle.session_state.proofs.Steps.{same-reading}

run-append : (h : History) (xs ys : List SessionEvent) → run h (xs ++ ys) ≡ run (run h xs) ys
run-append h [] ys = refl
run-append h (x ∷ xs) ys = run-append (taken x h) xs ys

take-append : (h : History) (xs ys : List SessionEvent) → AllTake h xs → AllTake (run h xs) ys → AllTake h (xs ++ ys)
take-append h [] ys p q = q
take-append h (x ∷ xs) ys p q = (p.0, take-append (taken x h) xs ys p.1 q)

-- an opening makes one, over a book that keeps the rules
pub made-opened : (opening : Opening) → KeepsRules opening.book → length opening.book.others ≤ 7 → opening.book.epoch < 4294967295 → IsMade (opened opening)
made-opened opening k f l = record { opening = opening; events = []; rules = k; few = f; below = l; takes = tt; is = refl }

-- and each event that it allows
pub made-taken : (event : SessionEvent) (h : History) → IsMade h → Takes event (reading h) → IsMade (taken event h)
made-taken event h m t = record {
  opening = m.opening;
  events = m.events ++ event ∷ [];
  rules = m.rules;
  few = m.few;
  below = m.below;
  takes = take-append (opened m.opening) m.events (event ∷ []) m.takes (subst (λ (g : History). Takes event (reading g)) m.is t, tt);
  is = ap (λ (g : History). taken event g) m.is ∙ sym (run-append (opened m.opening) m.events (event ∷ []));
}

pub good-made : (h : History) → IsMade h → Good h
good-made h m = subst (λ (g : History). Good g) (sym m.is) (good-run m.events (opened m.opening) (good-opened m.opening))

-- what is held reads as the history that it stands for
pub made-reading : (s : Session) (h : History) → IsMade h → Stands s h → reading_in s ≡ reading h
made-reading s h m st = same-reading s h (good-made h m).sound.registered_are st

-- between events no rule holds of what is held
pub made-rests : (s : Session) (h : History) → IsMade h → Stands s h → rule (reading_in s) ≡ []
made-rests s h m st =
    ap (λ (r : Reading). rule r) (made-reading s h m st) ∙ subst (λ (g : History). rule (reading g) ≡ []) (sym m.is) (rests-always m.opening m.events)
