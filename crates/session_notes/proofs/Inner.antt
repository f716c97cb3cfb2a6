-- Nothing comes from outside but the events themselves.
use Rattle.std.proofs.Common.{◌≡◌, refl, List, [], ◌∷◌, ◌++◌, sym, ap, ◌∙◌}
use Rattle.std.proofs.lemmas.List.{append-nil, append_assoc}
use Rattle.session_model.specs.declared.events.SessionEvent.{SessionEvent}
use Rattle.session_model.specs.Moves.{History, Move, Outside, ◌▷◌, Opening}
use Rattle.session_model.specs.Rules.{opened, run, taken}
use Rattle.session_model.proofs.Inner.{IsInner, kept-opening, kept-taken}
use Rattle.session_notes.specs.Notes.{Came, Did, Entry, came_in, entries, entries_of}

pub came-append : (xs ys : List Entry) → came_in (xs ++ ys) ≡ came_in xs ++ came_in ys
came-append [] ys = refl
came-append (Came event ∷ xs) ys = ap (λ (events : List SessionEvent). event ∷ events) (came-append xs ys)
came-append (Did act ∷ xs) ys = came-append xs ys

-- all that came in a history
abbrev pub came : History → List SessionEvent
came h = came_in (entries h)

inner-none : (m : Move) → IsInner m → came_in (entries_of m) ≡ []
inner-none (Outside event) i = absurd i
inner-none m i = refl

pub came-inner : (m : Move) (h : History) → IsInner m → came (m ▷ h) ≡ came h
came-inner m h i = came-append (entries h) (entries_of m) ∙ ap (λ (events : List SessionEvent). came h ++ events) (inner-none m i) ∙ append-nil (came h)

came-taken : (event : SessionEvent) (h : History) → came (taken event h) ≡ came h ++ event ∷ []
came-taken event h = kept-taken (λ g. came g ≡ came h ++ event ∷ []) (λ m g i e. came-inner m g i ∙ e) event h (came-append (entries h) (Came event ∷ []))

came-run : (events : List SessionEvent) (h : History) → came (run h events) ≡ came h ++ events
came-run [] h = sym (append-nil (came h))
came-run (event ∷ events) h = came-run events (taken event h) ∙ ap (λ (xs : List SessionEvent). xs ++ events) (came-taken event h) ∙ append_assoc (came h) (event ∷ []) events

pub all-events : (opening : Opening) (events : List SessionEvent) → came_in (entries (run (opened opening) events)) ≡ events
all-events opening events =
    came-run events (opened opening) ∙ ap (λ (xs : List SessionEvent). xs ++ events) (kept-opening (λ h. came h ≡ []) (λ m h i e. came-inner m h i ∙ e) opening refl)
