-- What is shown of each event is shown behind it, and nothing else is heard.
use Rattle.std.proofs.Common.{◌≡◌, refl, sym, ap, ◌∙◌, Bool, true, false, List, [], ◌∷◌, ◌++◌, append_assoc}
use Rattle.std.specs.Prelude.{if◌then◌else◌}
use Rattle.std.proofs.lemmas.List.{append-nil}
use Rattle.client_engine.specs.Driving.{behind, stays}
use Rattle.sm_world.specs.declared.events.Event.{Event}
use Rattle.session_engine.specs.Machine.{Item}
use Rattle.nested_session.specs.Nesting.{Nested, Shows, all_taken, chain, taken, unless_finished}
use Rattle.nested_session.specs.Woven.{Woven}

-- a step of which all is shown, and nothing more
chain_stays : (made : Shows) → chain made (λ n. stays n) ≡ made
chain_stays made = ap (λ (xs : List (Woven Item)). record { line = xs; next = made.next }) (append-nil made.line)

finished_stays : (b : Bool) (n : Nested) → ◌≡◌ {A = Shows} (if◌then◌else◌ {A = Shows} b (stays n) (stays n)) (stays n)
finished_stays true n = refl
finished_stays false n = refl

unless_by : (b : Bool) (n : Nested) (further : Nested → Shows) → n.finished ≡ b → unless_finished further n ≡ (if b then stays n else further n)
unless_by b n further e = ap (λ (c : Bool). if c then stays n else further n) e

chain_behind : (one two : List (Woven Item)) (made : Shows) → behind one (behind two made) ≡ behind (one ++ two) made
chain_behind one two made = ap (λ (xs : List (Woven Item)). record { line = xs; next = made.next }) (sym (append_assoc one two made.line))

differ : true ≡ false → ⊥
differ e = cc

-- By whether the first event ended it; the rest is handed in.
more_by : (b : Bool) (events : List Event) (event first : Event) (n : Nested) → (taken first n).next.finished ≡ b → (all_taken (first ∷ events) n).next.finished ≡ false
    → ((all_taken events (taken first n).next).next.finished ≡ false → all_taken (events ++ event ∷ []) (taken first n).next ≡ chain (all_taken events (taken first n).next) (taken event))
    → all_taken (first ∷ (events ++ event ∷ [])) n ≡ chain (all_taken (first ∷ events) n) (taken event)
more_by true events event first n is e further = absurd (differ (sym is ∙ sym (ap (λ (s : Shows). s.next.finished) (unless_by true (taken first n).next (all_taken events) is)) ∙ e))
more_by false events event first n is e further =
    let made : Shows = taken first n in
    let rest : Shows = all_taken events made.next in
    let same : unless_finished (all_taken events) made.next ≡ rest = unless_by false made.next (all_taken events) is in
    ap (λ (s : Shows). behind made.line s) (unless_by false made.next (all_taken (events ++ event ∷ [])) is ∙ further (ap (λ (s : Shows). s.next.finished) (sym same) ∙ e))
    ∙ chain_behind made.line rest.line (taken event rest.next)
    ∙ ap (λ (s : Shows). chain (behind made.line s) (taken event)) (sym same)

-- One event more, where the inner session hadn't come to its end.
pub taken_more : (events : List Event) (event : Event) (n : Nested) → (all_taken events n).next.finished ≡ false → all_taken (events ++ event ∷ []) n ≡ chain (all_taken events n) (taken event)
taken_more [] event n e =
    ap (λ (s : Shows). behind (taken event n).line s) (finished_stays (taken event n).next.finished (taken event n).next) ∙ chain_stays (taken event n)
taken_more (first ∷ events) event n e = more_by (taken first n).next.finished events event first n refl e (λ more. taken_more events event (taken first n).next more)
