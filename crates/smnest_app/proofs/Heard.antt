-- What a world in memory brings of a script's events, and the run of a session inside another over them.
use Rattle.std.proofs.Common.{◌≡◌, ℕ, zero, suc, ◌≤◌, Bool, true, false, List, [], ◌∷◌, length, take, Option, None, Some, refl, sym, ◌∙◌, ap, arith, if◌then◌else◌}
use Rattle.std.proofs.lemmas.List.{take-append-le}
use Rattle.std.proofs.lemmas.Bool.{false≢true}
use Rattle.sm_world.specs.declared.events.Event.{Event}
use Rattle.sm_world.specs.declared.events.Event.TheVariants.{End}
use Rattle.checkpoint_records.specs.Books.{empty_book}
use Rattle.client_engine.specs.Driving.{behind, stays}
use Rattle.heard_events.specs.Brought.{next_events}
use Rattle.nested_session.specs.Nesting.{Nested, Shows, all_taken, chain, closes, does, opens, taken, tells, tells_end, outcome, unless_finished}
use Rattle.session_engine.specs.Machine.{step}
use Rattle.session_model.specs.Readings as of
use Rattle.smd_app.specs.Rehearsals.{rehearsal_config, with_end}
use Rattle.smnest_app.specs.Rehearsals.{ends_within, greeting, rehearsal_agent, shows}

-- ---- End ends each run.

tells_keeps : (o : Option Bool) (n : Nested) → (tells_end o n).next.finished ≡ n.finished
tells_keeps None n = refl
tells_keeps (Some success) n = refl

closes_keeps : (b : Bool) (n : Nested) → (closes b n).next.finished ≡ n.finished
closes_keeps false n = refl
closes_keeps true n = refl

end_ends : (n : Nested) → (taken End n).next.finished ≡ true
end_ends n =
    let made : Nested = (does n (step n.machine End)).next in
    let told : Nested = (tells made).next in
    closes_keeps told.finished told ∙ tells_keeps (outcome made.awaited (of.marks made.machine.session)) made

-- ---- A run that is at its end takes nothing more.

unless_same : (b : Bool) (n : Nested) (one other : Nested → Shows) → (b ≡ false → one n ≡ other n) → (if b then stays n else one n) ≡ (if b then stays n else other n)
unless_same true n one other same = refl
unless_same false n one other same = same refl

step_same : (s : Shows) (one other : Nested → Shows) → (s.next.finished ≡ false → one s.next ≡ other s.next) → chain s (unless_finished one) ≡ chain s (unless_finished other)
step_same s one other same = ap (λ (r : Shows). behind s.line r) (unless_same s.next.finished s.next one other same)

goes_on : (b : Bool) (n : Nested) (one : Nested → Shows) → b ≡ false → (if b then stays n else one n).next.finished ≡ true → (one n).next.finished ≡ true
goes_on true n one e f = absurd (false≢true (sym e))
goes_on false n one e f = f

stops_or : (b : Bool) (n : Nested) (one : Nested → Shows) → n.finished ≡ b → (b ≡ false → (one n).next.finished ≡ true) → (if b then stays n else one n).next.finished ≡ true
stops_or true n one e f = e
stops_or false n one e f = f refl

not_stopped : (b : Bool) (n : Nested) (one : Nested → Shows) → n.finished ≡ b → (if b then stays n else one n).next.finished ≡ false → (b ≡ false) × ((one n).next.finished ≡ false)
not_stopped true n one e f = absurd (false≢true (sym f ∙ e))
not_stopped false n one e f = (refl, f)

-- ---- A run over the events that a world brings

ended_all : (n : Nested) (k : ℕ) (events : List Event) → n.finished ≡ false → (all_taken (next_events k events) n).next.finished ≡ true → all_taken (next_events k events) n ≡ all_taken (with_end events) n
ended_all n zero events e f = absurd (false≢true (sym e ∙ f))
ended_all n (suc k) [] e f = step_same (taken End n) (λ m. all_taken (next_events k []) m) (λ m. all_taken [] m) (λ going. absurd (false≢true (sym going ∙ end_ends n)))
ended_all n (suc k) (event ∷ events) e f =
    let s : Shows = taken event n in
    step_same s (λ m. all_taken (next_events k events) m) (λ m. all_taken (with_end events) m)
    (λ going. ended_all s.next k events going (goes_on s.next.finished s.next (λ m. all_taken (next_events k events) m) going f))

ended_in : (n : Nested) (k turns : ℕ) (events : List Event) → n.finished ≡ false → k ≤ turns → (all_taken (next_events k events) n).next.finished ≡ true → (all_taken (take turns (with_end events)) n).next.finished ≡ true
ended_in n zero turns events e few f = absurd (false≢true (sym e ∙ f))
ended_in n (suc k) zero events e few f = absurd (omega (arith, few))
ended_in n (suc k) (suc turns) [] e few f =
    let s : Shows = taken End n in
    stops_or s.next.finished s.next (λ m. all_taken (take turns []) m) refl (λ going. absurd (false≢true (sym going ∙ end_ends n)))
ended_in n (suc k) (suc turns) (event ∷ events) e few f =
    let s : Shows = taken event n in
    stops_or s.next.finished s.next (λ m. all_taken (take turns (with_end events)) m) refl
    (λ going. ended_in s.next k turns events going (omega (arith, few)) (goes_on s.next.finished s.next (λ m. all_taken (next_events k events) m) going f))

spent_all : (n : Nested) (turns : ℕ) (events : List Event) → (all_taken (next_events turns events) n).next.finished ≡ false → (turns ≤ length events) × (next_events turns events ≡ take turns events)
spent_all n zero events f = (omega arith, refl)
spent_all n (suc turns) [] f =
    let s : Shows = taken End n in
    absurd (false≢true (sym (not_stopped s.next.finished s.next (λ m. all_taken (next_events turns []) m) refl f).0 ∙ end_ends n))
spent_all n (suc turns) (event ∷ events) f =
    let s : Shows = taken event n in
    let rest = spent_all s.next turns events (not_stopped s.next.finished s.next (λ m. all_taken (next_events turns events) m) refl f).1 in
    (omega (arith, rest.0), ap (λ (es : List Event). event ∷ es) rest.1)

module _ (id : List ℕ) (words : List (List ℕ)) where
  abbrev begun : Nested
  begun = (opens (rehearsal_config 0) empty_book (rehearsal_agent id words) greeting).next

  abbrev after : Shows → Shows
  after rest = behind (opens (rehearsal_config 0) empty_book (rehearsal_agent id words) greeting).line rest

  -- what was heard of a run that ended within the turns
  pub record Ended (turns : ℕ) (events hs : List Event) : Type 0 where
    pub within : ends_within id words turns events ≡ true
    pub same : shows id words (with_end events) ≡ shows id words hs

  pub ended_run : (turns : ℕ) (events hs : List Event) → hs ≡ next_events (length hs) events → length hs ≤ turns → (shows id words hs).next.finished ≡ true → Ended turns events hs
  ended_run turns events hs brought few finished =
      let ends : (all_taken (next_events (length hs) events) begun).next.finished ≡ true = ap (λ (es : List Event). (all_taken es begun).next.finished) (sym brought) ∙ finished in
      record {
        within = ended_in begun (length hs) turns events refl few ends;
        same = sym (ap (λ (es : List Event). shows id words es) brought ∙ ap after (ended_all begun (length hs) events refl ends));
      }

  -- what was heard of a run that was cut off
  pub record CutOff (turns : ℕ) (events hs : List Event) : Type 0 where
    pub few : turns ≤ length events
    pub same : hs ≡ take turns events
    pub unended : ends_within id words turns events ≡ false

  pub spent_run : (turns : ℕ) (events hs : List Event) → hs ≡ next_events (length hs) events → length hs ≡ turns → (shows id words hs).next.finished ≡ false → CutOff turns events hs
  spent_run turns events hs brought all unfinished =
      let is : hs ≡ next_events turns events = brought ∙ ap (λ n. next_events n events) all in
      let cut = spent_all begun turns events (ap (λ (es : List Event). (all_taken es begun).next.finished) (sym is) ∙ unfinished) in
      let first : hs ≡ take turns events = is ∙ cut.1 in
      let same : take turns (with_end events) ≡ hs = take-append-le turns events (End ∷ []) cut.0 ∙ sym first in
      record {
        few = cut.0;
        same = first;
        unended = ap (λ (es : List Event). (all_taken es begun).next.finished) same ∙ unfinished;
      }
