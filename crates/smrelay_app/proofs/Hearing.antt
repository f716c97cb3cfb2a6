-- What a world in memory brings of a script's events, and the run of it.
use Rattle.std.proofs.Common.{◌≡◌, inl, inr, ℕ, zero, suc, ◌<◌, ◌≤◌, Bool, true, false, List, [], ◌∷◌, ◌++◌, length, take, refl, sym, ap, arith, if◌then◌else◌}
use Rattle.std.specs.Prelude.{◌||◌}
use Rattle.std.proofs.lemmas.Bool.{false≢true}
use Rattle.sm_world.specs.declared.effects.Effect.{Effect}
use Rattle.sm_world.specs.declared.effects.Effect.TheVariants.{Heard}
use Rattle.sm_world.specs.declared.events.Event.{Event}
use Rattle.sm_world.specs.declared.events.Event.TheVariants.{Joined, Piece, Gone, Operator, Tick, End}
use Rattle.control_lines.specs.Script.{Says, SayAll}
use Rattle.heard_events.specs.Brought.{next_events}
use Rattle.ice_values.specs.declared.numbers.Endian.{Endian}
use Rattle.byte_relay.specs.Relaying.{Line, step, is_end, has_end, run_from}
use Rattle.heard_events.proofs.Bringing.{same_rest}
use Rattle.smrelay_app.specs.Rehearsals.{with_end}

none_of_two : (b c : Bool) → (b || c) ≡ false → (b ≡ false) × (c ≡ false)
none_of_two true c e = absurd (false≢true (sym e))
none_of_two false c e = (refl, e)

second_of_two : (b c : Bool) → (b || c) ≡ true → b ≡ false → c ≡ true
second_of_two true c e first = absurd (false≢true (sym first))
second_of_two false c e first = e

-- No line of a script says End.
unended : (line : List ℕ) (event : Event) → Says line event → is_end event ≡ false
unended line (Joined n) says = refl
unended line (Piece n bytes) says = refl
unended line (Gone n) says = refl
unended line (Operator order) says = refl
unended line (Tick milliseconds) says = refl
unended line End says = elim says [ ]

pub said_endless : (lines : List (List ℕ)) (events : List Event) → SayAll lines events → has_end events ≡ false
said_endless [] events all = ap has_end all
said_endless (line ∷ lines) events (inl skipped) = said_endless lines events skipped.1
said_endless (line ∷ lines) [] (inr says) = refl
said_endless (line ∷ lines) (event ∷ events) (inr says) = rw (unended line event says.0) (said_endless lines events says.1)

-- Where End was heard of these, the run is that of all and then End.
pub ended_run : (to : Endian) (ls : List Line) (n : ℕ) (events : List Event) → has_end events ≡ false → has_end (next_events n events) ≡ true → (length events < n) × (run_from to ls (next_events n events) ≡ run_from to ls (with_end events))
ended_run to ls zero events endless ended = absurd (false≢true ended)
ended_run to ls (suc n) [] endless ended = (omega arith, refl)
ended_run to ls (suc n) (event ∷ events) endless ended =
    let here = none_of_two (is_end event) (has_end events) endless in
    let rest = ended_run to (step to ls event).next n events here.1 (second_of_two (is_end event) (has_end (next_events n events)) ended here.0) in
    (omega (arith, rest.0), ap (λ (es : List Effect). Heard event ∷ es) (same_rest (is_end event) (step to ls event).line (run_from to (step to ls event).next (next_events n events)) (run_from to (step to ls event).next (with_end events)) (λ here_unended. rest.1)))

-- Where it wasn't, these are the first.
pub spent_run : (n : ℕ) (events : List Event) → has_end (next_events n events) ≡ false → (n ≤ length events) × (next_events n events ≡ take n events)
spent_run zero events unended = (omega arith, refl)
spent_run (suc n) [] unended = absurd (false≢true (sym unended))
spent_run (suc n) (event ∷ events) unended =
    let rest = spent_run n events (none_of_two (is_end event) (has_end (next_events n events)) unended).1 in
    (omega (arith, rest.0), ap (λ es. event ∷ es) rest.1)
