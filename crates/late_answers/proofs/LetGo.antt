-- Of who was never told that a logout is called off, as it leaves.
use Rattle.std.proofs.Common.{◌≡◌, ℕ, ◌-◌, Bool, true, false, Option, None, Some, refl, sym, ap, arith}
use Rattle.std.specs.Prelude.{◌==◌, ◌&&◌, cond, nat_lt, if◌then◌else◌}
use Rattle.std.proofs.lemmas.Bool.{false≢true}
use Rattle.ice_values.specs.declared.saves.Dialog.{Dialog}
use Rattle.xsmp_messages.specs.declared.message.XsmpMessage.{XsmpMessage}
use Rattle.xsmp_messages.specs.declared.message.XsmpMessage.TheVariants.{Die, Interact, InteractDone, InteractRequest, RegisterClientReply, SaveComplete, SaveYourself, SaveYourselfDone, SaveYourselfPhase2, SaveYourselfPhase2Request, ShutdownCancelled}
use Rattle.round_agreement.specs.declared.wanted.Wanted.{Wanted}
use Rattle.session_model.specs.Phases.{asked_phase, begun_phase, completed_phase, dying_phase, held_phase, is_owing, is_shutdown, may_interact, phase_given, phase_said, registered_phase, saved_phase, second_begun_phase, second_phase, talked_phase}
use Rattle.session_model.specs.declared.phase.Phase.{Phase}
use Rattle.session_model.specs.declared.phase.Phase.TheVariants.{Asked, AskedTwo, Done, Idle, Interacting, InteractingTwo, Owing, Saving, SavingTwo, Unregistered, WantsTwo}
use Rattle.late_answers.specs.Late.{answers, is_cancel, is_hidden, is_late, order_of, phase_behind, said_by, step_of, told_by}
use Rattle.late_answers.specs.Laws.{IsPunctual, OthersAreLetGo, calls_off}
use Rattle.late_answers.specs.declared.late.Late.{Late}
use Rattle.late_answers.specs.declared.outcome.Outcome.{Outcome}
use Rattle.late_answers.specs.declared.outcome.Said.{Said}
use Rattle.late_answers.specs.declared.telling.Order.{Order}
use Rattle.late_answers.specs.declared.telling.Order.TheVariants.{Saves, GivesToken, CallsOff, Completes, Other}
use Rattle.late_answers.specs.declared.saying.Step.{Step}
use Rattle.late_answers.specs.declared.saying.Step.TheVariants.{AsksToTalk, HasTalked, WantsSecond, HasSaved, Leaves, Besides}
use Rattle.late_answers.proofs.Parted.{either}
use Rattle.late_answers.proofs.Plain.{second, punctual}

-- ---- its phase

begun : (phase : Option Phase) → is_owing phase ≡ false → is_owing (begun_phase phase) ≡ false
begun (Some Idle) is = refl
begun phase is = is

held : (phase : Option Phase) → is_owing phase ≡ false → is_owing (held_phase phase) ≡ false
held (Some Asked) is = refl
held (Some AskedTwo) is = refl
held phase is = is

completed : (phase : Option Phase) → is_owing phase ≡ false → is_owing (completed_phase phase) ≡ false
completed (Some Done) is = refl
completed phase is = is

registered : (phase : Option Phase) → is_owing phase ≡ false → is_owing (registered_phase phase) ≡ false
registered (Some Unregistered) is = refl
registered phase is = is

begun_two : (phase : Option Phase) → is_owing phase ≡ false → is_owing (second_begun_phase phase) ≡ false
begun_two (Some WantsTwo) is = refl
begun_two phase is = is

dying : (phase : Option Phase) → is_owing (dying_phase phase) ≡ false
dying None = refl
dying (Some Unregistered) = refl
dying (Some phase) = refl

given_owes : (m : XsmpMessage) (phase : Option Phase) → calls_off (order_of m) ≡ false → is_owing phase ≡ false → is_owing (phase_given m phase) ≡ false
given_owes (RegisterClientReply id) phase other is = registered phase is
given_owes (SaveYourself kind shutdown style fast) phase other is = begun phase is
given_owes Interact phase other is = held phase is
given_owes SaveYourselfPhase2 phase other is = begun_two phase is
given_owes SaveComplete phase other is = completed phase is
given_owes ShutdownCancelled phase other is = absurd (false≢true (sym other))
given_owes Die phase other is = dying phase
given_owes m phase other is = is

asked : (phase : Option Phase) → is_owing phase ≡ false → is_owing (asked_phase phase) ≡ false
asked (Some Saving) is = refl
asked (Some SavingTwo) is = refl
asked phase is = is

talked : (phase : Option Phase) → is_owing phase ≡ false → is_owing (talked_phase phase) ≡ false
talked (Some Interacting) is = refl
talked (Some InteractingTwo) is = refl
talked phase is = is

saved : (phase : Option Phase) → is_owing phase ≡ false → is_owing (saved_phase phase) ≡ false
saved (Some Saving) is = refl
saved (Some SavingTwo) is = refl
saved (Some Owing) is = refl
saved phase is = is

wants : (phase : Option Phase) → is_owing phase ≡ false → is_owing (second_phase phase) ≡ false
wants (Some Saving) is = refl
wants phase is = is

allowed : (b : Bool) (phase : Option Phase) → is_owing phase ≡ false → is_owing (cond b (asked_phase phase) phase) ≡ false
allowed true phase is = asked phase is
allowed false phase is = is

said_owes : (may : Dialog → Bool) (m : XsmpMessage) (phase : Option Phase) → is_owing phase ≡ false → is_owing (phase_said may m phase) ≡ false
said_owes may (InteractRequest dialog) phase is = allowed (may dialog) phase is
said_owes may (InteractDone false) phase is = talked phase is
said_owes may (InteractDone true) phase is = is
said_owes may (SaveYourselfDone success) phase is = saved phase is
said_owes may SaveYourselfPhase2Request phase is = wants phase is
said_owes may m phase is = is

behind_owes : (wanted : Option Wanted) (m : XsmpMessage) (phase : Option Phase) → is_owing phase ≡ false → is_owing (phase_behind wanted m phase) ≡ false
behind_owes wanted m phase is =
    either (λ (p : Option Phase). is_owing p ≡ false) (is_cancel m && is_shutdown wanted) (phase_said (may_interact wanted) (InteractDone false) phase) (phase_said (may_interact wanted) m phase)
    (said_owes (may_interact wanted) (InteractDone false) phase is)
    (said_owes (may_interact wanted) m phase is)

-- ---- what it is sent

sent_on : (order : Order) (m : XsmpMessage) (l : Late) → IsPunctual l → is_owing (phase_given m l.phase) ≡ false → calls_off order ≡ false → IsPunctual (told_by order m l).late
sent_on (Saves w) m l at owes other =
    second (λ (o : Outcome). IsPunctual o.late) l.wary _ _ at.plain.calm
    (record { plain = record { calm = at.plain.calm; shown = refl; free = at.plain.free; unpinged = at.plain.unpinged }; owes = owes; lately = at.lately; stays = at.stays })
sent_on GivesToken m l at owes other =
    second (λ (o : Outcome). IsPunctual o.late) l.posing _ _ at.plain.free
    (record { plain = record { calm = at.plain.calm; shown = at.plain.shown; free = at.plain.free; unpinged = at.plain.unpinged }; owes = owes; lately = at.lately; stays = at.stays })
sent_on CallsOff m l at owes other = absurd (false≢true (sym other))
sent_on Completes m l at owes other =
    second (λ (o : Outcome). IsPunctual o.late) (is_hidden l.save) _ _ (ap is_hidden at.plain.shown)
    (record { plain = record { calm = at.plain.calm; shown = at.plain.shown; free = at.plain.free; unpinged = at.plain.unpinged }; owes = owes; lately = at.lately; stays = at.stays })
sent_on Other m l at owes other =
    record { plain = record { calm = at.plain.calm; shown = at.plain.shown; free = at.plain.free; unpinged = at.plain.unpinged }; owes = owes; lately = at.lately; stays = at.stays }

-- ---- what it says

last_of : {A : Type 0} (P : A → Type 0) (b o t : Bool) (x y z w : A) → b ≡ false → o ≡ false → t ≡ false → P w → P (if b then x else if o then y else if t then z else w)
last_of P true o t x y z w one two three holds = absurd (false≢true (sym one))
last_of P false true t x y z w one two three holds = absurd (false≢true (sym two))
last_of P false false true x y z w one two three holds = absurd (false≢true (sym three))
last_of P false false false x y z w one two three holds = holds

answered : (step : Step) (m : XsmpMessage) (l : Late) → IsPunctual l → IsPunctual (answers step m l).late
answered step m l at =
    last_of (λ (s : Said). IsPunctual s.late) (nat_lt 0 l.pings) (is_owing l.phase) (is_late step l) _ _ _ _ (ap (nat_lt 0) at.plain.unpinged) at.owes (punctual step l at.plain)
    (record { plain = record { calm = at.plain.calm; shown = at.plain.shown; free = at.plain.free; unpinged = at.plain.unpinged }; owes = behind_owes l.wanted m l.phase at.owes; lately = at.lately; stays = at.stays })

said_on : (step : Step) (m : XsmpMessage) (l : Late) → IsPunctual l → IsPunctual (said_by step m l).late
said_on AsksToTalk m l at = answered AsksToTalk m l at
said_on HasTalked m l at = answered HasTalked m l at
said_on WantsSecond m l at = answered WantsSecond m l at
said_on HasSaved m l at = answered HasSaved m l at
said_on Leaves m l at =
    record { plain = record { calm = at.plain.calm; shown = at.plain.shown; free = at.plain.free; unpinged = at.plain.unpinged }; owes = at.owes; lately = at.lately; stays = rw (at.stays, at.lately) refl }
said_on Besides m l at = at

none_left : (n milliseconds : ℕ) → n ≡ 0 → n - milliseconds ≡ 0
none_left n milliseconds is = omega (arith, is)

pub others_are_let_go : OthersAreLetGo
others_are_let_go = record {
  first = record { plain = record { calm = refl; shown = refl; free = refl; unpinged = refl }; owes = refl; lately = refl; stays = refl };
  told = λ m l at other. sent_on (order_of m) m l at (given_owes m l.phase other at.owes) other;
  said = λ m l at. said_on (step_of m) m l at;
  replied = λ l at. second (λ (s : Said). IsPunctual s.late) (nat_lt 0 l.pings) _ _ (ap (nat_lt 0) at.plain.unpinged) at;
  passed = λ n l at.
      second (λ (o : Outcome). IsPunctual o.late) (is_owing l.phase && l.left - n == 0) _ _ (rw at.owes refl)
      (record { plain = record { calm = at.plain.calm; shown = at.plain.shown; free = at.plain.free; unpinged = at.plain.unpinged }; owes = at.owes; lately = none_left l.lately n at.lately; stays = at.stays });
}
