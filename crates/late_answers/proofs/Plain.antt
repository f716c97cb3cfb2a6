-- Of who was never told that a logout is called off, and of answers.
use Rattle.std.proofs.Common.{◌≡◌, ◌⊎◌, inl, inr, ℕ, ◌+◌, ◌-◌, ◌<◌, ◌≤◌, List, [], ◌∷◌, length, Bool, true, false, Some, refl, sym, ap, ◌∙◌, subst, arith}
use Rattle.std.specs.Prelude.{◌==◌, ◌&&◌, ◌||◌, nat_lt, not, if◌then◌else◌}
use Rattle.std.proofs.lemmas.Bool.{false≢true}
use Rattle.std.proofs.lemmas.Bool.Decides.{nat_tests}
use Rattle.xsmp_messages.specs.declared.message.XsmpMessage.{XsmpMessage}
use Rattle.session_model.specs.Phases.{is_owing}
use Rattle.session_model.specs.declared.phase.Phase.TheVariants.{Owing}
use Rattle.late_answers.specs.Late.{is_shown, is_hidden, given, answers, answered_owing, behind, closed, said_lately, is_late, has_no_place, told_by, step_of, said_by, passing, passed, later}
use Rattle.late_answers.specs.Laws.{IsPlain, GoesOut, Passes, calls_off, OthersAreSentAll, OthersAreHeard, AnswersAreOfTheRunningSave, behind_all, time_in, DebtsEnd}
use Rattle.late_answers.specs.declared.late.Save.{Save}
use Rattle.late_answers.specs.declared.late.Save.TheVariants.{Shown, Held, Hidden}
use Rattle.late_answers.specs.declared.late.Late.{Late}
use Rattle.late_answers.specs.declared.outcome.Outcome.{Outcome}
use Rattle.late_answers.specs.declared.outcome.Said.{Said}
use Rattle.late_answers.specs.declared.telling.Order.{Order}
use Rattle.late_answers.specs.declared.telling.Order.TheVariants.{Saves, GivesToken, CallsOff, Completes, Other}
use Rattle.late_answers.specs.declared.saying.Step.{Step}
use Rattle.late_answers.specs.declared.saying.Step.TheVariants.{AsksToTalk, HasTalked, WantsSecond, HasSaved, Leaves, Besides}
use Rattle.late_answers.specs.Late.{order_of}

-- ---- which of two or four

pub second : {A : Type 0} (P : A → Type 0) (b : Bool) (x y : A) → b ≡ false → P y → P (if b then x else y)
second P true x y is holds = absurd (false≢true (sym is))
second P false x y is holds = holds

passing_two : {A : Type 0} (P : A → Type 0) (b o t : Bool) (x y z w : A) → b ≡ false → t ≡ false → P y → P w → P (if b then x else if o then y else if t then z else w)
passing_two P true o t x y z w one two py pw = absurd (false≢true (sym one))
passing_two P false true t x y z w one two py pw = py
passing_two P false false true x y z w one two py pw = absurd (false≢true (sym two))
passing_two P false false false x y z w one two py pw = pw

-- ---- what it is sent

as_before : (m : XsmpMessage) (l : Late) → IsPlain l → IsPlain (given m l)
as_before m l plain = record { calm = plain.calm; shown = plain.shown; free = plain.free; unpinged = plain.unpinged }

sent : (order : Order) (m : XsmpMessage) (l : Late) → IsPlain l → calls_off order ≡ false → GoesOut (told_by order m l)
sent (Saves w) m l plain other =
    second GoesOut l.wary _ _ plain.calm (record { itself = refl; silent = refl; plain = record { calm = plain.calm; shown = refl; free = plain.free; unpinged = plain.unpinged } })
sent GivesToken m l plain other = second GoesOut l.posing _ _ plain.free (record { itself = refl; silent = refl; plain = as_before m l plain })
sent CallsOff m l plain other = absurd (false≢true (sym other))
sent Completes m l plain other = second GoesOut (is_hidden l.save) _ _ (ap is_hidden plain.shown) (record { itself = refl; silent = refl; plain = as_before m l plain })
sent Other m l plain other = record { itself = refl; silent = refl; plain = as_before m l plain }

pub others_are_sent_all : OthersAreSentAll
others_are_sent_all m l plain other = sent (order_of m) m l plain other

-- ---- what it says

still_plain : (step : Step) (m : XsmpMessage) (l : Late) → IsPlain l → IsPlain (answered_owing step (behind m (said_lately m l)))
still_plain HasTalked m l plain = record { calm = plain.calm; shown = plain.shown; free = plain.free; unpinged = plain.unpinged }
still_plain HasSaved m l plain = record { calm = plain.calm; shown = plain.shown; free = plain.free; unpinged = plain.unpinged }
still_plain AsksToTalk m l plain = record { calm = plain.calm; shown = plain.shown; free = plain.free; unpinged = plain.unpinged }
still_plain WantsSecond m l plain = record { calm = plain.calm; shown = plain.shown; free = plain.free; unpinged = plain.unpinged }
still_plain Leaves m l plain = record { calm = plain.calm; shown = plain.shown; free = plain.free; unpinged = plain.unpinged }
still_plain Besides m l plain = record { calm = plain.calm; shown = plain.shown; free = plain.free; unpinged = plain.unpinged }

passes : (l : Late) → IsPlain l → Passes (passing l)
passes l plain = record { passes = refl; nothing = refl; silent = refl; plain = plain }

pub punctual : (step : Step) (l : Late) → IsPlain l → is_late step l ≡ false
punctual step l plain = rw (plain.shown, plain.calm) refl

heard : (step : Step) (m : XsmpMessage) (l : Late) → IsPlain l → Passes (answers step m l)
heard step m l plain =
    passing_two Passes (nat_lt 0 l.pings) (is_owing l.phase) (is_late step l) _ _ _ _ (ap (nat_lt 0) plain.unpinged) (punctual step l plain)
    (passes (answered_owing step (behind m (said_lately m l))) (still_plain step m l plain))
    (passes (behind m l) (record { calm = plain.calm; shown = plain.shown; free = plain.free; unpinged = plain.unpinged }))

heard_by : (step : Step) (m : XsmpMessage) (l : Late) → IsPlain l → Passes (said_by step m l)
heard_by AsksToTalk m l plain = heard AsksToTalk m l plain
heard_by HasTalked m l plain = heard HasTalked m l plain
heard_by WantsSecond m l plain = heard WantsSecond m l plain
heard_by HasSaved m l plain = heard HasSaved m l plain
heard_by Leaves m l plain = passes (closed l) (record { calm = plain.calm; shown = plain.shown; free = plain.free; unpinged = plain.unpinged })
heard_by Besides m l plain = passes l plain

pub others_are_heard : OthersAreHeard
others_are_heard m l plain = heard_by (step_of m) m l plain

-- ---- answers

is_that : (save : Save) → is_shown save ≡ true → save ≡ Shown
is_that Shown is = refl
is_that Held is = absurd (false≢true is)
is_that Hidden is = absurd (false≢true is)

not_not : (b : Bool) (x : Bool) → (not b || x) ≡ false → b ≡ true
not_not true x is = refl
not_not false x is = absurd (false≢true (sym is))

no_pings : (n : ℕ) → nat_lt 0 n ≡ false → n ≡ 0
no_pings n is = grind (arith, nat_tests)

of_running : (b o t : Bool) (x y z w : Said) (A : Type 0) → x.passes ≡ false → z.passes ≡ false → (if b then x else if o then y else if t then z else w).passes ≡ true → (b ≡ false → t ≡ false → A) → (o ≡ true) ⊎ A
of_running true o t x y z w A one three is give = absurd (false≢true (sym one ∙ is))
of_running false true t x y z w A one three is give = inl refl
of_running false false true x y z w A one three is give = absurd (false≢true (sym three ∙ is))
of_running false false false x y z w A one three is give = inr (give refl refl)

pub answers_are_of_the_running_save : AnswersAreOfTheRunningSave
answers_are_of_the_running_save m l is passes_ =
    let by : (said_by HasSaved m l).passes ≡ true = ap (λ (s : Step). (said_by s m l).passes) (sym is) ∙ passes_ in
    of_running (nat_lt 0 l.pings) (is_owing l.phase) (is_late HasSaved l) _ _ _ _ ((l.save ≡ Shown) × (l.pings ≡ 0)) refl refl by
    (λ few soon. (is_that l.save (not_not (is_shown l.save) (l.wary && has_no_place HasSaved l.phase) soon), no_pings l.pings few))

-- ---- time

-- Who owes nothing goes on so.
rests_on : (l : Late) (times : List ℕ) → is_owing l.phase ≡ false → is_owing (behind_all l times).phase ≡ false
rests_on l [] is = is
rests_on l (n ∷ times) is = rests_on (passed n l).late times (second (λ (o : Outcome). is_owing o.late.phase ≡ false) (is_owing l.phase && l.left - n == 0) _ _ (rw is refl) is)

pub above : (a : ℕ) → (a == 0) ≡ false → 0 < a
above a is = grind (arith, nat_tests)

pub some_of : (times : List ℕ) → 0 < time_in times → 0 < length times
some_of [] more = absurd (omega arith)
some_of (n ∷ times) more = omega arith

ends_by : (l : Late) (n : ℕ) (times : List ℕ) (over : Bool) → l.phase ≡ Some Owing → (l.left - n == 0) ≡ over → l.left ≤ n + time_in times → ((k : Late) → k.phase ≡ Some Owing → k.left ≤ time_in times → 0 < length times → is_owing (behind_all k times).phase ≡ false) → is_owing (behind_all (passed n l).late times).phase ≡ false
ends_by l n times true owes over within goes = rests_on (passed n l).late times (rw (owes, over) refl)
ends_by l n times false owes over within goes =
    let more : 0 < l.left - n = above (l.left - n) over in
    let is : (passed n l).late ≡ later n l = rw (owes, over) refl in
    subst (λ (k : Late). is_owing (behind_all k times).phase ≡ false) (sym is) (goes (later n l) owes (omega arith) (some_of times (omega arith)))

pub debts_end : DebtsEnd
debts_end l [] owes within some = absurd (omega arith)
debts_end l (n ∷ times) owes within some = ends_by l n times (l.left - n == 0) owes refl within (λ k is few more. debts_end k times is few more)
