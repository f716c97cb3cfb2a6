-- What holds of each message of either party, and as time passes.
use Rattle.std.specs.Prelude.{◌≡◌, ◌⊎◌, ℕ, ◌+◌, ◌<◌, ◌≤◌, Bool, true, false, List, [], ◌∷◌, length, Option, Some, None}
use Rattle.xsmp_messages.specs.declared.message.XsmpMessage.{XsmpMessage}
use Rattle.session_model.specs.Phases.{is_member, is_owing, phase_given}
use Rattle.session_model.specs.Replies.{has_place}
use Rattle.session_model.specs.declared.phase.Phase.{Phase}
use Rattle.session_model.specs.declared.phase.Phase.TheVariants.{Asked, AskedTwo, Done, Idle, Interacting, Owing, Saving}
use Rattle.late_answers.specs.Late.{at_first, message_of, order_of, told, step_of, said, replied, passed}
use Rattle.late_answers.specs.declared.late.Save.{Save}
use Rattle.late_answers.specs.declared.late.Save.TheVariants.{Shown, Held, Hidden}
use Rattle.late_answers.specs.declared.late.Late.{Late}
use Rattle.late_answers.specs.declared.outcome.Outcome.{Outcome}
use Rattle.late_answers.specs.declared.outcome.Outgoing.TheVariants.{Itself, NoBytes}
use Rattle.late_answers.specs.declared.outcome.Said.{Said}
use Rattle.late_answers.specs.declared.outcome.Word.{Word}
use Rattle.late_answers.specs.declared.telling.Order.{Order}
use Rattle.late_answers.specs.declared.telling.Order.TheVariants.{Saves, GivesToken, CallsOff, Completes, Other}
use Rattle.late_answers.specs.declared.saying.Step.TheVariants.{HasSaved}

-- ---- who was never told that a logout is called off

-- Nothing of it is late: so it is at first.
pub record IsPlain (l : Late) : Type 0 where
  pub calm : l.wary ≡ false
  pub shown : l.save ≡ Shown
  pub free : l.posing ≡ false
  pub unpinged : l.pings ≡ 0

abbrev pub calls_off : Order → Bool
calls_off (Saves w) = false
calls_off GivesToken = false
calls_off CallsOff = true
calls_off Completes = false
calls_off Other = false

pub record GoesOut (o : Outcome) : Type 0 where
  pub itself : o.outgoing ≡ Itself
  pub silent : o.word ≡ None
  pub plain : IsPlain o.late

abbrev pub OthersAreSentAll : Type 0
OthersAreSentAll = (m : XsmpMessage) (l : Late) → IsPlain l → calls_off (order_of m) ≡ false → GoesOut (told m l)

pub record Passes (s : Said) : Type 0 where
  pub passes : s.passes ≡ true
  pub nothing : s.outgoing ≡ NoBytes
  pub silent : s.word ≡ None
  pub plain : IsPlain s.late

abbrev pub OthersAreHeard : Type 0
OthersAreHeard = (m : XsmpMessage) (l : Late) → IsPlain l → Passes (said m l)

-- Nor is it held back as one that leaves behind a logout that was called off.
pub record IsPunctual (l : Late) : Type 0 where
  pub plain : IsPlain l
  pub owes : is_owing l.phase ≡ false
  pub lately : l.lately ≡ 0
  pub stays : l.gone ≡ false

pub record OthersAreLetGo : Type 0 where
  pub first : IsPunctual at_first
  pub told : (m : XsmpMessage) (l : Late) → IsPunctual l → calls_off (order_of m) ≡ false → IsPunctual (told m l).late
  pub said : (m : XsmpMessage) (l : Late) → IsPunctual l → IsPunctual (said m l).late
  pub replied : (l : Late) → IsPunctual l → IsPunctual (replied l).late
  pub passed : (milliseconds : ℕ) (l : Late) → IsPunctual l → IsPunctual (passed milliseconds l).late

-- ---- what is said in a client's place

-- the phases in which a save may be kept back or hidden
abbrev pub fits : Save → Bool → Option Phase → Bool
fits Shown false phase = true
fits Held false (Some Saving) = true
fits Held true (Some Asked) = true
fits Held true (Some Interacting) = true
fits Hidden false (Some Done) = true
fits save posing phase = false

-- the phases in which the manager sends a client this
abbrev pub may_come : Order → Option Phase → Bool
may_come (Saves w) (Some Idle) = true
may_come GivesToken (Some Asked) = true
may_come GivesToken (Some AskedTwo) = true
may_come CallsOff phase = is_member phase
may_come Completes (Some Done) = true
may_come Other phase = true
may_come order phase = false

abbrev pub WordsHaveTheirPlace : Type 0
WordsHaveTheirPlace = (m : XsmpMessage) (l : Late) (word : Word) → fits l.save l.posing l.phase ≡ true → may_come (order_of m) l.phase ≡ true → (told m l).word ≡ Some word → has_place (told m l).late.wanted (message_of word) (phase_given m l.phase) ≡ true

-- ---- answers

abbrev pub AnswersAreOfTheRunningSave : Type 0
AnswersAreOfTheRunningSave = (m : XsmpMessage) (l : Late) → step_of m ≡ HasSaved → (said m l).passes ≡ true → (is_owing l.phase ≡ true) ⊎ (l.save ≡ Shown) × (l.pings ≡ 0)

-- ---- time

abbrev pub time_in : List ℕ → ℕ
time_in [] = 0
time_in (milliseconds ∷ times) = milliseconds + time_in times

-- what is known when these times have passed
abbrev pub behind_all : Late → List ℕ → Late
behind_all l [] = l
behind_all l (milliseconds ∷ times) = behind_all (passed milliseconds l).late times

abbrev pub DebtsEnd : Type 0
DebtsEnd = (l : Late) (times : List ℕ) → l.phase ≡ Some Owing → l.left ≤ time_in times → 0 < length times → is_owing (behind_all l times).phase ≡ false
