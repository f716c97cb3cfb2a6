-- What holds of a leaver at each message of the manager's, and as time passes.
use Rattle.std.specs.Prelude.{◌≡◌, ℕ, ◌<◌, ◌≤◌, ◌&&◌, ◌||◌, Bool, true, false, List, [], ◌∷◌, length, Option, Some}
use Rattle.xsmp_messages.specs.declared.message.XsmpMessage.{XsmpMessage}
use Rattle.xsmp_messages.specs.declared.message.XsmpMessage.TheVariants.{Interact, SaveYourself, SaveYourselfPhase2, ShutdownCancelled}
use Rattle.round_agreement.specs.declared.wanted.Wanted.{Wanted}
use Rattle.session_model.specs.Phases.{is_asked, is_bound, is_member, may_interact, phase_given, phase_said}
use Rattle.session_model.specs.Replies.{has_place}
use Rattle.session_model.specs.declared.phase.Phase.{Phase}
use Rattle.session_model.specs.declared.phase.Phase.TheVariants.{Idle, WantsTwo}
use Rattle.late_answers.specs.Late.{is_done}
use Rattle.late_answers.specs.Leavers.{messages_of, leaver_told, leaver_known, leaver_passed, parting_of, is_asking, is_over}
use Rattle.late_answers.specs.Laws.{time_in}
use Rattle.late_answers.specs.declared.leaver.Stay.{Stay}
use Rattle.late_answers.specs.declared.leaver.Stay.TheVariants.{Leaving, Waiting, Unasked, Unsaved, Saved, Asking, Expected, Over}
use Rattle.late_answers.specs.declared.leaver.Leaver.{Leaver}
use Rattle.late_answers.specs.declared.late.Late.{Late}

-- ---- what is said in its place

abbrev pub is_idle_phase : Option Phase → Bool
is_idle_phase (Some Idle) = true
is_idle_phase phase = false

abbrev pub wants_two : Option Phase → Bool
wants_two (Some WantsTwo) = true
wants_two phase = false

-- who waits for its turn, and who has failed
abbrev pub stands : Stay → Option Phase → Bool
stands Waiting phase = is_asked phase || wants_two phase
stands Unasked phase = is_done phase
stands stay phase = true

-- the phases in which the manager sends this
abbrev pub comes : XsmpMessage → Option Phase → Bool
comes (SaveYourself kind shutdown style fast) phase = is_idle_phase phase
comes SaveYourselfPhase2 phase = wants_two phase
comes Interact phase = is_asked phase
comes ShutdownCancelled phase = is_member phase
comes m phase = true

-- Of these messages, said one behind the other from this phase on, each has its place.
abbrev pub all_placed : Option Wanted → Option Phase → List XsmpMessage → Bool
all_placed wanted phase [] = true
all_placed wanted phase (m ∷ ms) = has_place wanted m phase && all_placed wanted (phase_said (may_interact wanted) m phase) ms

pub record LeaversHaveTheirPlace : Type 0 where
  pub left : (l : Late) (wanted : Option Wanted) → all_placed wanted l.phase (messages_of (parting_of l).line) ≡ true
  pub told : (m : XsmpMessage) (g : Leaver) (wanted : Option Wanted) (phase : Option Phase) → stands g.stay phase ≡ true → comes m phase ≡ true → all_placed wanted (phase_given m phase) (messages_of (leaver_told m g).line) ≡ true
  pub passed : (milliseconds : ℕ) (g : Leaver) (wanted : Option Wanted) (phase : Option Phase) → is_bound phase ≡ true → all_placed wanted phase (messages_of (leaver_passed milliseconds g).line) ≡ true

-- It stands so as it leaves, where it is bound to the session then, behind each message of the manager's, and as time passes. Who waits for its turn or has failed then has said nothing, so that its phase is the one that the message led to.
pub record LeaversStand : Type 0 where
  pub left : (l : Late) → is_bound l.phase ≡ true → stands (parting_of l).leaver.stay l.phase ≡ true
  pub told : (m : XsmpMessage) (g : Leaver) (phase : Option Phase) → stands g.stay phase ≡ true → comes m phase ≡ true → stands (leaver_told m g).leaver.stay (phase_given m phase) ≡ true
  pub passed : (milliseconds : ℕ) (g : Leaver) (phase : Option Phase) → stands g.stay phase ≡ true → stands (leaver_passed milliseconds g).leaver.stay phase ≡ true

-- ---- one start for each time that it left

-- how far it is
abbrev pub rank : Stay → ℕ
rank Leaving = 0
rank Waiting = 0
rank Unasked = 0
rank Unsaved = 1
rank Saved = 2
rank Asking = 3
rank Expected = 4
rank Over = 5

-- It never goes back, and goes on where it is started.
pub record LeaversGoOn : Type 0 where
  pub told : (m : XsmpMessage) (g : Leaver) → rank g.stay ≤ rank (leaver_told m g).leaver.stay
  pub passed : (milliseconds : ℕ) (g : Leaver) → rank g.stay ≤ rank (leaver_passed milliseconds g).leaver.stay
  pub known : (starts : Bool) (g : Leaver) → is_asking g.stay ≡ true → rank g.stay < rank (leaver_known starts g).stay

-- ---- its end

abbrev pub leaver_behind : Leaver → List ℕ → Leaver
leaver_behind g [] = g
leaver_behind g (milliseconds ∷ times) = leaver_behind (leaver_passed milliseconds g).leaver times

abbrev pub LeaversEnd : Type 0
LeaversEnd = (g : Leaver) (times : List ℕ) → g.stay ≡ Expected → g.ended ≡ true → g.left ≤ time_in times → 0 < length times → is_over (leaver_behind g times).stay ≡ true
