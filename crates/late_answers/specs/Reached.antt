-- Which states are reached, and what the manager sends in each.
use Rattle.std.specs.Prelude.{◌≡◌, ℕ, ◌&&◌, ◌||◌, not, Bool, true, Some}
use Rattle.xsmp_messages.specs.declared.message.XsmpMessage.{XsmpMessage}
use Rattle.xsmp_messages.specs.declared.message.XsmpMessage.TheVariants.{Die, Interact, SaveComplete, SaveYourself, SaveYourselfPhase2, ShutdownCancelled}
use Rattle.session_model.specs.Phases.{is_asked, is_member, is_shutdown, phase_given}
use Rattle.session_model.specs.Replies.{has_place}
use Rattle.late_answers.specs.Late.{at_first, is_done, is_hidden, message_of, told, said, replied, closed, passed}
use Rattle.late_answers.specs.Laws.{fits}
use Rattle.late_answers.specs.LeaverLaws.{is_idle_phase, wants_two}
use Rattle.late_answers.specs.declared.late.Late.{Late}
use Rattle.late_answers.specs.declared.outcome.Word.{Word}

-- A save is kept back or hidden in a phase that fits, and one that is hidden is no logout's.
abbrev pub is_fit : Late → Bool
is_fit l = fits l.save l.posing l.phase && not (is_hidden l.save && is_shutdown l.wanted)

-- The manager sends a client this so. What begins a save, goes on with it or ends it comes in its phase; who is told that a logout is called off was asked of one; and so was who is told to die, where it has answered a save.
abbrev pub is_sent : XsmpMessage → Late → Bool
is_sent (SaveYourself kind shutdown style fast) l = is_idle_phase l.phase
is_sent Interact l = is_asked l.phase
is_sent SaveYourselfPhase2 l = wants_two l.phase
is_sent SaveComplete l = is_done l.phase
is_sent ShutdownCancelled l = is_member l.phase && is_shutdown l.wanted
is_sent Die l = is_idle_phase l.phase || is_done l.phase && is_shutdown l.wanted
is_sent m l = true

-- A client's state is fit at first, and stays so behind all that is sent to it so, behind all that it says, as it closes, and as time passes. And each word in its place has its place in the phase in which the manager has the client then: about a message of the manager's, in a fit state; about one of the client's that is taken away; and as time passes.
pub record StatesAreFit : Type 0 where
  pub placed_told : (m : XsmpMessage) (l : Late) (word : Word) → is_fit l ≡ true → is_sent m l ≡ true → (told m l).word ≡ Some word → has_place (told m l).late.wanted (message_of word) (phase_given m l.phase) ≡ true
  pub placed_said : (m : XsmpMessage) (l : Late) (word : Word) → (said m l).word ≡ Some word → has_place l.wanted (message_of word) l.phase ≡ true
  pub placed_passed : (milliseconds : ℕ) (l : Late) (word : Word) → (passed milliseconds l).word ≡ Some word → has_place l.wanted (message_of word) l.phase ≡ true
  pub first : is_fit at_first ≡ true
  pub told : (m : XsmpMessage) (l : Late) → is_fit l ≡ true → is_sent m l ≡ true → is_fit (told m l).late ≡ true
  pub said : (m : XsmpMessage) (l : Late) → is_fit l ≡ true → is_fit (said m l).late ≡ true
  pub replied : (l : Late) → is_fit l ≡ true → is_fit (replied l).late ≡ true
  pub closed : (l : Late) → is_fit l ≡ true → is_fit (closed l) ≡ true
  pub passed : (milliseconds : ℕ) (l : Late) → is_fit l ≡ true → is_fit (passed milliseconds l).late ≡ true
