-- What the code gives for a part of a client's stream, against what the machine says of it.
use Rattle.std.specs.Prelude.{◌≡◌, ℕ, List, ◌++◌, true, Option, Some, None, is_some}
use Rattle.interact_queue.specs.Queue.{is_in}
use Rattle.manager_machine.specs.Heard.{message_of}
use Rattle.manager_machine.specs.Keeper.{AreFit, Keeper, StandsFor}
use Rattle.xsmp_messages.specs.declared.message.XsmpMessage.{XsmpMessage}
use Rattle.session_model.specs.Moves.{History, all_acts}
use Rattle.session_model.specs.Reading.{Reading}
use Rattle.session_model.specs.Rules.{taken}
use Rattle.session_model.specs.declared.events.Act.{Act as SessionAct}
use Rattle.session_model.specs.declared.events.SessionEvent.{SessionEvent}
use Rattle.session_model.specs.declared.events.SessionEvent.TheVariants.{Said}
use Rattle.session_state.specs.Session.{Session}
use Rattle.ice_setup.specs.declared.states.AnySetup.{AnySetup}
use Rattle.protocol_messages.specs.declared.message.Message.{Message}
use Rattle.session_engine.specs.Answers.{said_in}
use Rattle.session_engine.specs.Outcomes.{Answer, Answered, Outcome, Stays, Begins, Closes, Speaks, Asks}
use Rattle.session_engine.specs.Telling.{TakesAnswer}
use Rattle.session_engine.specs.declared.answers.Answer.{Answer as PlainAnswer}
use Rattle.session_engine.specs.declared.answers.Answer.TheVariants.{Stays as JustStays, Begins as JustBegins, Closes as JustCloses, Asks as JustAsks}
use Rattle.session_engine.specs.declared.answers.Outcome.{Outcome as PlainOutcome}
use Rattle.session_engine.specs.declared.answers.Taken.{Taken}
use Rattle.session_engine.specs.declared.answers.Taken.TheVariants.{Brings as JustBrings, Speaks as SpeaksHere}
use Rattle.session_engine.specs.declared.hearing.Brought.{Brought}
use Rattle.session_engine.specs.declared.hearing.Reply.{Reply}
use Rattle.session_engine.specs.declared.hearing.Reply.TheVariants.{Answers as ItAnswers, Did as ItDid}
use Rattle.session_engine.specs.declared.connection.Answered.{Answered as PartAnswered}

-- ---- what a frame brings

abbrev pub as_answer : PlainAnswer → Answer
as_answer (JustStays message) = Stays message
as_answer (JustBegins message) = Begins message
as_answer (JustCloses message) = Closes message
as_answer JustAsks = Asks

abbrev pub as_outcome : PlainOutcome → Outcome
as_outcome o = record { setup = o.setup; answer = as_answer o.answer }

-- of a connection whose set-up has come so far, by a frame with this number
abbrev pub as_taken : AnySetup → ℕ → Taken → Outcome
as_taken setup sequence (JustBrings o) = as_outcome o
as_taken setup sequence (SpeaksHere view) = record { setup = setup; answer = Speaks (message_of view) sequence view.frame.now }

-- ---- what the session hears

-- A connection is live, and XSMP has begun on it.
abbrev pub CanHear : ℕ → Reading → Type 0
CanHear c r = (is_in c r.clients.live ≡ true) × (is_some (r.clients.phase c) ≡ true)

-- Whatever history the session stood for, it stands for the one after this event, which brings these acts, and they fit.
pub record IsHeard (event : SessionEvent) (done : List SessionAct) (old new : Keeper) : Type 0 where
  pub stands : (h : History) → StandsFor old h → StandsFor new (taken event h)
  pub acts : (h : History) → StandsFor old h → all_acts (taken event h) ≡ all_acts h ++ done
  pub fit : (h : History) → StandsFor old h → AreFit done

-- An answer is given as it is, and a message of XSMP was heard.
abbrev pub Replies : ℕ → Answer → Reply → Keeper → Keeper → Type 0
Replies c answer (ItAnswers x) old new = (answer ≡ as_answer x) × (new ≡ old)
Replies c answer (ItDid acts) old new = (message : XsmpMessage) × (sequence : ℕ) × (frame : List ℕ) × (answer ≡ Speaks message sequence frame) × IsHeard (Said c message sequence frame) acts old new

pub record Brings (c : ℕ) (o : Outcome) (brought : Brought) (old new : Keeper) : Type 0 where
  pub setup : brought.setup ≡ o.setup
  pub reply : Replies c o.answer brought.reply old new

-- what is said before anything else, if anything
abbrev pub said_by : Reply → Option Message
said_by (ItAnswers x) = said_in (as_answer x)
said_by (ItDid acts) = None

-- what is still to be told, the session takes, and what it did fits
abbrev pub TakesReply : ℕ → Reply → Session → Type 0
TakesReply c (ItAnswers x) s = TakesAnswer c (as_answer x) s
TakesReply c (ItDid acts) s = AreFit acts

-- ---- what cutting brings

-- The part that was cut, if one was, has this property, with the answer that the machine says.
abbrev pub CutsSo : ℕ → (Option Answered → Type 0) → Option PartAnswered → Keeper → Keeper → Type 0
CutsSo c IsCutSo None old new = IsCutSo None × (new ≡ old)
CutsSo c IsCutSo (Some part) old new = (answer : Answer) × IsCutSo (Some (record { answer = answer; count = part.count })) × Replies c answer part.reply old new
