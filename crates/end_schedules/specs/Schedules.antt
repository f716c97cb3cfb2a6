-- A manager and any number of clients, each with a queue each way, over every schedule.
use Rattle.std.specs.Prelude.{Bool, List, None, Option, Some, [], cond, false, true, ℕ, ◌==◌, ◌∷◌, ◌≡◌}
use Rattle.sm_world.specs.declared.events.Order.{Order}
use Rattle.xsmp_messages.specs.declared.message.XsmpMessage.{XsmpMessage}
use Rattle.session_model.specs.declared.events.SessionEvent.{SessionEvent}
use Rattle.session_model.specs.declared.events.SessionEvent.TheVariants.{Joined, Left, Operator, Ready, Tick}
use Rattle.session_model.specs.Laws.{Always}
use Rattle.session_model.specs.Moves.{History}
use Rattle.session_model.specs.Reading.{reading}
use Rattle.session_model.specs.Rules as session
use Rattle.client_machine.specs.Phases.{ClientState}
use Rattle.client_machine.specs.declared.saves.SaveAsk.{SaveAsk}
use Rattle.end_schedules.specs.Pairs.{May, Pair, Step, begun, step}
use Rattle.end_schedules.specs.Pairs.Step.{Breaks as GoesDown, Happens}

-- the client's end of a pair
pub record End : Type 0 where
  pub state : ClientState
  pub up : List XsmpMessage
  pub took : ℕ
  pub saves : ℕ
  pub answers : ℕ

abbrev pub paired : History → End → Pair
paired h e = record { history = h; state = e.state; up = e.up; took = e.took; saves = e.saves; answers = e.answers }

abbrev pub end_of : Pair → End
end_of p = record { state = p.state; up = p.up; took = p.took; saves = p.saves; answers = p.answers }

-- the manager's history, and of each connection the end of the client on it
pub record Company : Type 0 where
  pub history : History
  pub ends : ℕ → Option End

-- something comes to the manager from elsewhere
abbrev pub happens : SessionEvent → Company → Company
happens event t = record t { history = session.taken event t.history }

abbrev pub with_end : ℕ → Option End → (ℕ → Option End) → ℕ → Option End
with_end c e ends d = cond (c == d) e (ends d)

pub data Turn : Type 0 where
  -- a connection is opened; an earlier one of this number is forgotten, with what its client hasn't taken
  Joins : ℕ → Turn
  -- XSMP begins on it, and its client registers, with this previous ID
  Begins : ℕ → List ℕ → SaveAsk → Turn
  -- a step of this client, or of the manager towards it
  Steps : ℕ → Step → Turn
  Orders : Order → Turn
  -- so many milliseconds pass
  Waits : ℕ → Turn
  -- the connection breaks
  Breaks : ℕ → Turn

abbrev pub stepped : ℕ → Step → Option End → Company → Company
stepped c s None t = t
stepped c s (Some e) t = record { history = (step c s (paired t.history e)).history; ends = with_end c (Some (end_of (step c s (paired t.history e)))) t.ends }

abbrev pub turn : Turn → Company → Company
turn (Joins c) t = record { history = session.taken (Joined c) t.history; ends = with_end c None t.ends }
turn (Begins c previous asked) t = record { history = session.taken (Ready c) t.history; ends = with_end c (Some (end_of (begun c previous asked t.history))) t.ends }
turn (Steps c s) t = stepped c s (t.ends c) t
turn (Orders order) t = happens (Operator order) t
turn (Waits milliseconds) t = happens (Tick milliseconds) t
turn (Breaks c) t = happens (Left c) t

-- the client asks or closes, the manager hears it, or it takes something
abbrev pub is_own : Step → Bool
is_own (Happens event) = false
is_own GoesDown = false
is_own s = true

abbrev pub MayTurn : Turn → Company → Type 0
MayTurn (Joins c) t = session.Takes (Joined c) (reading t.history)
MayTurn (Begins c previous asked) t = session.Takes (Ready c) (reading t.history)
MayTurn (Steps c s) t = (is_own s ≡ true) × ((e : End) → t.ends c ≡ Some e → May c s (paired t.history e))
MayTurn (Orders order) t = Unit {0}
MayTurn (Waits milliseconds) t = Unit {0}
MayTurn (Breaks c) t = session.Takes (Left c) (reading t.history)

abbrev pub after_turns : List Turn → Company → Company
after_turns [] t = t
after_turns (x ∷ turns) t = after_turns turns (turn x t)

abbrev pub AllMayTurn : List Turn → Company → Type 0
AllMayTurn [] t = Unit {0}
AllMayTurn (x ∷ turns) t = MayTurn x t × AllMayTurn turns (turn x t)

-- a manager at some point of its run, of whose clients none is followed yet
abbrev pub company_of : History → Company
company_of h = record { history = h; ends = λ c. None }

-- this holds of the manager and each client that was ever followed, until its number joins again, after every schedule, wherever in a
-- run it begins
abbrev pub InEverySchedule : (ℕ → Pair → Type 0) → Type 0
InEverySchedule Holds =
    Always (λ h. (turns : List Turn) → AllMayTurn turns (company_of h) → (c : ℕ) (e : End) → (after_turns turns (company_of h)).ends c ≡ Some e → Holds c (paired (after_turns turns (company_of h)).history e))
