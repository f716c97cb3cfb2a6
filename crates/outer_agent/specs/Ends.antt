-- Which ends of saves an agent says: that of a save that its outer manager waits for, and no other.
use Rattle.std.specs.Prelude.{◌≡◌, ◌≢◌, ℕ, Bool, true, false, ◌&&◌, List, [], ◌∷◌, if◌then◌else◌}
use Rattle.std.specs.List.{AllByRecursion}
use Rattle.ice_cookie.specs.declared.cookies.Cookie.{Cookie}
use Rattle.xsmp_messages.specs.declared.message.XsmpMessage.TheVariants.{SaveYourselfDone}
use Rattle.client_engine.specs.Driving.{Run}
use Rattle.client_engine.specs.Messages.{spelled}
use Rattle.client_engine.specs.Places.{is_listening}
use Rattle.protocol_messages.specs.declared.message.Message.TheVariants.{Xsmp}
use Rattle.outer_agent.specs.Script.{Keeper, closed, piece_heard, start, told}
use Rattle.outer_agent.specs.declared.acts.AgentAct.{AgentAct}
use Rattle.outer_agent.specs.declared.acts.AgentAct.TheVariants.{Send, Checkpoint, Forget, Shutdown, Drop}

-- What comes to an agent: a piece of its outer manager's stream, the end of a save of its session, and the session's end.
pub data Came : Type 0 where
  Piece : List ℕ → Came
  SaveEnded : Bool → Came
  SessionEnded : Came

-- Whether the end of a save is to be told: whether it was before, and what these acts make of that.
abbrev pub is_due : Bool → List AgentAct → Bool
is_due due [] = due
is_due due (Send bytes ∷ acts) = is_due due acts
is_due due (Checkpoint ∷ acts) = is_due true acts
is_due due (Forget ∷ acts) = is_due false acts
is_due due (Shutdown ∷ acts) = is_due false acts
is_due due (Drop ∷ acts) = is_due false acts

-- how far an agent is, and whether the end of a save is to be told to it
pub record Life : Type 0 where
  pub run : Run Keeper
  pub due : Bool

abbrev pub after : Life → Came → Life
after life (Piece bytes) = record { run = (piece_heard life.run bytes).next; due = is_due life.due (piece_heard life.run bytes).line }
after life (SaveEnded success) = record { run = (told life.run success).next; due = false }
after life SessionEnded = record { run = (closed life.run).next; due = false }

abbrev pub after_all : Life → List Came → Life
after_all life [] = life
after_all life (came ∷ more) = after_all (after life came) more

-- an agent to whom all this came, from its begin on
abbrev pub life_of : Cookie → List ℕ → List (List ℕ) → List Came → Life
life_of cookie previous words all = after_all (record { run = start cookie previous words; due = false }) all

abbrev pub hears_still : Life → Bool
hears_still life = is_listening life.run.keeper.talk.place

-- SaveYourselfDone, where the end is to be told and the agent still hears its outer manager; else nothing
abbrev pub end_said : Life → Bool → List ℕ
end_said life success = if life.due && hears_still life then spelled (Xsmp (SaveYourselfDone success)) else []

-- Whatever came, an end that is told is said exactly where it is due.
abbrev pub EndsAreSaidWhereDue : Type 0
EndsAreSaidWhereDue = (cookie : Cookie) (previous : List ℕ) (words : List (List ℕ)) (all : List Came) (success : Bool) → (told (life_of cookie previous words all).run success).line ≡ end_said (life_of cookie previous words all) success

-- A save is asked for, and the session is to be shut down, only where the end of no save is due.
abbrev pub AreOneByOne : Bool → List AgentAct → Type 0
AreOneByOne due [] = Unit {0}
AreOneByOne due (Send bytes ∷ acts) = AreOneByOne due acts
AreOneByOne due (Checkpoint ∷ acts) = (due ≡ false) × AreOneByOne true acts
AreOneByOne due (Forget ∷ acts) = AreOneByOne false acts
AreOneByOne due (Shutdown ∷ acts) = (due ≡ false) × AreOneByOne false acts
AreOneByOne due (Drop ∷ acts) = AreOneByOne false acts

-- Whatever came, and whatever piece comes then, its acts ask for such things one by one.
abbrev pub SavesComeOneByOne : Type 0
SavesComeOneByOne = (cookie : Cookie) (previous : List ℕ) (words : List (List ℕ)) (all : List Came) (bytes : List ℕ) → AreOneByOne (life_of cookie previous words all).due (piece_heard (life_of cookie previous words all).run bytes).line

-- No act about a piece says that a save succeeded.
abbrev pub PiecesBringNoSuccess : Type 0
PiecesBringNoSuccess = (run : Run Keeper) (bytes : List ℕ) → AllByRecursion (λ act. act ≢ Send (spelled (Xsmp (SaveYourselfDone true)))) (piece_heard run bytes).line
