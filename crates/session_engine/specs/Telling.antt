-- What the session in memory does as the session is told of something, and as a client is answered.
use Rattle.std.specs.Prelude.{◌≡◌, ◌≢◌, ℕ, List, ◌++◌}
use Rattle.manager_machine.specs.Keeper.{Keeper, StandsFor}
use Rattle.session_model.specs.Moves.{History, Outside, ◌▷◌}
use Rattle.session_model.specs.Rules.{Takes as TakesEvent, taken}
use Rattle.session_model.specs.declared.events.Act.{Act as SessionAct}
use Rattle.session_model.specs.declared.events.SessionEvent.{SessionEvent}
use Rattle.session_model.specs.declared.events.SessionEvent.TheVariants.{Ready, Said, Left}
use Rattle.session_state.specs.Session.{Session, reading_in}
use Rattle.session_engine.specs.Acts.{acts_for_all}
use Rattle.session_engine.specs.Answers.{KeepsWhole}
use Rattle.session_engine.specs.Machine.{Connection, Machine, Step, acts_of, acts_since, answered, connection_of, connections_through, departs}
use Rattle.session_engine.specs.Shown.{Agrees, AreDistinct, Matches, Shows, ShowsLive, kept_at}
use Rattle.session_engine.specs.declared.acts.Act.{Act}
use Rattle.session_engine.specs.Outcomes.{Answer, Stays, Begins, Closes, Speaks, Asks}
use Rattle.session_engine.specs.declared.engine.Engine.{Engine}
use Rattle.session_engine.specs.declared.live.Connections.{Connections}

-- whatever live connections were shown, those behind these acts of the session are
abbrev pub FollowsLive : List SessionAct → Connections → Connections → Type 0
FollowsLive acts old new = (pending : ℕ → List ℕ) (ks : List Connection) → ShowsLive pending old ks → ShowsLive pending new (connections_through acts ks)

-- These acts of the session are followed.
pub record Follows (done : List SessionAct) (old new : Engine) : Type 0 where
  pub cookie : new.cookie ≡ old.cookie
  pub manager : new.manager ≡ old.manager
  pub acts : new.acts ≡ old.acts ++ acts_for_all done
  pub live : FollowsLive done old.live new.live

-- it stands for some history
abbrev pub IsStanding : Keeper → Type 0
IsStanding keeper = (h : History) × StandsFor keeper h

-- The session was told, whose history was this, and is followed.
pub record TellsOf (event : SessionEvent) (h : History) (old new : Engine) : Type 0 where
  pub stands : StandsFor new.manager (taken event h)
  pub acts : new.acts ≡ old.acts ++ acts_for_all (acts_since h (taken event h))
  pub live : FollowsLive (acts_since h (taken event h)) old.live new.live

pub record Tells (event : SessionEvent) (old new : Engine) : Type 0 where
  pub cookie : new.cookie ≡ old.cookie
  pub follows : (h : History) → StandsFor old.manager h → TellsOf event h old new

-- Behind acts that it had it gives those of a step, and shows the machine after it.
pub record GivesBehind (before : List Act) (pending : ℕ → List ℕ) (step : Step) (engine : Engine) : Type 0 where
  pub acts : engine.acts ≡ before ++ acts_of step
  pub shows : Shows pending engine step.next

-- All but one connection is shown.
pub record ShowsOthers (pending : ℕ → List ℕ) (c : ℕ) (engine : Engine) (m : Machine) : Type 0 where
  pub cookie : m.cookie ≡ engine.cookie
  pub others : (q : ℕ) → q ≢ c → Matches (pending q) (kept_at engine.live q) (connection_of q m.connections)
  pub distinct : AreDistinct m.connections
  pub stands : StandsFor engine.manager m.session

-- The connections agree with the session, which is still to be told where XSMP has begun.
abbrev pub AgreesFor : ℕ → Answer → List Connection → History → Type 0
AgreesFor c (Begins message) ks h = Agrees ks (Outside (Ready c) ▷ h)
AgreesFor c answer ks h = Agrees ks h

-- A part of the stream of a connection was noted, and is to be answered.
pub record IsAnswering (pending : ℕ → List ℕ) (c : ℕ) (answer : Answer) (engine : Engine) (m : Machine) : Type 0 where
  pub others : ShowsOthers pending c engine m
  pub here : KeepsWhole answer → Matches (pending c) (kept_at engine.live c) (connection_of c m.connections)
  pub agrees : AgreesFor c answer m.connections m.session

-- what an answer tells the session, it takes
abbrev pub TakesAnswer : ℕ → Answer → Session → Type 0
TakesAnswer c (Stays message) s = Unit {0}
TakesAnswer c (Begins message) s = TakesEvent (Ready c) (reading_in s)
TakesAnswer c (Closes message) s = TakesEvent (Left c) (reading_in s)
TakesAnswer c (Speaks message sequence frame) s = TakesEvent (Said c message sequence frame) (reading_in s)
TakesAnswer c Asks s = TakesEvent (Left c) (reading_in s)

abbrev pub Answers : ℕ → Answer → Engine → Engine → Type 0
Answers c answer old new = (pending : ℕ → List ℕ) (m : Machine) → IsAnswering pending c answer old m → GivesBehind old.acts pending (answered m c answer) new

-- these acts are done, the last of which closes the connection
abbrev pub Departs : ℕ → List Act → Engine → Engine → Type 0
Departs c acts old new = (pending : ℕ → List ℕ) (m : Machine) → ShowsOthers pending c old m → Agrees m.connections m.session → GivesBehind old.acts pending (departs m c acts) new
