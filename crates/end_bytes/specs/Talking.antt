-- Once XSMP is spoken on a connection, a manager and a client that exchange bytes stay with a schedule of `end_schedules`, as long as it is.
use Rattle.std.specs.Prelude.{List, Some, [], false, is_some, length, map, true, ℕ, ◌∷◌, ◌≡◌, ◌≤◌, ◌⊎◌}
use Rattle.std.specs.List.{AllByRecursion, list_any}
use Rattle.ice_framing.specs.Frames.{standing_of, unit_limit, units}
use Rattle.ice_messages.specs.Messages.{IsMessage as IsIceMessage}
use Rattle.ice_setup.specs.Opener.{client_opcode}
use Rattle.ice_setup.specs.Setup.{manager_opcode, protocol_reply}
use Rattle.ice_setup.specs.declared.opener.AnyOpener.TheVariants.{OpenProtocol as AtProtocol}
use Rattle.ice_setup.specs.declared.opener.OpenProtocol.{OpenProtocol}
use Rattle.ice_setup.specs.declared.opener.Joined.{Joined}
use Rattle.xsmp_messages.specs.Messages.{IsMessage}
use Rattle.xsmp_messages.specs.declared.message.XsmpMessage.TheVariants.{RegisterClient}
use Rattle.client_machine.specs.Saves.{first_ask}
use Rattle.client_machine.specs.declared.phase.ClientPhase.TheVariants.{Dead}
use Rattle.client_machine.specs.declared.saves.SaveAsk.{SaveAsk}
use Rattle.client_engine.specs.Hearing.{registering}
use Rattle.client_engine.specs.Places.{is_listening}
use Rattle.client_engine.specs.declared.place.Place.{Place}
use Rattle.client_engine.specs.declared.place.Place.TheVariants.{Opening, Speaking, Stopped}
use Rattle.protocol_messages.specs.declared.message.Message.{Message}
use Rattle.protocol_messages.specs.declared.message.Message.TheVariants.{Ice, Xsmp}
use Rattle.session_model.specs.Moves.{History, Opening as Began}
use Rattle.session_model.specs.Reading.{reading}
use Rattle.session_model.specs.Readings as of
use Rattle.session_model.specs.Rules as session
use Rattle.session_model.specs.declared.events.SessionEvent.{SessionEvent}
use Rattle.session_model.specs.declared.events.SessionEvent.TheVariants.{Ready}
use Rattle.session_engine.specs.Machine.{Connection, connection_of}
use Rattle.session_engine.specs.Shown.{Agrees as HaveSame}
use Rattle.message_streams.specs.Streams.{HasBytes, HoldsBytes}
use Rattle.end_agreement.specs.Sides.{Agrees, Side, mirror}
use Rattle.end_schedules.specs.Laws.{HearsNoBadState, is_bad_state}
use Rattle.end_schedules.specs.Pairs.{AllMay, Pair, Step, after, begun, down_of}
use Rattle.end_schedules.specs.Schedules.{End, end_of, paired}
use Rattle.end_schedules.specs.UnderWay.{sent_to, side_of}
use Rattle.stream_clients.specs.Following.{StandsAs}
use Rattle.end_bytes.specs.BytePairs.{AllMay as AllMayByBytes, BytePair, ByteStep, IsOfRun, May, after as after_bytes, step}
use Rattle.end_bytes.specs.Following.{HasSpoken}
use Rattle.end_bytes.specs.Hearing.{IsNoError}

-- a message has a spelling under its sender's opcode, and its bytes are a frame

abbrev pub HasSpelling : Message → Type 0
HasSpelling (Ice message) = IsIceMessage message
HasSpelling (Xsmp message) = IsMessage message

pub record IsSayable (opcode : ℕ) (message : Message) : Type 0 where
  pub fits : HasSpelling message
  pub bytes : HasBytes opcode message

pub record AreSayable (b : BytePair) : Type 0 where
  pub up : AllByRecursion (IsSayable client_opcode) b.said_up
  pub down : AllByRecursion (IsSayable manager_opcode) b.said_down

-- a schedule comes there, wherever in a run it begins
pub record IsReached (c : ℕ) (p : Pair) : Type 0 where
  pub began : Began
  pub events : List SessionEvent
  pub previous : List ℕ
  pub asked : SaveAsk
  pub steps : List Step
  pub takes : session.Takes (Ready c) (reading (session.run (session.opened began) events))
  pub may : AllMay c steps (begun c previous asked (session.run (session.opened began) events))
  pub is : p ≡ after c steps (begun c previous asked (session.run (session.opened began) events))

-- what waits for the client: so many of the messages that were sent to it are taken, and the others are held or under way
pub record WaitsBelow (c : ℕ) (b : BytePair) (e : End) : Type 0 where
  pub few : e.took ≤ length (sent_to c b.machine.session)
  pub holds : HoldsBytes manager_opcode b.client.standing b.down (map Xsmp (down_of c (paired b.machine.session e)))
  pub sayable : AllByRecursion (IsSayable manager_opcode) (map Xsmp (down_of c (paired b.machine.session e)))

-- Both ends are those of a pair that a schedule reaches. What waits for the manager is held or under way up, and what waits for the client
-- down, as long as that takes anything.
pub record Talks (c : ℕ) (joined : Joined) (b : BytePair) (e : End) : Type 0 where
  pub opcode : joined.opcode ≡ manager_opcode
  pub same : HaveSame b.machine.connections b.machine.session
  pub connection : Connection
  pub there : connection_of c b.machine.connections ≡ Some connection
  pub spoken : HasSpoken connection.setup
  pub within : units (standing_of connection.stream) ≤ unit_limit
  pub up : HoldsBytes client_opcode (standing_of connection.stream) b.up (map Xsmp e.up)
  pub heard : AllByRecursion (IsSayable client_opcode) (map Xsmp e.up)
  pub no_error : AllByRecursion IsNoError e.up
  pub stands : StandsAs joined b.client.keeper.talk.place e.state
  pub down : is_listening b.client.keeper.talk.place ≡ true → WaitsBelow c b e
  pub reached : IsReached c (paired b.machine.session e)

-- XSMP is spoken on the connection
abbrev pub SpeaksOn : ℕ → BytePair → Type 0
SpeaksOn c b = is_some (of.phase_of c b.machine.session) ≡ true

-- a step of bytes is a list of steps of the schedule
pub record TalksOn (c : ℕ) (joined : Joined) (h : History) (e : End) (b : BytePair) : Type 0 where
  pub next : End
  pub steps : List Step
  pub may : AllMay c steps (paired h e)
  pub is : after c steps (paired h e) ≡ paired b.machine.session next
  pub talks : Talks c joined b next

abbrev pub TalkingGoesOn : Type 0
TalkingGoesOn =
    (c : ℕ) (joined : Joined) (b : BytePair) (e : End) (s : ByteStep) → Talks c joined b e → May c s b → SpeaksOn c (step c s b) → AreSayable (step c s b) → TalksOn c joined b.machine.session e (step c s b)

-- so is every schedule of such steps, where XSMP is spoken behind each
abbrev pub AllSpeak : ℕ → List ByteStep → BytePair → Type 0
AllSpeak c [] b = Unit {0}
AllSpeak c (s ∷ steps) b = SpeaksOn c (step c s b) × AreSayable (step c s b) × AllSpeak c steps (step c s b)

abbrev pub TalkingStays : Type 0
TalkingStays =
    (c : ℕ) (joined : Joined) (b : BytePair) (e : End) (steps : List ByteStep) → Talks c joined b e → AllMayByBytes c steps b → AllSpeak c steps b → TalksOn c joined b.machine.session e (after_bytes c steps b)

-- the manager's side of a client that stands there
abbrev pub AgreesAt : Side → Place → Type 0
AgreesAt side (Opening opener previous) = ⊥
AgreesAt side (Speaking joined s) = Agrees side s
AgreesAt side Stopped = mirror side.phase ≡ Dead

-- nothing is under way, and no end holds part of a frame
pub record IsQuiet (b : BytePair) (k : Connection) : Type 0 where
  pub up : b.up ≡ []
  pub at_manager : (standing_of k.stream).held ≡ []
  pub down : b.down ≡ []
  pub at_client : b.client.standing.held ≡ []

-- both agree wherever both talk and nothing is under way
abbrev pub QuietEndsAgree : Type 0
QuietEndsAgree = (c : ℕ) (joined : Joined) (b : BytePair) (e : End) (t : Talks c joined b e) → IsQuiet b t.connection → AgreesAt (side_of c b.machine.session) b.client.keeper.talk.place

-- XSMP has begun on a connection whose history was this before, and the client has just joined and said RegisterClient. Of what the session
-- sent it since, nothing is taken.
pub record HasBegun (c : ℕ) (previous : List ℕ) (h : History) (b : BytePair) : Type 0 where
  pub of_run : IsOfRun h
  pub takes : session.Takes (Ready c) (reading h)
  pub told : b.machine.session ≡ session.taken (Ready c) h
  pub same : HaveSame b.machine.connections b.machine.session
  pub connection : Connection
  pub there : connection_of c b.machine.connections ≡ Some connection
  pub spoken : HasSpoken connection.setup
  pub within : units (standing_of connection.stream) ≤ unit_limit
  pub up : HoldsBytes client_opcode (standing_of connection.stream) b.up (Xsmp (RegisterClient previous) ∷ [])
  pub heard : IsSayable client_opcode (Xsmp (RegisterClient previous))
  pub place : b.client.keeper.talk.place ≡ Speaking (record { opcode = manager_opcode }) (registering previous)
  pub down : HoldsBytes manager_opcode b.client.standing b.down (map Xsmp (sent_to c b.machine.session))
  pub sayable : AllByRecursion (IsSayable manager_opcode) (map Xsmp (sent_to c b.machine.session))

-- so both talk from there on
abbrev pub TalkingBegins : Type 0
TalkingBegins = (c : ℕ) (previous : List ℕ) (h : History) (b : BytePair) → HasBegun c previous h b → Talks c (record { opcode = manager_opcode }) b (end_of (begun c previous first_ask h))

-- where both talk, the session has never answered the client by BadState
abbrev pub TalkingIsClean : Type 0
TalkingIsClean = (c : ℕ) (joined : Joined) (b : BytePair) (e : End) → Talks c joined b e → HearsNoBadState c (paired b.machine.session e)

-- XSMP has begun on the connection, and the client hasn't heard that yet: ProtocolReply is held or under way to it, and behind it what the
-- session has sent since. In messages it has registered already, and taken nothing.

abbrev pub entered : List ℕ → End
entered previous = record { state = registering previous; up = RegisterClient previous ∷ []; took = 0; saves = 0; answers = 0 }

pub record Enters (c : ℕ) (previous : List ℕ) (b : BytePair) : Type 0 where
  pub same : HaveSame b.machine.connections b.machine.session
  pub connection : Connection
  pub there : connection_of c b.machine.connections ≡ Some connection
  pub spoken : HasSpoken connection.setup
  pub within : units (standing_of connection.stream) ≤ unit_limit
  pub up : HoldsBytes client_opcode (standing_of connection.stream) b.up []
  pub opener : OpenProtocol
  pub place : b.client.keeper.talk.place ≡ Opening (AtProtocol opener) previous
  pub alive : b.client.keeper.dying ≡ false
  pub down : HoldsBytes manager_opcode b.client.standing b.down (Ice (protocol_reply 0) ∷ map Xsmp (sent_to c b.machine.session))
  pub sayable : AllByRecursion (IsSayable manager_opcode) (map Xsmp (sent_to c b.machine.session))
  pub reached : IsReached c (paired b.machine.session (entered previous))

-- it stays so until the client has joined, and then both talk
abbrev pub EntersOrTalks : ℕ → List ℕ → BytePair → Type 0
EntersOrTalks c previous b = Enters c previous b ⊎ ((e : End) × Talks c (record { opcode = manager_opcode }) b e)

abbrev pub EnteringGoesOn : Type 0
EnteringGoesOn = (c : ℕ) (previous : List ℕ) (b : BytePair) (s : ByteStep) → Enters c previous b → May c s b → SpeaksOn c (step c s b) → AreSayable (step c s b) → EntersOrTalks c previous (step c s b)

-- What both keep from there on, as long as XSMP is spoken: the session has never answered the client by BadState, and wherever nothing is
-- under way both agree.
pub record KeepsBytes (c : ℕ) (b : BytePair) : Type 0 where
  pub clean : list_any is_bad_state (sent_to c b.machine.session) ≡ false
  pub agree : (k : Connection) → connection_of c b.machine.connections ≡ Some k → IsQuiet b k → AgreesAt (side_of c b.machine.session) b.client.keeper.talk.place

abbrev pub BothEndsKeepTheirBytes : Type 0
BothEndsKeepTheirBytes = (c : ℕ) (previous : List ℕ) (b : BytePair) (steps : List ByteStep) → Enters c previous b → AllMayByBytes c steps b → AllSpeak c steps b → KeepsBytes c (after_bytes c steps b)
