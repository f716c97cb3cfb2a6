-- The set-up of a connection between a manager and a client that exchange bytes, from the first byte on.
use Rattle.std.specs.Prelude.{Bool, List, None, Some, [], drop, false, map, true, ℕ, ◌++◌, ◌==◌, ◌∷◌, ◌≡◌, ◌≤◌, ◌⊎◌}
use Rattle.std.specs.List.{AllByRecursion, list_any}
use Rattle.checkpoint_records.specs.declared.records.Book.{Book}
use Rattle.sm_world.specs.declared.events.Event.{Event}
use Rattle.ice_cookie.specs.declared.cookies.Cookie.{Cookie}
use Rattle.ice_framing.specs.Frames.{standing_of, unit_limit, units}
use Rattle.ice_messages.specs.declared.message.IceMessage.TheVariants.{Error as IceError, ProtocolReply}
use Rattle.ice_setup.specs.Opener.{client_opcode}
use Rattle.ice_setup.specs.Setup.{manager_opcode}
use Rattle.ice_setup.specs.declared.opener.AnyOpener.{AnyOpener}
use Rattle.client_engine.specs.declared.place.Place.TheVariants.{Opening}
use Rattle.protocol_messages.specs.declared.message.Message.{Message}
use Rattle.protocol_messages.specs.declared.message.Message.TheVariants.{Ice, Xsmp}
use Rattle.session_engine.specs.Answers.{speaks_xsmp}
use Rattle.session_engine.specs.Machine.{Connection, Machine, after_all, connection_of, start}
use Rattle.session_engine.specs.Shown.{Agrees as HaveSame}
use Rattle.session_engine.specs.declared.config.Config.{Config}
use Rattle.message_streams.specs.Streams.{HoldsBytes}
use Rattle.ice_values.specs.Classes.{class_number}
use Rattle.ice_values.specs.declared.class.ErrorClass.TheVariants.{BadState}
use Rattle.setup_agreement.specs.Laws.{manager_says}
use Rattle.setup_agreement.specs.SetUps.{SetUp, Way, after as after_ways, begun}
use Rattle.end_schedules.specs.Laws.{is_bad_state}
use Rattle.end_schedules.specs.UnderWay.{sent_to, side_of}
use Rattle.end_bytes.specs.BytePairs.{AllMay, BytePair, ByteStep, IsOfRun, May, after, connected, step}
use Rattle.end_bytes.specs.Talking.{AgreesAt, AreSayable, EntersOrTalks, IsQuiet, IsSayable, SpeaksOn}

-- a set-up of a client with the right cookie comes there, in some order of taking
pub record IsLedTo (cookie : Cookie) (p : SetUp) : Type 0 where
  pub ways : List Way
  pub is : p ≡ after_ways ways (begun cookie cookie)

-- The manager's connection and the client are the two ends of such a set-up, whose messages are held or under way each way. XSMP hasn't
-- begun.
pub record SetsUp (c : ℕ) (previous : List ℕ) (b : BytePair) : Type 0 where
  pub same : HaveSame b.machine.connections b.machine.session
  pub of_run : IsOfRun b.machine.session
  pub cookie : Cookie
  pub ends : SetUp
  pub led : IsLedTo cookie ends
  pub connection : Connection
  pub there : connection_of c b.machine.connections ≡ Some connection
  pub setup : ends.manager ≡ Some connection.setup
  pub silent : speaks_xsmp connection.setup ≡ false
  pub within : units (standing_of connection.stream) ≤ unit_limit
  pub opener : AnyOpener
  pub opens : ends.client ≡ Some opener
  pub place : b.client.keeper.talk.place ≡ Opening opener previous
  pub alive : b.client.keeper.dying ≡ false
  pub said : b.said_down ≡ map Ice ends.said_down
  pub up : HoldsBytes client_opcode (standing_of connection.stream) b.up (map Ice (drop ends.heard ends.said_up))
  pub heard : AllByRecursion (IsSayable client_opcode) (map Ice (drop ends.heard ends.said_up))
  pub down : HoldsBytes manager_opcode b.client.standing b.down (map Ice (drop ends.took ends.said_down))
  pub sayable : AllByRecursion (IsSayable manager_opcode) (map Ice (drop ends.took ends.said_down))

-- the manager has said ProtocolReply, by which XSMP begins
abbrev pub is_reply : Message → Bool
is_reply (Ice (ProtocolReply version opcode vendor release)) = true
is_reply m = false

abbrev pub HasOpened : BytePair → Type 0
HasOpened b = list_any is_reply b.said_down ≡ true

-- all that it has said then: its five messages of ICE, and what the session has sent since
abbrev pub HasSaid : ℕ → BytePair → Type 0
HasSaid c b = b.said_down ≡ map Ice manager_says ++ map Xsmp (sent_to c b.machine.session)

-- an Error with BadState, of either protocol
abbrev pub says_bad_state : Message → Bool
says_bad_state (Ice (IceError error)) = error.class == class_number BadState
says_bad_state (Ice message) = false
says_bad_state (Xsmp message) = is_bad_state message

abbrev pub IsClean : BytePair → Type 0
IsClean b = list_any says_bad_state b.said_down ≡ false

-- the connection is gone at the manager, which has never answered by BadState
pub record IsLeft (c : ℕ) (b : BytePair) : Type 0 where
  pub same : HaveSame b.machine.connections b.machine.session
  pub of_run : IsOfRun b.machine.session
  pub gone : connection_of c b.machine.connections ≡ None
  pub clean : IsClean b

-- it is set up still, or XSMP has begun, or it is gone
abbrev pub IsOnItsWay : ℕ → List ℕ → BytePair → Type 0
IsOnItsWay c previous b = SetsUp c previous b ⊎ ((HasSaid c b × EntersOrTalks c previous b) ⊎ IsLeft c b)

-- it stays so through each step, where XSMP is spoken behind it once ProtocolReply was said
abbrev pub StandsOnceOpened : ℕ → BytePair → Type 0
StandsOnceOpened c b = HasOpened b → SpeaksOn c b

pub record SetUpsGoOn : Type 0 where
  pub goes : (c : ℕ) (previous : List ℕ) (b : BytePair) (s : ByteStep) → IsOnItsWay c previous b → May c s b → StandsOnceOpened c (step c s b) → AreSayable (step c s b) → IsOnItsWay c previous (step c s b)
  -- a connection that is gone stays so, whatever else is done
  pub stays : (c : ℕ) (b : BytePair) (s : ByteStep) → IsLeft c b → May c s b → IsLeft c (step c s b)

-- as a client connects, or the manager shuts the connection at once
abbrev pub SetUpsBegin : Type 0
SetUpsBegin = (c : ℕ) (previous : List ℕ) (m : Machine) → IsOfRun m.session → HaveSame m.connections m.session → connection_of c m.connections ≡ None → SetsUp c previous (connected c previous m) ⊎ IsLeft c (connected c previous m)

-- so it is behind each step of a list of them
abbrev pub AllStand : ℕ → List ByteStep → BytePair → Type 0
AllStand c [] b = Unit {0}
AllStand c (s ∷ steps) b = StandsOnceOpened c (step c s b) × AreSayable (step c s b) × AllStand c steps (step c s b)

-- What both keep from the first byte on: the manager has never told the client that a message had no place, and wherever the connection
-- stands and nothing is under way both agree. So no set-up stands still.
pub record KeepsFromTheFirst (c : ℕ) (b : BytePair) : Type 0 where
  pub clean : IsClean b
  pub agree : (k : Connection) → connection_of c b.machine.connections ≡ Some k → IsQuiet b k → AgreesAt (side_of c b.machine.session) b.client.keeper.talk.place

-- at whatever point of a run the client connects
abbrev pub BothEndsKeepFromTheFirstByte : Type 0
BothEndsKeepFromTheFirstByte =
    (config : Config) (book : Book) (events : List Event) (c : ℕ) (previous : List ℕ) (steps : List ByteStep) → connection_of c (after_all (start config book) events).connections ≡ None
    → AllMay c steps (connected c previous (after_all (start config book) events)) → AllStand c steps (connected c previous (after_all (start config book) events))
    → KeepsFromTheFirst c (after c steps (connected c previous (after_all (start config book) events)))
