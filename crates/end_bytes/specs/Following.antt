-- What the manager does about what is under way to it from one client is a schedule of `end_schedules`: it hears one message after the
-- other. Where XSMP has ended meanwhile the session hears nothing of the others.
use Rattle.std.specs.Prelude.{List, None, Option, Some, [], drop, false, is_some, map, take, true, ℕ, ◌++◌, ◌≡◌, ◌≤◌}
use Rattle.std.specs.List.{AllByRecursion}
use Rattle.sm_world.specs.declared.events.Event.TheVariants.{Piece}
use Rattle.ice_framing.specs.Frames.{standing_of, unit_limit, units}
use Rattle.ice_setup.specs.Opener.{client_opcode}
use Rattle.ice_setup.specs.declared.states.AnySetup.{AnySetup}
use Rattle.ice_setup.specs.declared.states.AnySetup.TheVariants.{AwaitProtocol as AtProtocol, Ready as AtReady}
use Rattle.xsmp_messages.specs.Messages.{IsMessage}
use Rattle.xsmp_messages.specs.declared.message.XsmpMessage.{XsmpMessage}
use Rattle.protocol_messages.specs.declared.message.Message.{Message}
use Rattle.protocol_messages.specs.declared.message.Message.TheVariants.{Xsmp}
use Rattle.session_model.specs.Moves.{History}
use Rattle.session_model.specs.Readings as of
use Rattle.session_engine.specs.Machine.{Connection, Machine, Step as Done, connection_of, parts_taken, step}
use Rattle.session_engine.specs.Shown.{Agrees}
use Rattle.message_streams.specs.Streams.{HoldsBytes, part_of}
use Rattle.end_schedules.specs.Pairs.{AllMay, Step, after}
use Rattle.end_schedules.specs.Schedules.{End, paired}
use Rattle.end_schedules.specs.UnderWay.{sent_to}
use Rattle.end_bytes.specs.Hearing.{IsNoError}
use Rattle.end_bytes.specs.Saying.{said_by}

-- XSMP is spoken under the client's opcode, or has ended
abbrev pub HasSpoken : AnySetup → Type 0
HasSpoken (AtReady s) = s.opcode ≡ client_opcode
HasSpoken (AtProtocol s) = Unit {0}
HasSpoken setup = ⊥

-- so it is on a connection on which this has come; or the connection is gone
abbrev pub StandsAt : List ℕ → Option Connection → Type 0
StandsAt stream None = Unit {0}
StandsAt stream (Some k) = (k.stream ≡ stream) × HasSpoken k.setup

-- a message that a client may say: it has a spelling, and is no Error
pub record IsHeard (m : XsmpMessage) : Type 0 where
  pub fits : IsMessage m
  pub no_error : IsNoError m

-- Of a machine with this history and the client's end of c: what was done is what steps of the manager make of both. As long as XSMP is
-- spoken there, just these messages wait then, and all that was said is what the session sent. Where it has ended, more may have been
-- said: the answers of ICE to frames that still came. And where it had ended before, the session heard nothing.
pub record HearsParts (c : ℕ) (stream : List ℕ) (h : History) (e : End) (rest : List XsmpMessage) (done : Done) : Type 0 where
  pub steps : List Step
  pub up : List XsmpMessage
  pub more : List Message
  pub may : AllMay c steps (paired h e)
  pub there : after c steps (paired h e) ≡ paired done.next.session (record e { up = up })
  pub waits : is_some (of.phase_of c done.next.session) ≡ true → up ≡ rest
  pub said : map Xsmp (sent_to c h) ++ said_by c done ≡ map Xsmp (sent_to c done.next.session) ++ more
  pub ended : is_some (of.phase_of c done.next.session) ≡ true → more ≡ []
  pub over : is_some (of.phase_of c h) ≡ false → done.next.session ≡ h
  pub agrees : Agrees done.next.connections done.next.session
  pub stands : StandsAt stream (connection_of c done.next.connections)

-- the frames of the first messages that wait for the manager, where its session and its connections agree
abbrev pub PartsAreHeard : Type 0
PartsAreHeard =
    (c : ℕ) (stream : List ℕ) (front rest : List XsmpMessage) (m : Machine) (e : End) → Agrees m.connections m.session → StandsAt stream (connection_of c m.connections)
    → (is_some (of.phase_of c m.session) ≡ true → e.up ≡ front ++ rest) → AllByRecursion IsHeard front
    → HearsParts c stream m.session e rest (parts_taken m c (map (λ x. part_of client_opcode (Xsmp x)) front))

-- So many bytes of what is under way, behind this stream, in one piece: the frames of the first messages come whole. The others are held
-- or under way still.
pub record HearsPiece (c : ℕ) (stream later : List ℕ) (h : History) (e : End) (messages : List XsmpMessage) (done : Done) : Type 0 where
  pub front : List XsmpMessage
  pub rest : List XsmpMessage
  pub all : messages ≡ front ++ rest
  pub hears : HearsParts c stream h e rest done
  pub holds : HoldsBytes client_opcode (standing_of stream) later (map Xsmp rest)
  pub within : units (standing_of stream) ≤ unit_limit

abbrev pub PiecesAreHeard : Type 0
PiecesAreHeard =
    (c : ℕ) (messages : List XsmpMessage) (m : Machine) (e : End) (k : Connection) (later : List ℕ) (count : ℕ) → Agrees m.connections m.session → connection_of c m.connections ≡ Some k → HasSpoken k.setup
    → units (standing_of k.stream) ≤ unit_limit → HoldsBytes client_opcode (standing_of k.stream) later (map Xsmp messages) → AllByRecursion IsHeard messages
    → (is_some (of.phase_of c m.session) ≡ true → e.up ≡ messages)
    → HearsPiece c (k.stream ++ take count later) (drop count later) m.session e messages (step m (Piece c (take count later)))
