-- A manager's machine and one of its clients, with a queue of bytes each way, among whatever else comes to the manager.
use Rattle.std.specs.Prelude.{List, None, [], drop, false, is_some, length, take, true, ℕ, ◌++◌, ◌<◌, ◌∷◌, ◌≡◌, ◌≤◌}
use Rattle.sm_world.specs.declared.events.Event.{Event}
use Rattle.sm_world.specs.declared.events.Event.TheVariants.{Gone, Joined, Piece}
use Rattle.ice_values.specs.declared.numbers.Endian.TheVariants.{Lsb}
use Rattle.checkpoint_records.specs.declared.records.Book.{Book}
use Rattle.ice_framing.specs.Frames.{beginning}
use Rattle.ice_messages.specs.declared.message.IceMessage.TheVariants.{ByteOrder}
use Rattle.ice_setup.specs.Opener.{client_opcode}
use Rattle.ice_setup.specs.Setup.{manager_opcode}
use Rattle.protocol_messages.specs.declared.message.Message.{Message}
use Rattle.protocol_messages.specs.declared.message.Message.TheVariants.{Ice}
use Rattle.session_model.specs.Moves.{History, Opening}
use Rattle.session_model.specs.Rules.{opened, run}
use Rattle.session_model.specs.declared.events.SessionEvent.{SessionEvent}
use Rattle.session_engine.specs.Machine.{Machine, Step as Done, after_all, connection_of, start, step as event_step}
use Rattle.session_engine.specs.declared.config.Config.{Config}
use Rattle.client_engine.specs.Cutting.{opening}
use Rattle.client_engine.specs.Driving.{Run, Step as Did, piece_taken, standing_at}
use Rattle.message_streams.specs.Streams.{bytes_of}
use Rattle.stream_clients.specs.Clients.{Client, Wish, may_wish, reacts, talk_of, wished}
use Rattle.end_bytes.specs.Elsewhere.{is_from}
use Rattle.end_bytes.specs.Saying.{said_by}

-- The manager and the client with its stream, the bytes under way each way, and all that each has said on the connection, the oldest
-- first.
pub record BytePair : Type 0 where
  pub machine : Machine
  pub client : Run Client
  pub up : List ℕ
  pub down : List ℕ
  pub said_up : List Message
  pub said_down : List Message

pub data ByteStep : Type 0 where
  -- so many of the bytes under way come to the manager, in one piece
  Comes : ℕ → ByteStep
  -- so many come to the client, and behind each part that they complete it wishes this
  Takes : ℕ → List (List Wish) → ByteStep
  -- the client says something by itself
  Wishes : Wish → ByteStep
  -- something comes to the manager from elsewhere
  Happens : Event → ByteStep
  -- the connection breaks, and the manager hears of that; the client may still take what is under way to it
  Breaks : ByteStep

-- what an end says is under way from then on

abbrev pub manager_did : ℕ → Done → BytePair → BytePair
manager_did c done b = record b { machine = done.next; down = b.down ++ bytes_of manager_opcode (said_by c done); said_down = b.said_down ++ said_by c done }

abbrev pub client_did : Did (Run Client) Message → BytePair → BytePair
client_did did b = record b { client = did.next; up = b.up ++ bytes_of client_opcode did.line; said_up = b.said_up ++ did.line }

abbrev pub step : ℕ → ByteStep → BytePair → BytePair
step c (Comes count) b = manager_did c (event_step b.machine (Piece c (take count b.up))) (record b { up = drop count b.up })
step c (Takes count wishes) b = client_did (piece_taken [] talk_of reacts b.client (take count b.down) wishes) (record b { down = drop count b.down })
step c (Wishes wish) b = client_did (standing_at b.client.standing (wished wish b.client.keeper)) b
step c (Happens event) b = manager_did c (event_step b.machine event) b
step c Breaks b = manager_did c (event_step b.machine (Gone c)) b

-- no more comes than is under way, and a client wishes only what it may
abbrev pub May : ℕ → ByteStep → BytePair → Type 0
May c (Comes count) b = (0 < count) × (count ≤ length b.up)
May c (Takes count wishes) b = (0 < count) × (count ≤ length b.down)
May c (Wishes wish) b = may_wish wish b.client.keeper ≡ true
May c (Happens event) b = is_from c event ≡ false
May c Breaks b = is_some (connection_of c b.machine.connections) ≡ true

abbrev pub after : ℕ → List ByteStep → BytePair → BytePair
after c [] b = b
after c (s ∷ steps) b = after c steps (step c s b)

abbrev pub AllMay : ℕ → List ByteStep → BytePair → Type 0
AllMay c [] b = Unit {0}
AllMay c (s ∷ steps) b = May c s b × AllMay c steps (step c s b)

-- a client that knows the manager's cookie has connected, and has said the order of its numbers; it will register with this ID, or with none
abbrev pub connecting : List ℕ → Machine → BytePair
connecting previous m = record {
  machine = m;
  client = record { standing = beginning; keeper = record { talk = opening m.cookie previous; dying = false } };
  up = bytes_of client_opcode (Ice (ByteOrder Lsb) ∷ []);
  down = [];
  said_up = Ice (ByteOrder Lsb) ∷ [];
  said_down = [];
}

abbrev pub connected : ℕ → List ℕ → Machine → BytePair
connected c previous m = manager_did c (event_step m (Joined c)) (connecting previous m)

-- this holds after every schedule of such steps, at whatever point of a run the client connects
abbrev pub InEveryBytePair : (ℕ → BytePair → Type 0) → Type 0
InEveryBytePair Holds =
    (config : Config) (book : Book) (events : List Event) (c : ℕ) (previous : List ℕ) (steps : List ByteStep) → connection_of c (after_all (start config book) events).connections ≡ None
    → AllMay c steps (connected c previous (after_all (start config book) events)) → Holds c (after c steps (connected c previous (after_all (start config book) events)))

-- it is the history of a run between two events, of which all holds that holds of every run
pub record IsOfRun (h : History) : Type 0 where
  pub began : Opening
  pub events : List SessionEvent
  pub is : h ≡ run (opened began) events

-- so is the manager's, whatever its client does
abbrev pub PairsKeepToRuns : Type 0
PairsKeepToRuns = InEveryBytePair (λ c b. IsOfRun b.machine.session)
