-- The set-up of a connection, at the manager's machine and at the client: each does about a frame of it what its table says of the message.
use Rattle.std.specs.Prelude.{Bool, List, None, Option, Some, false, map, true, ℕ, ◌++◌, ◌≡◌}
use Rattle.ice_values.specs.declared.numbers.Endian.TheVariants.{Lsb}
use Rattle.ice_messages.specs.Messages.{IsMessage}
use Rattle.ice_messages.specs.declared.message.IceMessage.{IceMessage}
use Rattle.ice_messages.specs.declared.message.IceMessage.TheVariants.{ByteOrder}
use Rattle.ice_setup.specs.Opener.{opened}
use Rattle.ice_setup.specs.Setup.{moved}
use Rattle.ice_setup.specs.declared.opener.AnyOpener.{AnyOpener}
use Rattle.ice_setup.specs.declared.states.AnySetup.{AnySetup}
use Rattle.ice_setup.specs.declared.states.AnySetup.TheVariants.{AwaitOrder as AtOrder}
use Rattle.ice_setup.specs.declared.states.Moved.{Moved}
use Rattle.ice_setup.specs.declared.states.Moved.TheVariants.{Ask, Close, Ends, Goes}
use Rattle.protocol_messages.specs.Messages.{spelled_under}
use Rattle.protocol_messages.specs.declared.message.Message.{Message}
use Rattle.protocol_messages.specs.declared.message.Message.TheVariants.{Ice, Xsmp}
use Rattle.session_model.specs.Moves.{History}
use Rattle.session_model.specs.Rules.{taken}
use Rattle.session_model.specs.declared.events.SessionEvent.TheVariants.{Left, Ready}
use Rattle.session_engine.specs.Answers.{speaks_xsmp}
use Rattle.session_engine.specs.Machine.{Connection, Machine, Step as Done, connection_of, counted, part_taken}
use Rattle.session_engine.specs.Answers as numbers
use Rattle.client_engine.specs.Hearing.{arrived, fatal_class, frame_heard, opening_moved, sequence_after}
use Rattle.client_engine.specs.declared.place.Counts.{Counts}
use Rattle.client_engine.specs.declared.place.Place.TheVariants.{Opening}
use Rattle.message_streams.specs.Streams.{HasBytes, frame_of, part_of}
use Rattle.setup_agreement.specs.SetUps.{said_by as answer_list}
use Rattle.end_schedules.specs.UnderWay.{sent_to}
use Rattle.end_bytes.specs.Following.{HasSpoken, StandsAt}
use Rattle.end_bytes.specs.Saying.{said_by}

-- The manager, of whose connection c this was known, with this history

-- The set-up goes on: the table's answer is said and nothing else, and the session hears nothing.
pub record GoesOn (c : ℕ) (k : Connection) (h : History) (state : AnySetup) (answer : Option IceMessage) (done : Done) : Type 0 where
  pub session : done.next.session ≡ h
  pub said : said_by c done ≡ map Ice (answer_list answer)
  pub stands : connection_of c done.next.connections ≡ Some (counted state k)

-- XSMP begins: the answer is said, and behind it what the session sends on the connection as it is told.
pub record Begins (c : ℕ) (k : Connection) (h : History) (state : AnySetup) (answer : Option IceMessage) (done : Done) : Type 0 where
  pub session : done.next.session ≡ taken (Ready c) h
  pub said : said_by c done ≡ map Ice (answer_list answer) ++ map Xsmp (sent_to c done.next.session)
  pub stands : HasSpoken state → StandsAt k.stream (connection_of c done.next.connections)

-- The connection is closed: the answer, if any, is said first, and the session is told that it left.
pub record Closes (c : ℕ) (h : History) (answer : Option IceMessage) (done : Done) : Type 0 where
  pub more : List Message
  pub session : done.next.session ≡ taken (Left c) h
  pub said : said_by c done ≡ map Ice (answer_list answer) ++ more
  pub sent : map Xsmp (sent_to c done.next.session) ≡ map Xsmp (sent_to c h) ++ more
  pub gone : connection_of c done.next.connections ≡ None

abbrev pub GoesTo : Bool → ℕ → Connection → History → AnySetup → Option IceMessage → Done → Type 0
GoesTo false c k h state answer done = GoesOn c k h state answer done
GoesTo true c k h state answer done = Begins c k h state answer done

-- by what the table says; where XSMP isn't spoken it never leaves anything to the session
abbrev pub HeardAs : ℕ → Connection → History → Done → Moved → Type 0
HeardAs c k h done (Goes state answer) = GoesTo (speaks_xsmp state) c k h state answer done
HeardAs c k h done (Ends answer) = Closes c h answer done
HeardAs c k h done Close = Closes c h None done
HeardAs c k h done (Ask state) = Unit {0}

-- a client of ours says the order of its numbers first
abbrev pub IsInTurn : AnySetup → IceMessage → Type 0
IsInTurn (AtOrder s) message = message ≡ ByteOrder Lsb
IsInTurn setup message = Unit {0}

abbrev pub ManagersSetUp : Type 0
ManagersSetUp =
    (c : ℕ) (m : Machine) (k : Connection) (opcode : ℕ) (message : IceMessage) → connection_of c m.connections ≡ Some k → speaks_xsmp k.setup ≡ false → IsInTurn k.setup message → IsMessage message
    → HeardAs c k m.session (part_taken m c (part_of opcode (Ice message))) (moved k.setup message (numbers.sequence_after k.taken))

-- The client: it says the table's answer, and once it has joined it registers. An Error that is fatal ends it without an answer.
abbrev pub ClientsOpen : Type 0
ClientsOpen =
    (counts : Counts) (opener : AnyOpener) (previous : List ℕ) (opcode : ℕ) (message : IceMessage) → IsMessage message → HasBytes opcode (Ice message) → fatal_class message ≡ None
    → frame_heard counts (frame_of opcode (Ice message)) (Opening opener previous) ≡ opening_moved (arrived counts (spelled_under opcode (Ice message))) previous (opened opener message (sequence_after counts.sequence))
