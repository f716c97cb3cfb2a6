-- What a relay does about each event, said over the whole streams of the connections. Connections 2k - 1 and 2k are a pair, which is open as
-- long as both are live.
use Rattle.std.specs.Prelude.{ℕ, ◌+◌, ◌-◌, ◌%◌, min, max, Bool, true, false, not, ◌||◌, ◌==◌, nat_le, List, [], ◌∷◌, ◌++◌, length, map, Option, Some, None, is_some, if◌then◌else◌}
use Rattle.std.specs.List.{filter}
use Rattle.sm_world.specs.declared.effects.Effect.{Effect}
use Rattle.sm_world.specs.declared.effects.Effect.TheVariants.{Heard, Sent, Shut}
use Rattle.sm_world.specs.declared.events.Event.{Event}
use Rattle.sm_world.specs.declared.events.Event.TheVariants.{Joined, Piece, Gone, Operator, Tick, End}
use Rattle.ice_values.specs.declared.numbers.Endian.{Endian}
use Rattle.ice_framing.specs.Parts.{Part, Whole, TooMuch, parts_of, new_parts}
use Rattle.ice_messages.specs.Messages.{canon}
use Rattle.ice_messages.specs.declared.message.IceMessage.TheVariants.{ByteOrder}
use Rattle.byte_relay.specs.Orders.{is_byte_order}
use Rattle.byte_relay.specs.Respelling.{respelled}

-- a live connection: its number, and all the bytes that came on it
pub record Line : Type 0 where
  pub number : ℕ
  pub stream : List ℕ

-- what is done, in its order, and the live connections afterwards, in the order in which they joined
pub record Step : Type 0 where
  pub line : List Effect
  pub next : List Line

-- the other number of a pair
abbrev pub partner : ℕ → ℕ
partner c = if c % 2 == 1 then c + 1 else c - 1

-- the bytes that came on a connection, and None where it isn't live
abbrev pub stream_of : ℕ → List Line → Option (List ℕ)
stream_of c [] = None
stream_of c (l ∷ ls) = if l.number == c then Some l.stream else stream_of c ls

abbrev pub is_live : ℕ → List Line → Bool
is_live c ls = is_some (stream_of c ls)

-- neither of a pair is live
abbrev pub parted : ℕ → List Line → List Line
parted c ls = filter (λ l. not (l.number == c || l.number == partner c)) ls

-- more bytes came on a connection
abbrev pub fed_on : ℕ → List ℕ → List Line → List Line
fed_on c bytes [] = []
fed_on c bytes (l ∷ ls) = if l.number == c then record l { stream = l.stream ++ bytes } ∷ ls else l ∷ fed_on c bytes ls

-- nothing is done
abbrev pub stays : List Line → Step
stays ls = record { line = []; next = ls }

-- ---- a new connection

-- what tells the order in which all numbers are written
abbrev pub greeting : Endian → List ℕ
greeting to = canon to (ByteOrder to)

-- both of a pair are told, the one with the lower number first
abbrev pub greetings : Endian → ℕ → List Effect
greetings to c = Sent (min c (partner c)) (greeting to) ∷ Sent (max c (partner c)) (greeting to) ∷ []

-- no connection has the number 0, and no more than 64 are live
abbrev pub is_refused : ℕ → List Line → Bool
is_refused c ls = c == 0 || nat_le 64 (length ls)

abbrev pub joining : Endian → ℕ → List Line → Step
joining to c ls = record { line = if is_live (partner c) ls then greetings to c else []; next = ls ++ record { number = c; stream = [] } ∷ [] }

abbrev pub joined : Endian → ℕ → List Line → Step
joined to c ls = if is_live c ls then stays ls else if is_refused c ls then record { line = Shut c ∷ []; next = ls } else joining to c ls

-- ---- a piece

-- what a part of a stream is to the other side
pub data Brings : Type 0 where
  -- the first frame, which tells the sender's order
  Begins : Brings
  -- a message, which is passed on so
  Passes : List ℕ → Brings
  -- nothing that may stand there
  Breaks : Brings

abbrev pub passes : Option (List ℕ) → Brings
passes (Some bytes) = Passes bytes
passes None = Breaks

-- The first frame of a stream is a ByteOrder, and each later one a message that isn't.
abbrev pub brings : Endian → Bool → Part → Brings
brings to true (Whole frame) = if is_byte_order frame.endian frame.bytes then Begins else Breaks
brings to false (Whole frame) = if is_byte_order frame.endian frame.bytes then Breaks else passes (respelled frame.endian to frame.bytes)
brings to first (TooMuch header) = Breaks

-- what is passed on of some parts, and whether one of them breaks the pair; what stands behind that one is dropped
pub record Passed : Type 0 where
  pub messages : List (List ℕ)
  pub broken : Bool

abbrev pub passed_by : Brings → Passed → Passed
passed_by Begins later = later
passed_by (Passes bytes) later = record later { messages = bytes ∷ later.messages }
passed_by Breaks later = record { messages = []; broken = true }

abbrev pub passed : Endian → Bool → List Part → Passed
passed to first [] = record { messages = []; broken = false }
passed to first (part ∷ parts) = passed_by (brings to first part) (passed to false parts)

abbrev pub are_none : List Part → Bool
are_none [] = true
are_none (part ∷ parts) = false

-- no part of the stream is whole
abbrev pub is_fresh : List ℕ → Bool
is_fresh stream = are_none (parts_of stream)

-- a pair is broken: the sender is shut, and then the other
abbrev pub shuts : ℕ → List Effect
shuts c = Shut c ∷ Shut (partner c) ∷ []

abbrev pub passing : Endian → ℕ → List ℕ → Passed → List Line → Step
passing to c bytes p ls =
    record { line = map (Sent (partner c)) p.messages ++ (if p.broken then shuts c else []); next = if p.broken then parted c ls else fed_on c bytes ls }

-- A piece of a connection whose pair isn't open shuts it.
abbrev pub piece_for : Endian → ℕ → List ℕ → Option (List ℕ) → List Line → Step
piece_for to c bytes None ls = stays ls
piece_for to c bytes (Some stream) ls =
    if is_live (partner c) ls then passing to c bytes (passed to (is_fresh stream) (new_parts stream bytes)) ls else record { line = Shut c ∷ []; next = parted c ls }

-- ---- the end of a connection

abbrev pub gone : ℕ → List Line → Step
gone c ls = if is_live c ls then record { line = if is_live (partner c) ls then Shut (partner c) ∷ [] else []; next = parted c ls } else stays ls

-- ---- events

abbrev pub step : Endian → List Line → Event → Step
step to ls (Joined c) = joined to c ls
step to ls (Piece c bytes) = piece_for to c bytes (stream_of c ls) ls
step to ls (Gone c) = gone c ls
step to ls (Operator order) = stays ls
step to ls (Tick milliseconds) = stays ls
step to ls End = stays ls

abbrev pub is_end : Event → Bool
is_end (Joined c) = false
is_end (Piece c bytes) = false
is_end (Gone c) = false
is_end (Operator order) = false
is_end (Tick milliseconds) = false
is_end End = true

-- Each event, followed by what is done about it. Behind End nothing follows.
abbrev pub run_from : Endian → List Line → List Event → List Effect
run_from to ls [] = []
run_from to ls (event ∷ events) = Heard event ∷ ((step to ls event).line ++ (if is_end event then [] else run_from to (step to ls event).next events))

-- the run of a relay to which nothing has come yet
abbrev pub run : Endian → List Event → List Effect
run to events = run_from to [] events

abbrev pub has_end : List Event → Bool
has_end [] = false
has_end (event ∷ events) = is_end event || has_end events
