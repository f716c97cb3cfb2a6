-- What one side of a pair gets of what comes from the other.
use Rattle.std.specs.Prelude.{◌≡◌, ◌⊎◌, ◌<◌, ◌==◌, ℕ, Bool, true, false, List, [], ◌∷◌, ◌++◌, map, drop, Some, if◌then◌else◌}
use Rattle.std.specs.List.{AllByRecursion, flat_map}
use Rattle.sm_world.specs.declared.effects.Effect.{Effect}
use Rattle.sm_world.specs.declared.effects.Effect.TheVariants.{Heard, Sent, Shut, Started, Wrote, Torn, Synced, SyncFailed, Published, Printed}
use Rattle.sm_world.specs.declared.events.Event.{Event}
use Rattle.sm_world.specs.declared.events.Event.TheVariants.{Joined, Piece, Gone, Operator, Tick, End}
use Rattle.heard_events.specs.Brought.{IsPrefix}
use Rattle.ice_framing.specs.Frames.{frames_of}
use Rattle.ice_framing.specs.declared.cutting.WholeFrame.{WholeFrame}
use Rattle.ice_values.specs.declared.numbers.Endian.{Endian}
use Rattle.byte_relay.specs.Relaying.{Line, greeting, has_end, is_live, partner, run, run_from, stream_of}
use Rattle.byte_relay.specs.Respelling.{respelled}

-- what an effect sends on a connection
abbrev pub got_of : ℕ → Effect → List (List ℕ)
got_of c (Heard event) = []
got_of c (Sent conn bytes) = if conn == c then bytes ∷ [] else []
got_of c (Shut conn) = []
got_of c (Started command succeeded) = []
got_of c (Wrote at bytes) = []
got_of c (Torn at length) = []
got_of c Synced = []
got_of c SyncFailed = []
got_of c (Published path bytes) = []
got_of c (Printed text) = []

-- all that is sent on it, one message after the other
abbrev pub gets : ℕ → List Effect → List (List ℕ)
gets c effects = flat_map (got_of c) effects

abbrev pub came_of : ℕ → Event → List ℕ
came_of c (Joined conn) = []
came_of c (Piece conn bytes) = if conn == c then bytes else []
came_of c (Gone conn) = []
came_of c (Operator order) = []
came_of c (Tick milliseconds) = []
came_of c End = []

-- all bytes that come on it
abbrev pub came : ℕ → List Event → List ℕ
came c events = flat_map (came_of c) events

abbrev pub is_join : ℕ → Event → Bool
is_join c (Joined conn) = conn == c
is_join c (Piece conn bytes) = false
is_join c (Gone conn) = false
is_join c (Operator order) = false
is_join c (Tick milliseconds) = false
is_join c End = false

-- Its number doesn't come again.
abbrev pub NeverJoins : ℕ → List Event → Type 0
NeverJoins c events = AllByRecursion (λ event. is_join c event ≡ false) events

-- the messages of a stream behind the first, each in the other order, where it can be spelled
abbrev pub IsForOther : Endian → List ℕ → List (List ℕ) → Type 0
IsForOther to stream messages = IsPrefix (map Some messages) (map (λ (frame : WholeFrame). respelled frame.endian to frame.bytes) (drop 1 (frames_of stream)))

-- A pair is open from here on, and nothing came yet on the one of its connections: whatever comes on all of them from here on, what the
-- other gets is a front of the messages that come on the one, behind the first, in their order, each once and spelled anew.
abbrev pub OneSideGetsTheOther : Type 0
OneSideGetsTheOther = (to : Endian) (c : ℕ) (ls : List Line) (events : List Event) → 0 < c → stream_of c ls ≡ Some [] → is_live (partner c) ls ≡ true → NeverJoins c events → NeverJoins (partner c) events → IsForOther to (came c events) (gets (partner c) (run_from to ls events))

-- ---- from the first event on

-- the two numbers of a pair, in either order
abbrev pub ArePair : ℕ → ℕ → ℕ → Type 0
ArePair c one two = ((one ≡ c) × (two ≡ partner c)) ⊎ ((one ≡ partner c) × (two ≡ c))

-- It gets nothing, as where there is no place for the pair; or the relay's own order, and then a front of what the stream has for it.
abbrev pub GetsItsPart : Endian → List ℕ → List (List ℕ) → Type 0
GetsItsPart to stream got = (got ≡ []) ⊎ ((messages : List (List ℕ)) × (got ≡ greeting to ∷ messages) × IsForOther to stream messages)

-- A whole run in which both of a pair join, one behind the other, and never else: whatever comes on all connections before and behind, each
-- of the two gets its part of what comes on the other.
abbrev pub EachSideGetsItsPart : Type 0
EachSideGetsItsPart = (to : Endian) (c one two : ℕ) (front events : List Event) → 0 < c → ArePair c one two → has_end front ≡ false → NeverJoins c front → NeverJoins (partner c) front → NeverJoins c events → NeverJoins (partner c) events → GetsItsPart to (came c events) (gets (partner c) (run to (front ++ Joined one ∷ Joined two ∷ events)))
