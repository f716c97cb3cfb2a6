-- A whole run of a client behind a peer: the script of all that it heard, what was sent of it and when, and how its callbacks
-- were asked.
use Rattle.std.specs.Prelude.{◌≡◌, ◌≢◌, ◌⊎◌, ◌<◌, ◌≤◌, ℕ, List, [], ◌∷◌, ◌++◌, length, map, Option, None, Some, Ok, Err}
use Rattle.std.specs.List.{AllByRecursion, flat_map}
use Rattle.sm_world.specs.Effects.{heard}
use Rattle.sm_world.specs.Outside.{Outside, Rose}
use Rattle.sm_world.specs.declared.effects.Effect.{Effect}
use Rattle.sm_world.specs.declared.effects.Effect.TheVariants.{Heard, Sent, Shut, Started, Wrote, Torn, Synced, SyncFailed, Published, Printed}
use Rattle.sm_world.specs.declared.events.Event.{Event}
use Rattle.sm_world.specs.declared.events.Event.TheVariants.{Joined, Piece, Gone, Operator, Tick, End}
use Rattle.client_machine.specs.declared.saves.SaveAnswer.{SaveAnswer}
use Rattle.client_engine.specs.Driving.{Run, Step}
use Rattle.protocol_messages.specs.declared.message.Message.TheVariants.{Ice}
use Rattle.client_peer.specs.Peers.{received}
use Rattle.ice_cookie.specs.declared.cookies.Cookie.{Cookie}
use Rattle.ice_messages.specs.declared.message.IceMessage.TheVariants.{ByteOrder}
use Rattle.ice_values.specs.declared.numbers.Endian.TheVariants.{Lsb}
use Rattle.named_joiner.specs.Doing.{Follows, bytes_in}
use Rattle.named_joiner.specs.Script.{Callbacks, Entry, Keeper, Replies, Says, piece_heard, start}
use Rattle.named_joiner.specs.declared.callbacks.NamedAsk.{NamedAsk}
use Rattle.named_joiner.specs.declared.ends.Ending.{Ending as Spending}
use Rattle.named_joiner.specs.declared.ends.Ending.TheVariants.{Ended}
use Rattle.named_joiner.specs.declared.ends.NamedEnd.TheVariants.{Died, Refused as IsRefused, Malformed as IsMalformed}
use Rattle.smwrap_app.specs.Faults.{Ending}
use Rattle.smwrap_app.specs.declared.fault.Fault.TheVariants.{BadWords, Refused, StreamEnded, NoEntry, Link, Spent, NoMemory, Malformed, Disk}

-- ---- what a peer tells

abbrev pub bytes_of : Event → List ℕ
bytes_of (Piece conn bytes) = bytes
bytes_of (Joined conn) = []
bytes_of (Gone conn) = []
bytes_of (Operator order) = []
bytes_of (Tick milliseconds) = []
bytes_of End = []

-- the manager's stream as far as it came, however it was cut
abbrev pub stream : List Effect → List ℕ
stream effects = flat_map bytes_of (heard effects)

abbrev pub sent_of : Effect → List ℕ
sent_of (Heard event) = []
sent_of (Sent conn bytes) = bytes
sent_of (Shut conn) = []
sent_of (Started command succeeded) = []
sent_of (Wrote at bytes) = []
sent_of (Torn at length) = []
sent_of Synced = []
sent_of SyncFailed = []
sent_of (Published path bytes) = []
sent_of (Printed text) = []

-- all that was sent
abbrev pub sent : List Effect → List ℕ
sent effects = flat_map sent_of effects

-- ---- the script

-- what the client does about a stream, and what becomes of it, where its callbacks say this, part by part
abbrev pub all_heard : Cookie → List ℕ → List Replies → List ℕ → Step (Run Keeper) Entry
all_heard cookie previous replies bytes = piece_heard (start cookie previous) bytes replies

-- The whole script: ByteOrder at once, and then all that the stream brings.
abbrev pub wrap_script : Cookie → List ℕ → List Replies → List ℕ → List Entry
wrap_script cookie previous replies bytes = Says (Ice (ByteOrder Lsb)) ∷ (all_heard cookie previous replies bytes).line

-- the end to which the stream brings the client, if it does
abbrev pub wrap_end : Cookie → List ℕ → List Replies → List ℕ → Option Spending
wrap_end cookie previous replies bytes = (all_heard cookie previous replies bytes).next.keeper.ending

-- Before each receive all had been sent that the script says of what came before it.
abbrev pub IsPrompt : Cookie → List ℕ → List Replies → List Effect → Type 0
IsPrompt cookie previous replies effects = (before after : List Effect) (event : Event) → before ++ (Heard event ∷ after) ≡ effects → sent before ≡ bytes_in (wrap_script cookie previous replies (stream before))

-- ---- how a run ends

-- the last receive, where it gave the stream's end
abbrev pub last_receive : Ending → List (List ℕ)
last_receive (Err StreamEnded) = [] ∷ []
last_receive ending = []

-- Why a run ended so: the client's own end; that the stream ended first, or so many receives gave bytes as were granted; or that the
-- connection failed, as not all was sent or nothing was received.
abbrev pub IsEnd : Ending → Option Spending → ℕ → ℕ → List ℕ → Type 0
IsEnd (Ok x) end receives turns unsent = end ≡ Some (Ended Died)
IsEnd (Err Refused) end receives turns unsent = (class : ℕ) × (end ≡ Some (Ended (IsRefused class)))
IsEnd (Err Malformed) end receives turns unsent = (at : ℕ) × (end ≡ Some (Ended (IsMalformed at)))
IsEnd (Err StreamEnded) end receives turns unsent = (end ≡ None) × (receives < turns)
IsEnd (Err Spent) end receives turns unsent = (end ≡ None) × (receives ≡ turns)
IsEnd (Err Link) end receives turns unsent = (unsent ≢ []) ⊎ ((end ≡ None) × (receives < turns))
IsEnd (Err NoMemory) end receives turns unsent = Unit {0}
IsEnd (Err BadWords) end receives turns unsent = ⊥
IsEnd (Err NoEntry) end receives turns unsent = ⊥
IsEnd (Err Disk) end receives turns unsent = ⊥

-- All was sent and done, but for a connection that failed and for want of memory.
abbrev pub IsWhole : Ending → List ℕ → List Entry → Type 0
IsWhole (Err NoMemory) unsent undone = Unit {0}
IsWhole (Err Link) unsent undone = undone ≡ []
IsWhole ending unsent undone = (unsent ≡ []) × (undone ≡ [])

-- a fault of the connection has its cause in the count
abbrev pub IsCaused : Ending → Outside → Outside → Type 0
IsCaused (Err Link) old new = Rose old.faults.links new.faults.links
IsCaused ending old new = Unit {0}

module _ {S D : Type 0} (answers : S → NamedAsk → Option SaveAnswer → S → Type 0) (gives : D → Option (List (List ℕ)) → D → Type 0) where
  -- For what the callbacks said: all the script was sent, each part of it before the next receive, the callbacks were asked in its
  -- order, and the ending has its cause. What wasn't sent or done is what a failure cut off.
  pub record Joins (cookie : Cookie) (previous : List ℕ) (turns : ℕ) (old new : Outside) (before after : Callbacks S D) (ending : Ending) (effects : List Effect) : Type 0 where
    pub replies : List Replies
    -- the receives that gave bytes
    pub pieces : List (List ℕ)
    pub solid : AllByRecursion (λ (piece : List ℕ). 1 ≤ length piece) pieces
    pub received_are : heard effects ≡ map received (pieces ++ last_receive ending)
    pub in_turns : length pieces ≤ turns
    pub prompt : IsPrompt cookie previous replies effects
    pub unsent : List ℕ
    pub sent_are : sent effects ++ unsent ≡ bytes_in (wrap_script cookie previous replies (stream effects))
    pub done : List Entry
    pub undone : List Entry
    pub parts : done ++ undone ≡ wrap_script cookie previous replies (stream effects)
    -- What was sent is a front of what is said of what was done, whatever the ending: the callback has answered before its answer is told.
    pub waiting : List ℕ
    pub front : sent effects ++ waiting ≡ bytes_in done
    pub follows : Follows answers gives done before after
    pub whole : IsWhole ending unsent undone
    pub end : IsEnd ending (wrap_end cookie previous replies (stream effects)) (length pieces) turns unsent
    pub cause : IsCaused ending old new
