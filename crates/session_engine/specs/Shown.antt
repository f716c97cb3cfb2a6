-- What the code keeps of the connections, against the machine.
use Rattle.std.specs.Prelude.{◌≡◌, ℕ, ◌%◌, ◌^◌, Bool, false, List, [], ◌∷◌, ◌++◌, length, drop, map, Option, Some, None, Result, IsOk, nat_eq, is_some, if◌then◌else◌}
use Rattle.std.specs.Ordering.{nat_cmp}
use Rattle.std.specs.BTreeMap.{get as place_of}
use Rattle.sm_world.specs.Outside.{Added}
use Rattle.sm_world.specs.declared.effects.Effect.{Effect}
use Rattle.ice_framing.specs.Frames.{fed, cut, standing_of}
use Rattle.ice_framing.specs.Parts.{Part, parts_at, parts_of}
use Rattle.session_engine.specs.Store.{Stored}
use Rattle.manager_machine.specs.Keeper.{StandsFor}
use Rattle.session_model.specs.Moves.{History}
use Rattle.session_model.specs.Readings as of
use Rattle.session_engine.specs.Answers.{speaks_xsmp}
use Rattle.session_engine.specs.Cutting.{Cuts, Unsets}
use Rattle.session_engine.specs.Machine.{Connection, Machine, Step, acts_of, connection_of, part_taken}
use Rattle.session_engine.specs.Places.{kept_in}
use Rattle.session_engine.specs.Saved.{Performs}
use Rattle.session_engine.specs.declared.connection.Connection.{Connection as Kept}
use Rattle.session_engine.specs.Outcomes.{Answered}
use Rattle.session_engine.specs.declared.engine.Engine.{Engine}
use Rattle.session_engine.specs.declared.fault.Halt.{Halt}
use Rattle.session_engine.specs.declared.live.Connections.{Connections}

-- what is kept of a connection, and None where it isn't live
abbrev pub kept_at : Connections → ℕ → Option Kept
kept_at live c = kept_in live.seats (place_of nat_cmp live.places c)

-- of this connection that is kept now, and of every other what was
abbrev pub ChangesAt : Connections → Connections → ℕ → Option Kept → Type 0
ChangesAt old new c kept = (q : ℕ) → kept_at new q ≡ (if nat_eq q c then kept else kept_at old q)

-- what cutting does at a connection, live or not
abbrev pub CutsAt : Option Kept → List ℕ → Option Answered → Option Kept → Type 0
CutsAt None left answered after = (answered ≡ None) × (after ≡ None)
CutsAt (Some before) left answered after = (kept : Kept) × (after ≡ Some kept) × Cuts before left answered kept

-- what the end of XSMP does at a connection, live or not
abbrev pub UnsetsAt : Option Kept → Option Kept → Type 0
UnsetsAt None after = after ≡ None
UnsetsAt (Some before) after = (kept : Kept) × (after ≡ Some kept) × Unsets before kept

-- this connection isn't live any more
abbrev pub Leaves : ℕ → Connections → Connections → Type 0
Leaves c old new = ChangesAt old new c None

-- What is kept shows a connection, where these bytes of its stream are still to be cut.
pub record IsKeptOf (pending : List ℕ) (kept : Kept) (k : Connection) : Type 0 where
  pub setup : kept.setup ≡ k.setup
  pub sequence : kept.sequence ≡ k.taken % 2 ^ 32
  pub stands : (cut (fed kept.splitter pending)).standing ≡ standing_of k.stream
  -- the parts that were taken, and that the others are still to be cut
  pub before : List Part
  pub count : length before ≡ k.taken
  pub parts : before ++ parts_at (fed kept.splitter pending) ≡ parts_of k.stream

abbrev pub Matches : List ℕ → Option Kept → Option Connection → Type 0
Matches pending None None = Unit {0}
Matches pending None (Some k) = ⊥
Matches pending (Some kept) None = ⊥
Matches pending (Some kept) (Some k) = IsKeptOf pending kept k

-- No two connections have the same number.
abbrev pub AreDistinct : List Connection → Type 0
AreDistinct [] = Unit {0}
AreDistinct (k ∷ ks) = (connection_of k.number ks ≡ None) × AreDistinct ks

-- nothing is still to be cut
abbrev pub all_cut : ℕ → List ℕ
all_cut q = []

-- of this connection the rest of a piece is still to be cut
abbrev pub to_cut : ℕ → List ℕ → ℕ → List ℕ
to_cut c left q = if nat_eq q c then left else []

-- what is kept of the live connections shows these
pub record ShowsLive (pending : ℕ → List ℕ) (live : Connections) (ks : List Connection) : Type 0 where
  pub each : (q : ℕ) → Matches (pending q) (kept_at live q) (connection_of q ks)
  pub distinct : AreDistinct ks

-- XSMP is spoken on a connection, which is live
abbrev pub is_speaking : Option Connection → Bool
is_speaking None = false
is_speaking (Some k) = speaks_xsmp k.setup

-- The session and the connections agree who is live, and a client has a phase exactly where its set-up says that XSMP is spoken.
pub record Agrees (ks : List Connection) (h : History) : Type 0 where
  pub numbers : map (λ (k : Connection). k.number) ks ≡ of.live h
  pub phases : (q : ℕ) → is_some (of.phase_of q h) ≡ is_speaking (connection_of q ks)

-- the session in memory shows the machine
pub record Shows (pending : ℕ → List ℕ) (engine : Engine) (m : Machine) : Type 0 where
  pub cookie : m.cookie ≡ engine.cookie
  pub live : ShowsLive pending engine.live m.connections
  pub stands : StandsFor engine.manager m.session
  pub agrees : Agrees m.connections m.session

-- it shows some machine
abbrev pub IsShown : (ℕ → List ℕ) → Engine → Type 0
IsShown pending engine = (m : Machine) × Shows pending engine m

-- It gave the acts of a step, and shows the machine after it.
pub record Gives (step : Step) (engine : Engine) : Type 0 where
  pub acts : engine.acts ≡ acts_of step
  pub shows : Shows all_cut engine step.next

-- the parts that the stream of a connection has behind those that were taken
abbrev pub parts_on : Option Connection → List Part
parts_on None = []
parts_on (Some k) = drop k.taken (parts_of k.stream)

abbrev pub parts_left : Machine → ℕ → List Part
parts_left m c = parts_on (connection_of c m.connections)

-- The next part of a connection's stream was taken: it gave what that brings, and shows the machine after it.
pub record TakesPart (m : Machine) (c : ℕ) (left : List ℕ) (engine : Engine) : Type 0 where
  pub part : Part
  pub rest : List Part
  pub is_next : parts_left m c ≡ part ∷ rest
  pub acts : engine.acts ≡ acts_of (part_taken m c part)
  pub shows : Shows (to_cut c left) engine (part_taken m c part).next

-- No part is left.
pub record TakesNone (m : Machine) (c : ℕ) (engine : Engine) : Type 0 where
  pub none_left : parts_left m c ≡ []
  pub shows : Shows all_cut engine m

abbrev pub Takes : Machine → ℕ → List ℕ → Option ℕ → Engine → Type 0
Takes m c left None engine = TakesNone m c engine
Takes m c left (Some count) engine = TakesPart m c (drop count left) engine

-- The effects that were added do the acts of a step over a turn of the store, and the session shows the machine after it.
pub record Carried (old new : Option (List Effect)) (store : Stored) (engine : Engine) (step : Step) (answer : Result Stored Halt) : Type 0 where
  pub acts : Added old new (Performs store (acts_of step) answer)
  pub shows : IsOk answer → Shows all_cut engine step.next
