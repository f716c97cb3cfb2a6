-- Where a keeper stands in its manager's stream, and what a call of it gives.
use Rattle.std.specs.Prelude.{◌≡◌, ℕ, Bool, true, false, List, Result, Ok, Err}
use Rattle.ice_cookie.specs.declared.cookies.Cookie.{Cookie}
use Rattle.ice_framing.specs.Frames.{Standing}
use Rattle.ice_values.specs.declared.property.Property.{Property}
use Rattle.client_engine.specs.Driving.{Run, Step}
use Rattle.client_engine.specs.Keeping.{IsRun as IsRunOf}
use Rattle.program_keeper.specs.Script.{Keeper, begin, talk_of}
use Rattle.program_keeper.specs.declared.acts.KeeperAct.{KeeperAct}
use Rattle.program_keeper.specs.declared.windows.Window.{Window}

-- how far it has come, what its stream has left, and whether memory was wanting
pub record Stand : Type 0 where
  pub keeper : Keeper
  pub splitter : Standing
  pub starved : Bool

-- it has sent ByteOrder, and has heard nothing yet
abbrev pub start_stand : Cookie → List ℕ → List Property → List Window → Stand
start_stand cookie previous set windows = record { keeper = (begin cookie previous set windows).keeper; splitter = (begin cookie previous set windows).standing; starved = false }

-- The keeper stands where the run does, and as long as it takes parts it holds what the stream has left.
abbrev pub IsRun : Run Keeper → Stand → Type 0
IsRun run stand = IsRunOf talk_of run stand.keeper stand.splitter

-- A call gave what the run's step has, and the keeper stands where the run does then.
pub record Gives (given : List KeeperAct) (step : Step (Run Keeper) KeeperAct) (after : Stand) : Type 0 where
  pub line : given ≡ step.line
  pub next : IsRun step.next after

-- nothing was given
abbrev pub gave_none : {A F : Type 0} → Result A F → Bool
gave_none (Ok x) = false
gave_none (Err fault) = true
