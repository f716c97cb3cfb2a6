-- Where an agent stands in its outer manager's stream, and what a call of it gives.
use Rattle.std.specs.Prelude.{◌≡◌, ℕ, Bool, true, false, List, Result, Ok, Err}
use Rattle.ice_cookie.specs.declared.cookies.Cookie.{Cookie}
use Rattle.ice_framing.specs.Frames.{Standing}
use Rattle.client_engine.specs.Driving.{Run, Step}
use Rattle.client_engine.specs.Keeping.{IsRun as IsRunOf}
use Rattle.outer_agent.specs.Script.{Keeper, start, talk_of}

-- how far it has come, what its stream has left, and whether memory was wanting
pub record Stand : Type 0 where
  pub keeper : Keeper
  pub splitter : Standing
  pub starved : Bool

-- it has sent ByteOrder, and has heard nothing yet
abbrev pub start_stand : Cookie → List ℕ → List (List ℕ) → Stand
start_stand cookie previous words = record { keeper = (start cookie previous words).keeper; splitter = (start cookie previous words).standing; starved = false }

-- The agent stands where the run does, and as long as it takes parts it holds what the stream has left.
abbrev pub IsRun : Run Keeper → Stand → Type 0
IsRun run stand = IsRunOf talk_of run stand.keeper stand.splitter

-- A call gave what the run's step has, and the agent stands where the run does then.
pub record Gives {E : Type 0} (given : List E) (step : Step (Run Keeper) E) (after : Stand) : Type 0 where
  pub line : given ≡ step.line
  pub next : IsRun step.next after

-- nothing was given
abbrev pub gave_none : {A F : Type 0} → Result A F → Bool
gave_none (Ok x) = false
gave_none (Err fault) = true
