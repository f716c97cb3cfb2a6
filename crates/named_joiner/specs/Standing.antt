-- Where a client stands in its manager's stream.
use Rattle.std.specs.Prelude.{ℕ, List, Option, None}
use Rattle.ice_cookie.specs.declared.cookies.Cookie.{Cookie}
use Rattle.ice_framing.specs.Frames.{Standing, beginning}
use Rattle.client_engine.specs.Cutting.{opening}
use Rattle.client_engine.specs.Driving.{Run}
use Rattle.client_engine.specs.Keeping.{IsRun as IsRunOf}
use Rattle.client_engine.specs.declared.place.Talk.{Talk}
use Rattle.named_joiner.specs.Script.{Callbacks, Keeper, talk_of}
use Rattle.named_joiner.specs.declared.ends.Ending.{Ending}

-- how far it has come, what its stream has left, and how it is spent, once it is
pub record Stand : Type 0 where
  pub talk : Talk
  pub splitter : Standing
  pub ending : Option Ending

-- a client with its callbacks
pub record Joining (S D : Type 0) : Type 0 where
  pub stand : Stand
  pub callbacks : Callbacks S D

abbrev pub keeper_at : Stand → Keeper
keeper_at stand = record { talk = stand.talk; ending = stand.ending }

-- it has sent ByteOrder, and has heard nothing yet
abbrev pub start_stand : Cookie → List ℕ → Stand
start_stand cookie previous = record { talk = opening cookie previous; splitter = beginning; ending = None }

-- The client stands where the run does, and as long as it takes parts it holds what the stream has left.
abbrev pub IsRun : Run Keeper → Stand → Type 0
IsRun run stand = IsRunOf talk_of run (keeper_at stand) stand.splitter
