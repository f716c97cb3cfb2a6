-- A manager as a client of an outer one, as a free client.
use Rattle.std.specs.Prelude.{◌≡◌, Bool, List, [], ◌∷◌, ◌++◌, ℕ}
use Rattle.std.specs.List.{flat_map}
use Rattle.ice_cookie.specs.declared.cookies.Cookie.{Cookie}
use Rattle.client_engine.specs.Driving.{Run, Step, behind, stays}
use Rattle.client_engine.specs.Messages.{spelled}
use Rattle.outer_agent.specs.Ends.{Came, Life, after, after_all}
use Rattle.outer_agent.specs.Ends.Came.{Piece, SaveEnded, SessionEnded}
use Rattle.outer_agent.specs.Script.{Keeper, closed, piece_heard, reacts, start, talk_of, told}
use Rattle.outer_agent.specs.declared.acts.AgentAct.{AgentAct}
use Rattle.outer_agent.specs.declared.acts.AgentAct.TheVariants.{Checkpoint, Drop, Forget, Send, Shutdown}
use Rattle.protocol_messages.specs.declared.message.Message.{Message}
use Rattle.stream_clients.specs.Clients.{Client, Wish, does}
use Rattle.keeper_clients.specs.Freedom.{IsFree, Meets, freely_begun, freely_heard}

-- the bytes that an act sends
abbrev pub sent_by : AgentAct → List ℕ
sent_by (Send bytes) = bytes
sent_by Checkpoint = []
sent_by Forget = []
sent_by Shutdown = []
sent_by Drop = []

-- nothing is asked of anybody
abbrev pub IsAnyAct : AgentAct → Type 0
IsAnyAct act = Unit {0}

-- the wishes are done, and the stream stands where it stood
abbrev pub wishing : Run Client → List Wish → Run Client
wishing free wishes = record free { keeper = (does wishes free.keeper).next }

-- What it is told between two pieces is a list of wishes.
pub record SpeaksFreely (free : Run Client) (done : Step (Run Keeper) ℕ) : Type 0 where
  pub wishes : List Wish
  pub line : done.line ≡ flat_map spelled (does wishes free.keeper).line
  pub meets : Meets talk_of done.next (wishing free wishes)

-- Whatever comes, and whatever it is told.
pub record AreFree : Type 0 where
  pub begins : (cookie : Cookie) (previous : List ℕ) (words : List (List ℕ)) → Meets talk_of (start cookie previous words) (freely_begun cookie previous)
  pub hears : IsFree tt talk_of reacts sent_by spelled IsAnyAct
  pub ends : (run : Run Keeper) (free : Run Client) (success : Bool) → Meets talk_of run free → SpeaksFreely free (told run success)
  pub closes : (run : Run Keeper) (free : Run Client) → Meets talk_of run free → SpeaksFreely free (closed run)

-- ---- all that comes to an agent

-- the bytes that it sends at something that comes
abbrev pub said_at : Run Keeper → Came → List ℕ
said_at run (Piece bytes) = flat_map sent_by (piece_heard run bytes).line
said_at run (SaveEnded success) = (told run success).line
said_at run SessionEnded = (closed run).line

-- and at all that comes, one thing after the other
abbrev pub said_over : Life → List Came → List ℕ
said_over life [] = []
said_over life (came ∷ more) = said_at life.run came ++ said_over (after life came) more

-- what comes to a free client, and what it wishes
pub data FreeStep : Type 0 where
  Hears : List ℕ → List (List Wish) → FreeStep
  Wishes : List Wish → FreeStep

abbrev pub free_step : Run Client → FreeStep → Step (Run Client) Message
free_step free (Hears bytes wishes) = freely_heard free bytes wishes
free_step free (Wishes wishes) = record { line = (does wishes free.keeper).line; next = wishing free wishes }

abbrev pub free_steps : Run Client → List FreeStep → Step (Run Client) Message
free_steps free [] = stays free
free_steps free (step ∷ more) = behind (free_step free step).line (free_steps (free_step free step).next more)

-- the pieces that come to either
abbrev pub piece_of : Came → List (List ℕ)
piece_of (Piece bytes) = bytes ∷ []
piece_of came = []

abbrev pub heard_by : FreeStep → List (List ℕ)
heard_by (Hears bytes wishes) = bytes ∷ []
heard_by (Wishes wishes) = []

-- A free client to which the same pieces come says the same, and then stands where the agent does.
pub record LivesFreely (life : Life) (free : Run Client) (all : List Came) : Type 0 where
  pub steps : List FreeStep
  pub pieces : flat_map heard_by steps ≡ flat_map piece_of all
  pub says : said_over life all ≡ flat_map spelled (free_steps free steps).line
  pub meets : Meets talk_of (after_all life all).run (free_steps free steps).next

abbrev pub LivesAreFree : Type 0
LivesAreFree = (life : Life) (free : Run Client) (all : List Came) → Meets talk_of life.run free → LivesFreely life free all
