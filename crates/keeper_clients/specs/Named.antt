-- A client with named callbacks as a free client.
use Rattle.std.specs.Prelude.{◌≡◌, List, [], ◌∷◌, Option, None, Some, ℕ, if◌then◌else◌}
use Rattle.std.specs.List.{AllByRecursion, flat_map}
use Rattle.ice_cookie.specs.declared.cookies.Cookie.{Cookie}
use Rattle.client_machine.specs.Saves.{IsLawful}
use Rattle.client_machine.specs.declared.saves.SaveAnswer.{SaveAnswer}
use Rattle.client_machine.specs.declared.saves.SaveAsk.{SaveAsk}
use Rattle.client_engine.specs.Driving.{Run}
use Rattle.client_engine.specs.Messages.{spelled}
use Rattle.named_joiner.specs.Doing.{bytes_of}
use Rattle.named_joiner.specs.Hearing.{Replied}
use Rattle.named_joiner.specs.Script.{AsksReasons, AsksSave, Came, Entry, Keeper, Says, is_over, piece_heard, reacts, run_after, script_from, start, talk_of, unasked}
use Rattle.named_joiner.specs.Standing.{IsRun, Joining}
use Rattle.named_joiner.specs.declared.callbacks.NamedAsk.{NamedAsk}
use Rattle.named_joiner.specs.declared.ends.NamedReply.{NamedReply}
use Rattle.stream_clients.specs.Clients.{Client, Wish}
use Rattle.keeper_clients.specs.Freedom.{IsFree, Meets, RunsFreely, freely_begun, freely_heard}

-- the callback wanted for no memory, and its answer is lawful
abbrev pub IsAnswer : SaveAsk → Option SaveAnswer → Type 0
IsAnswer ask None = ⊥
IsAnswer ask (Some answer) = IsLawful ask answer

abbrev pub AreReasons : Option (List (List ℕ)) → Type 0
AreReasons None = ⊥
AreReasons (Some reasons) = Unit {0}

-- A client whose callback wants for memory stops without a word, which a free client doesn't.
abbrev pub IsAnswered : Entry → Type 0
IsAnswered (Says message) = Unit {0}
IsAnswered (AsksSave asked answer) = IsAnswer asked.ask answer
IsAnswered (AsksReasons reasons) = AreReasons reasons

-- the pieces that it takes until it is spent
abbrev pub heard_until : Run Keeper → List Came → List (List ℕ)
heard_until run [] = []
heard_until run (came ∷ more) = if is_over run.keeper.ending then [] else (came.bytes ∷ heard_until (piece_heard run came.bytes came.replies).next more)

-- A whole run: what it says of all that comes, until it is spent.
abbrev pub RunIsFree : Type 0
RunIsFree =
    (run : Run Keeper) (free : Run Client) (cames : List Came) → Meets talk_of run free → AllByRecursion IsAnswered (script_from run cames)
    → RunsFreely talk_of bytes_of spelled free (heard_until run cames) (script_from run cames) (run_after run cames)

-- where each callback answered
pub record AreFree : Type 0 where
  pub begins : (cookie : Cookie) (previous : List ℕ) → Meets talk_of (start cookie previous) (freely_begun cookie previous)
  pub hears : IsFree unasked talk_of reacts bytes_of spelled IsAnswered
  pub runs : RunIsFree

-- ---- what a call gives

-- The bytes that a call gave are those of a free client to which the same piece comes, and the client stands where that one does.
pub record GivesFreely {S D : Type 0} (reply : NamedReply) (new : Joining S D) (free : Run Client) (piece : List ℕ) : Type 0 where
  pub wishes : List (List Wish)
  pub bytes : reply.bytes ≡ flat_map spelled (freely_heard free piece wishes).line
  pub after : Run Keeper
  pub is : IsRun after new.stand
  pub meets : Meets talk_of after (freely_heard free piece wishes).next

-- All that follows is said of callbacks that answer so.
module _ {S D : Type 0} (answers : S → NamedAsk → Option SaveAnswer → S → Type 0) (gives : D → Option (List (List ℕ)) → D → Type 0) where
  -- each answer to a save is lawful
  abbrev pub AnswersLawfully : Type 0
  AnswersLawfully = (old : S) (asked : NamedAsk) (answer : SaveAnswer) (new : S) → answers old asked (Some answer) new → IsLawful asked.ask answer

  -- Each call that gives something gives it freely: then no callback wanted for memory.
  abbrev pub CallsAreFree : Type 0
  CallsAreFree = (reply : NamedReply) (old new : Joining S D) (run : Run Keeper) (free : Run Client) (piece : List ℕ) → AnswersLawfully → Meets talk_of run free → Replied answers gives reply old new run piece → GivesFreely reply new free piece
