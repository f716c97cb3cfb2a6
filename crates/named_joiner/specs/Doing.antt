-- What the calls of a client do: to what is to be sent, and to the callbacks.
use Rattle.std.specs.Prelude.{◌≡◌, ℕ, List, [], ◌∷◌, ◌++◌, Option, None, Some, Result, Ok, Err, option_map}
use Rattle.std.specs.List.{flat_map}
use Rattle.owned_lists.specs.declared.failures.NoMemory.{NoMemory}
use Rattle.client_machine.specs.declared.saves.SaveAnswer.{SaveAnswer}
use Rattle.client_machine.specs.declared.saves.SaveAsk.{SaveAsk}
use Rattle.client_engine.specs.Driving.{Run, Step}
use Rattle.client_engine.specs.Messages.{spelled}
use Rattle.named_joiner.specs.Script.{Callbacks, Entry, Keeper, Says, AsksSave, AsksReasons, answered, piece_heard}
use Rattle.named_joiner.specs.Script.{Replies as Said}
use Rattle.named_joiner.specs.Standing.{IsRun, Stand, keeper_at}
use Rattle.named_joiner.specs.declared.callbacks.NamedAsk.{NamedAsk}
use Rattle.named_joiner.specs.declared.ends.Ending.TheVariants.{Ended, Starved}
use Rattle.named_joiner.specs.declared.ends.HearFault.{HearFault}
use Rattle.named_joiner.specs.declared.ends.HearFault.TheVariants.{NoMemory as IsStarved, Stopped}
use Rattle.named_joiner.specs.declared.ends.NamedReply.{NamedReply}
use Rattle.named_joiner.specs.declared.progress.Progress.{Progress}

abbrev pub bytes_of : Entry → List ℕ
bytes_of (Says message) = spelled message
bytes_of (AsksSave ask answer) = []
bytes_of (AsksReasons reasons) = []

-- what is sent, one message after the other
abbrev pub bytes_in : List Entry → List ℕ
bytes_in entries = flat_map bytes_of entries

abbrev pub stand_of : Progress → Stand
stand_of progress = record { talk = progress.core.talk; splitter = progress.core.splitter; ending = progress.ending }

abbrev pub keeper_of : Progress → Keeper
keeper_of progress = keeper_at (stand_of progress)

-- what a call changes: what is to be sent, and the callbacks
pub record Desk (S D : Type 0) : Type 0 where
  pub bytes : List ℕ
  pub callbacks : Callbacks S D

abbrev pub desk : {S D : Type 0} → List ℕ → Callbacks S D → Desk S D
desk bytes callbacks = record { bytes = bytes; callbacks = callbacks }

-- All that was to be sent is given, with the end of the client; one that wanted for memory gives nothing.
abbrev pub Replies : Progress → Result NamedReply HearFault → Type 0
Replies progress (Ok reply) = (reply.bytes ≡ progress.bytes) × (option_map Ended reply.end ≡ progress.ending)
Replies progress (Err IsStarved) = progress.ending ≡ Some Starved
Replies progress (Err Stopped) = ⊥

-- All that follows is said of callbacks that answer so.
module _ {S D : Type 0} (answers : S → NamedAsk → Option SaveAnswer → S → Type 0) (gives : D → Option (List (List ℕ)) → D → Type 0) where
  -- The callbacks gave these answers, in this order, each call in the state that the one before it left.
  abbrev pub Follows : List Entry → Callbacks S D → Callbacks S D → Type 0
  Follows [] old new = new ≡ old
  Follows (Says message ∷ more) old new = Follows more old new
  Follows (AsksSave ask answer ∷ more) old new = (save : S) × answers old.save ask answer save × Follows more (record old { save = save }) new
  Follows (AsksReasons reasons ∷ more) old new = (die : D) × gives old.die reasons die × Follows more (record old { die = die }) new

  -- These entries were done.
  pub record Does (old new : Desk S D) (line : List Entry) : Type 0 where
    pub bytes : new.bytes ≡ old.bytes ++ bytes_in line
    pub follows : Follows line old.callbacks new.callbacks

  -- The callbacks were asked as the first of these entries say, and memory was wanting then.
  pub record Begins (old new : Callbacks S D) (line : List Entry) : Type 0 where
    pub done : List Entry
    pub left : List Entry
    pub parts : done ++ left ≡ line
    pub follows : Follows done old new

  -- The entries were done, or where memory was wanting the callbacks were asked as the first of them say.
  abbrev pub Carries : Desk S D → Desk S D → List Entry → Option NoMemory → Type 0
  Carries old new line None = Does old new line
  Carries old new line (Some e) = Begins old.callbacks new.callbacks line

  -- For something that the callbacks said the step was made, and so the client is then.
  pub record Takes {A : Type 0} (old new : Desk S D) (step : A → Step Keeper Entry) (after : Keeper) : Type 0 where
    pub said : A
    pub does : Does old new (step said).line
    pub next : after ≡ (step said).next

  -- For something that the callbacks said it was begun.
  pub record Breaks {A : Type 0} (old new : Callbacks S D) (step : A → Step Keeper Entry) : Type 0 where
    pub said : A
    pub begins : Begins old new (step said).line

  -- The step was made, or memory was wanting.
  abbrev pub Tries : {A : Type 0} → Result (Unit {0}) NoMemory → Desk S D → Desk S D → (A → Step Keeper Entry) → Keeper → Type 0
  Tries (Ok x) old new step after = Takes old new step after
  Tries (Err e) old new step after = Breaks old.callbacks new.callbacks step

  -- The client answered a save, or memory was wanting, here or in the callback.
  abbrev pub Answers : Result (Unit {0}) NoMemory → Desk S D → Desk S D → Keeper → SaveAsk → Keeper → Type 0
  Answers (Ok x) old new keeper ask after = Takes old new (λ answer. answered keeper ask (Some answer)) after
  Answers (Err e) old new keeper ask after = Breaks old.callbacks new.callbacks (answered keeper ask)

  -- The parts were taken that a piece completes.
  pub record TakesPiece (old new : Desk S D) (run : Run Keeper) (bytes : List ℕ) (after : Progress) : Type 0 where
    pub replies : List Said
    pub does : Does old new (piece_heard run bytes replies).line
    pub next : IsRun (piece_heard run bytes replies).next (stand_of after)

  -- The first of them were.
  pub record BreaksPiece (old new : Callbacks S D) (run : Run Keeper) (bytes : List ℕ) : Type 0 where
    pub replies : List Said
    pub begins : Begins old new (piece_heard run bytes replies).line

  abbrev pub TriesPiece : Result (Unit {0}) NoMemory → Desk S D → Desk S D → Run Keeper → List ℕ → Progress → Type 0
  TriesPiece (Ok x) old new run bytes after = TakesPiece old new run bytes after
  TriesPiece (Err e) old new run bytes after = BreaksPiece old.callbacks new.callbacks run bytes
