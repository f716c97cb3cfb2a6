-- What the calls of a run do: to the peer, to the noted lines and to the callbacks.
use Rattle.std.specs.Prelude.{◌≡◌, ◌≢◌, ◌⊎◌, ℕ, ◌≤◌, length, List, [], ◌∷◌, ◌++◌, map, Option, None, Some, Result}
use Rattle.std.specs.List.{flat_map}
use Rattle.sm_world.specs.Outside.{Outside, adds, Rose, NotFallen}
use Rattle.sm_world.specs.declared.effects.Effect.{Effect}
use Rattle.sm_world.specs.declared.effects.Effect.TheVariants.{Heard, Sent}
use Rattle.sm_world.specs.declared.failures.Failure.{Failure}
use Rattle.sm_world.specs.declared.failures.Failure.TheVariants.{Failed, NoMemory}
use Rattle.sm_world.specs.declared.failures.Faults.{Faults}
use Rattle.client_peer.specs.Peers.{received}
use Rattle.client_machine.specs.declared.saves.SaveAnswer.{SaveAnswer}
use Rattle.client_machine.specs.declared.saves.SaveAsk.{SaveAsk}
use Rattle.client_engine.specs.Driving.{Run, Step}
use Rattle.client_engine.specs.Keeping.{IsRun as IsRunOf, Takes as TakesStep, TakesPiece as TakesPieceOf, fault_in}
use Rattle.client_engine.specs.Messages.{spelled}
use Rattle.protocol_messages.specs.declared.message.Message.{Message}
use Rattle.client_callbacks.specs.Answers.{unasked}
use Rattle.client_callbacks.specs.Script.{Entry, Hears, Says, AsksSave, AsksReasons, TellsCancelled, Notes, Came, Keeper, reacts, talk_of, run_after, script_from}
use Rattle.client_callbacks.specs.declared.progress.Progress.{Progress}

-- The effects of an entry, under the connection's number 0.
abbrev pub effect_of : Entry → List Effect
effect_of (Hears bytes) = Heard (received bytes) ∷ []
effect_of (Says message) = Sent 0 (spelled message) ∷ []
effect_of (AsksSave ask answer) = []
effect_of (AsksReasons reasons) = []
effect_of TellsCancelled = []
effect_of (Notes line) = []

abbrev pub line_of : Entry → List (List ℕ)
line_of (Hears bytes) = []
line_of (Says message) = []
line_of (AsksSave ask answer) = []
line_of (AsksReasons reasons) = []
line_of TellsCancelled = []
line_of (Notes line) = line ∷ []

-- what a receive gave
abbrev pub heard_of : Entry → List (List ℕ)
heard_of (Hears bytes) = bytes ∷ []
heard_of (Says message) = []
heard_of (AsksSave ask answer) = []
heard_of (AsksReasons reasons) = []
heard_of TellsCancelled = []
heard_of (Notes line) = []

abbrev pub effects_in : List Entry → List Effect
effects_in entries = flat_map effect_of entries

abbrev pub lines_in : List Entry → List (List ℕ)
lines_in entries = flat_map line_of entries

-- what was received, in order
abbrev pub heard_in : List Entry → List (List ℕ)
heard_in entries = flat_map heard_of entries

-- what was received, where these receives were made
abbrev pub bytes_in : List Came → List (List ℕ)
bytes_in cames = map (λ (came : Came). came.bytes) cames

-- The first of what wasn't done is a message.
abbrev pub IsUnsent : List Entry → Type 0
IsUnsent left = (message : Message) × (more : List Entry) × (left ≡ Says message ∷ more)

-- the callbacks of a client, as they are at a moment
pub record Callbacks (S D C : Type 0) : Type 0 where
  pub save : S
  pub die : D
  pub cancelled : C

-- what a run changes
pub record Desk (S D C : Type 0) : Type 0 where
  pub told : Option (List Effect)
  pub faults : Faults
  pub lines : List (List ℕ)
  pub callbacks : Callbacks S D C

abbrev pub desk : {S D C : Type 0} → Outside → List (List ℕ) → Callbacks S D C → Desk S D C
desk outside lines callbacks = record { told = outside.told; faults = outside.faults; lines = lines; callbacks = callbacks }

-- a fault of the links comes only where their count rose
abbrev pub IsCaused : Faults → Faults → Option Failure → Type 0
IsCaused old new None = Unit {0}
IsCaused old new (Some Failed) = Rose old.links new.links
IsCaused old new (Some NoMemory) = Unit {0}

-- why a call did nothing more
abbrev pub failure_in : {A : Type 0} → Result A Failure → Option Failure
failure_in result = fault_in result

-- the effect of a message that is sent
abbrev pub sent : Message → Effect
sent message = Sent 0 (spelled message)

-- The first of these messages were sent: all of them where nothing failed, and not all where the connection did.
pub record Sends (old new : Outside) (all : List Message) (failure : Option Failure) : Type 0 where
  pub done : List Message
  pub left : List Message
  pub parts : done ++ left ≡ all
  pub none_left : failure ≡ None → left ≡ []
  pub some_left : failure ≡ Some Failed → left ≢ []
  pub told : new.told ≡ adds old.told (map sent done)
  pub counts : NotFallen old.faults new.faults
  pub cause : IsCaused old.faults new.faults failure

-- how far a run is, as its script sees it
abbrev pub keeper_of : Progress → Keeper
keeper_of progress = record { talk = progress.core.talk; saves = progress.saves; ending = progress.ending }

-- The client stands where the run does, and as long as it takes parts its core holds what the stream has left.
abbrev pub IsRun : Run Keeper → Progress → Type 0
IsRun run progress = IsRunOf talk_of run (keeper_of progress) progress.core.splitter

-- All that follows is said of callbacks that answer so.
module _ {S D C : Type 0} (answers : S → SaveAsk → SaveAnswer → S → Type 0) (gives : D → List (List ℕ) → D → Type 0) (hears : C → C → Type 0) where
  -- The callbacks gave these answers, in this order, each call in the state that the one before it left.
  abbrev pub Follows : List Entry → Callbacks S D C → Callbacks S D C → Type 0
  Follows [] old new = new ≡ old
  Follows (Hears bytes ∷ more) old new = Follows more old new
  Follows (Says message ∷ more) old new = Follows more old new
  Follows (AsksSave ask answer ∷ more) old new = (save : S) × answers old.save ask answer save × Follows more (record old { save = save }) new
  Follows (AsksReasons reasons ∷ more) old new = (die : D) × gives old.die reasons die × Follows more (record old { die = die }) new
  Follows (TellsCancelled ∷ more) old new = (cancelled : C) × hears old.cancelled cancelled × Follows more (record old { cancelled = cancelled }) new
  Follows (Notes line ∷ more) old new = Follows more old new

  -- The first of these entries were done, and all of them where nothing failed.
  pub record Does (old new : Desk S D C) (all : List Entry) (failure : Option Failure) : Type 0 where
    pub done : List Entry
    pub left : List Entry
    pub parts : done ++ left ≡ all
    pub none_left : failure ≡ None → left ≡ []
    pub told : new.told ≡ adds old.told (effects_in done)
    pub lines : new.lines ≡ old.lines ++ lines_in done
    pub follows : Follows done old.callbacks new.callbacks
    pub counts : NotFallen old.faults new.faults
    pub cause : IsCaused old.faults new.faults failure

  -- So it is, and where the connection failed the first that wasn't done is a message.
  pub record CarriesOut (old new : Desk S D C) (all : List Entry) (failure : Option Failure) : Type 0 where
    pub does : Does old new all failure
    pub unsent : failure ≡ Some Failed → IsUnsent does.left

  -- For something that the callbacks said the step was made, and so the client's keeper is then.
  abbrev pub Takes : {A : Type 0} → Desk S D C → Desk S D C → (A → Step Keeper Entry) → Keeper → Option Failure → Type 0
  Takes old new step after failure = TakesStep CarriesOut old new step after failure

  -- The parts were taken that a piece completes.
  abbrev pub TakesPiece : Desk S D C → Desk S D C → Run Keeper → List ℕ → Progress → Option Failure → Type 0
  TakesPiece old new run bytes after failure = TakesPieceOf CarriesOut unasked talk_of reacts old new run bytes (keeper_of after) after.core.splitter failure

  -- At most one receive was made, and what it brought was done. Where the connection failed, a message wasn't sent, or nothing was received.
  pub record TakesTurn (old new : Desk S D C) (run : Run Keeper) (after : Progress) (failure : Option Failure) : Type 0 where
    pub cames : List Came
    pub few : length cames ≤ 1
    pub does : Does old new (script_from run cames) failure
    pub heard : heard_in does.done ≡ bytes_in cames
    pub unsent : failure ≡ Some Failed → IsUnsent does.left ⊎ ((does.left ≡ []) × (cames ≡ []))
    pub one : failure ≡ None → length cames ≡ 1
    pub next : failure ≡ None → IsRun (run_after run cames) after
