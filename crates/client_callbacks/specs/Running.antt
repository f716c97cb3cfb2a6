-- What a run of a client is: the script for all that it received.
use Rattle.std.specs.Prelude.{◌≡◌, ◌⊎◌, ◌<◌, ◌≤◌, ℕ, false, List, [], length, Option, None, Some, Result, Ok, Err}
use Rattle.ice_cookie.specs.declared.cookies.Cookie.{Cookie}
use Rattle.sm_world.specs.declared.failures.Failure.{Failure}
use Rattle.sm_world.specs.declared.failures.Failure.TheVariants.{Failed, NoMemory as OutOfMemory}
use Rattle.client_machine.specs.declared.saves.SaveAnswer.{SaveAnswer}
use Rattle.client_machine.specs.declared.saves.SaveAsk.{SaveAsk}
use Rattle.client_engine.specs.Driving.{Run}
use Rattle.client_callbacks.specs.Doing.{Desk, Does, IsUnsent, bytes_in, heard_in}
use Rattle.client_callbacks.specs.Script.{Came, Entry, Keeper, is_over, run_after, script, script_from, start}
use Rattle.client_callbacks.specs.declared.ends.ClientEnd.{ClientEnd}
use Rattle.client_callbacks.specs.declared.ends.ClientEnd.TheVariants.{Died as HasDied, Closed as HasClosed, StreamEnded as HasStreamEnded}
use Rattle.client_callbacks.specs.declared.ends.Ending.{Ending}
use Rattle.client_callbacks.specs.declared.ends.Ending.TheVariants.{Died, Closed, StreamEnded, Refused as IsRefused, Malformed as IsMalformed}
use Rattle.client_callbacks.specs.declared.ends.JoinFault.{JoinFault}
use Rattle.client_callbacks.specs.declared.ends.JoinFault.TheVariants.{LinkFault, Refused, Malformed, Spent, NoMemory}

-- the fault of a run that a failure cut short
abbrev pub fault_of : Failure → JoinFault
fault_of Failed = LinkFault
fault_of OutOfMemory = NoMemory

-- the answer of a run that the manager or the stream's end brought to its end
abbrev pub answer_of : Ending → Result ClientEnd JoinFault
answer_of Died = Ok HasDied
answer_of Closed = Ok HasClosed
answer_of (StreamEnded phase) = Ok (HasStreamEnded phase)
answer_of (IsRefused class) = Err (Refused class)
answer_of (IsMalformed at) = Err (Malformed at)

-- what cut a run short, if anything did
abbrev pub failure_of : Result ClientEnd JoinFault → Option Failure
failure_of (Err LinkFault) = Some Failed
failure_of (Err NoMemory) = Some OutOfMemory
failure_of answer = None

-- A run that wasn't cut short has the answer of the client's end; it is spent where every turn
-- brought bytes and the client isn't at its end. The connection failed where a message wasn't sent, or where nothing was
-- received in a turn and the client isn't at its end.
abbrev pub IsAnswer : Result ClientEnd JoinFault → Option Ending → ℕ → ℕ → List Entry → Type 0
IsAnswer (Err LinkFault) ending heard turns left = IsUnsent left ⊎ ((left ≡ []) × (heard < turns) × (is_over ending ≡ false))
IsAnswer (Err NoMemory) ending heard turns left = Unit {0}
IsAnswer (Err Spent) ending heard turns left = (heard ≡ turns) × (is_over ending ≡ false)
IsAnswer answer ending heard turns left = (end : Ending) × (ending ≡ Some end) × (answer ≡ answer_of end)

module _ {S D C : Type 0} (answers : S → SaveAsk → SaveAnswer → S → Type 0) (gives : D → List (List ℕ) → D → Type 0) (hears : C → C → Type 0) where
  -- From here a run was followed for what was received, each receive of it, and for what the callbacks said; and the answer is
  -- that of its end.
  pub record FollowsRun (run : Run Keeper) (turns : ℕ) (old new : Desk S D C) (result : Result ClientEnd JoinFault) : Type 0 where
    pub cames : List Came
    pub does : Does answers gives hears old new (script_from run cames) (failure_of result)
    pub heard : heard_in does.done ≡ bytes_in cames
    pub answer : IsAnswer result (run_after run cames).keeper.ending (length cames) turns does.left
    pub in_turns : length cames ≤ turns

  -- The client's script was followed for what was received, each receive of it, and for what the callbacks said; and the
  -- answer is that of the script's end.
  pub record Joins (cookie : Cookie) (previous : List ℕ) (saves turns : ℕ) (old new : Desk S D C) (result : Result ClientEnd JoinFault) : Type 0 where
    pub cames : List Came
    pub does : Does answers gives hears old new (script cookie previous saves cames) (failure_of result)
    pub heard : heard_in does.done ≡ bytes_in cames
    pub answer : IsAnswer result (run_after (start cookie previous saves) cames).keeper.ending (length cames) turns does.left
    pub in_turns : length cames ≤ turns
