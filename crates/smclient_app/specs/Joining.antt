-- What a client does that joins as its words say.
use Rattle.std.specs.Prelude.{◌≡◌, ℕ, Bool, false, List, [], Result, Err}
use Rattle.sm_world.specs.Outside.{Outside}
use Rattle.client_callbacks.specs.Doing.{Callbacks, desk}
use Rattle.client_callbacks.specs.Running.{Joins}
use Rattle.client_callbacks.specs.declared.ends.ClientEnd.{ClientEnd}
use Rattle.client_callbacks.specs.declared.ends.JoinFault.{JoinFault}
use Rattle.client_callbacks.specs.declared.ends.JoinFault.TheVariants.{NoMemory}
use Rattle.client_callbacks.specs.declared.joiner.Join.{Join}
use Rattle.client_machine.specs.declared.saves.SaveAnswer.{SaveAnswer}
use Rattle.client_machine.specs.declared.saves.SaveAsk.{SaveAsk}
use Rattle.client_words.specs.declared.choices.Choices.{Choices}
use Rattle.smclient_app.specs.Rules.{Answers, MayAnswer}

-- A client ran with these callbacks, and the one that saves is so then.
pub record Ran {S D C : Type 0} (answers : S → SaveAsk → SaveAnswer → S → Type 0) (gives : D → List (List ℕ) → D → Type 0) (hears : C → C → Type 0) (old new : Outside) (join : Join) (lines : List (List ℕ)) (turns : ℕ) (callbacks : Callbacks S D C) (save : S) (result : Result ClientEnd JoinFault) : Type 0 where
  pub die : D
  pub cancelled : C
  pub joins : Joins answers gives hears join.cookie join.previous join.saves turns (desk old join.lines callbacks) (desk new lines (record { save = save; die = die; cancelled = cancelled })) result

-- What a client by its words remembers: whether it was last asked whether it has talked to the user.
abbrev pub Memory : Type 0
Memory = Callbacks Bool (Unit {0}) (Unit {0})

abbrev pub remembers : Bool → Memory
remembers talked = record { save = talked; die = tt; cancelled = tt }

-- it gives no reasons to close
abbrev pub NoReasons : Unit {0} → List (List ℕ) → Unit {0} → Type 0
NoReasons old reasons new = reasons ≡ []

-- and does nothing about a save that was cancelled
abbrev pub Listens : Unit {0} → Unit {0} → Type 0
Listens old new = Unit {0}

-- The client's answers are those of its words; only where memory was wanting it may have given up at some.
abbrev pub AnswersIn : Result ClientEnd JoinFault → Choices → Bool → SaveAsk → SaveAnswer → Bool → Type 0
AnswersIn (Err NoMemory) choices = MayAnswer choices
AnswersIn result choices = Answers choices

-- The client's script was followed, with the answers that the words give.
pub record JoinsBy (choices : Choices) (old new : Outside) (join : Join) (lines : List (List ℕ)) (turns : ℕ) (result : Result ClientEnd JoinFault) : Type 0 where
  pub last : Bool
  pub joins : Joins (AnswersIn result choices) NoReasons Listens join.cookie join.previous join.saves turns (desk old join.lines (remembers false)) (desk new lines (remembers last)) result
