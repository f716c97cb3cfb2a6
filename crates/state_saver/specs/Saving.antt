-- What a save does to the files, and what it answers.
use Rattle.std.specs.Prelude.{◌≡◌, ◌⊎◌, ◌+◌, ◌-◌, ◌^◌, ◌<◌, ◌==◌, ◌&&◌, ℕ, Bool, false, true, not, nat_le, List, [], ◌∷◌, length, Option, None, Some, Result, Ok, Err}
use Rattle.std.specs.List.{list_any}
use Rattle.sm_world.specs.Disk.{UsesDisk}
use Rattle.sm_world.specs.Outside.{Outside, Rose, adds}
use Rattle.sm_world.specs.declared.effects.Effect.{Effect}
use Rattle.sm_world.specs.declared.effects.Effect.TheVariants.{Published}
use Rattle.sm_world.specs.declared.failures.Failure.{Failure}
use Rattle.owned_lists.specs.declared.failures.NoMemory.{NoMemory}
use Rattle.client_machine.specs.declared.saves.SaveAnswer.{SaveAnswer}
use Rattle.client_machine.specs.declared.saves.Stage.{Stage}
use Rattle.client_machine.specs.declared.saves.Stage.TheVariants.{First, Second, Talking, TalkingTwo}
use Rattle.client_machine.specs.declared.saves.Step.TheVariants.{Done, Talked}
use Rattle.named_joiner.specs.declared.callbacks.NamedAsk.{NamedAsk}
use Rattle.state_saver.specs.Files.{Fetched, Holds, fetches}
use Rattle.state_saver.specs.Plans.{copy_path, own_properties}
use Rattle.state_saver.specs.declared.plan.SavePlan.{SavePlan}

-- the client couldn't save
abbrev pub gives_up : SaveAnswer
gives_up = record { set = []; step = Done false }

-- it talked to the user, who cancels nothing
abbrev pub talks : SaveAnswer
talks = record { set = []; step = Talked false }

-- the number of the last copy, and the outside of the files
pub record Shelf : Type 0 where
  pub number : ℕ
  pub outside : Outside

abbrev pub shelf : ℕ → Outside → Shelf
shelf number outside = record { number = number; outside = outside }

-- At Ok what the state's file held was published at this path, and else nothing was.
abbrev pub CopiesTo : List ℕ → List ℕ → Outside → Outside → Result (Unit {0}) Failure → Type 0
CopiesTo state path old new (Ok x) = (bytes : List ℕ) × Holds old state bytes × (new.told ≡ adds old.told (Published path bytes ∷ []))
CopiesTo state path old new (Err e) = new.told ≡ old.told

-- An ID that a command can name: 1 to 512 bytes without NUL.
abbrev pub is_name : List ℕ → Bool
is_name id = not (length id == 0) && (nat_le (length id) 512 && not (list_any (λ b. b == 0) id))

-- There are no numbers left, or no command can name the ID.
abbrev pub IsAtEnd : ℕ → List ℕ → Type 0
IsAtEnd number id = (number ≡ 2 ^ 32 - 1) ⊎ (is_name id ≡ false)

-- There is a number more, and a command can name the ID.
pub record IsNext (old new : ℕ) (id : List ℕ) : Type 0 where
  pub room : old < 2 ^ 32 - 1
  pub name : is_name id ≡ true
  pub raised : new ≡ old + 1

-- What the state's file held was published under the new number, and the client says so.
pub record Copies (plan : SavePlan) (id : List ℕ) (old new : Shelf) (answer : SaveAnswer) : Type 0 where
  pub next : IsNext old.number new.number id
  pub bytes : List ℕ
  pub held : Holds old.outside plan.state bytes
  pub told : new.outside.told ≡ adds old.outside.told (Published (copy_path plan.state new.number) bytes ∷ [])
  pub says : answer ≡ record { set = own_properties plan new.number id; step = Done true }

-- The disk refused, and nothing was published.
pub record Misses (id : List ℕ) (old new : Shelf) (answer : SaveAnswer) : Type 0 where
  pub next : IsNext old.number new.number id
  pub told : new.outside.told ≡ old.outside.told
  pub rose : Rose old.outside.faults.disk new.outside.faults.disk
  pub says : answer ≡ gives_up

-- There is no number for a copy, and nothing was done.
pub record Refuses (id : List ℕ) (old new : Shelf) (answer : SaveAnswer) : Type 0 where
  pub at_end : IsAtEnd old.number id
  pub same : new ≡ old
  pub says : answer ≡ gives_up

-- what is told of files: what was fetched, and the effects
pub record Trail : Type 0 where
  pub fetched : Fetched
  pub effects : Option (List Effect)

abbrev pub trail : Fetched → Outside → Trail
trail fetched outside = record { fetched = fetched; effects = outside.told }

-- The state was fetched, and what that gave was published at this path: whoever else writes the file.
pub record PassesOn (state path : List ℕ) (old new : Trail) : Type 0 where
  pub bytes : List ℕ
  pub fetched : new.fetched ≡ fetches old.fetched state (Ok bytes)
  pub published : new.effects ≡ adds old.effects (Published path bytes ∷ [])

-- A save that succeeded passed on what it fetched, under its number.
abbrev pub PassesOnAt : Result SaveAnswer NoMemory → SavePlan → ℕ → Trail → Trail → Type 0
PassesOnAt (Ok answer) plan number old new = answer.step ≡ Done true → PassesOn plan.state (copy_path plan.state number) old new
PassesOnAt (Err e) plan number old new = Unit {0}

-- Nothing is done while the client talks to the user.
pub record Talks (old new : Shelf) (answer : SaveAnswer) : Type 0 where
  pub same : new ≡ old
  pub says : answer ≡ talks

abbrev pub Saves : SavePlan → List ℕ → Shelf → Shelf → SaveAnswer → Type 0
Saves plan id old new answer = Copies plan id old new answer ⊎ (Misses id old new answer ⊎ Refuses id old new answer)

abbrev pub AnswersAt : Stage → SavePlan → List ℕ → Shelf → Shelf → SaveAnswer → Type 0
AnswersAt First plan id old new answer = Saves plan id old new answer
AnswersAt Second plan id old new answer = Saves plan id old new answer
AnswersAt Talking plan id old new answer = Talks old new answer
AnswersAt TalkingTwo plan id old new answer = Talks old new answer

-- Memory was wanting: nothing was published, and the number is the same or used up.
pub record Starves (old new : Shelf) : Type 0 where
  pub told : new.outside.told ≡ old.outside.told
  pub number : (new.number ≡ old.number) ⊎ (new.number ≡ old.number + 1)

-- A save was tried, which changes nothing else but the disk's count.
abbrev pub Tried : Result SaveAnswer NoMemory → SavePlan → List ℕ → Shelf → Shelf → Type 0
Tried (Ok answer) plan id old new = Saves plan id old new answer × UsesDisk old.outside new.outside false
Tried (Err e) plan id old new = Starves old new × UsesDisk old.outside new.outside false

-- What a save did, at any stage. None says that memory was wanting.
abbrev pub AnswersSo : Option SaveAnswer → SavePlan → NamedAsk → Shelf → Shelf → Type 0
AnswersSo (Some answer) plan ask old new = AnswersAt ask.ask.stage plan ask.id old new answer × UsesDisk old.outside new.outside false
AnswersSo None plan ask old new = Starves old new × UsesDisk old.outside new.outside false

abbrev pub Answers : Result SaveAnswer NoMemory → SavePlan → NamedAsk → Shelf → Shelf → Type 0
Answers (Ok answer) plan ask old new = AnswersSo (Some answer) plan ask old new
Answers (Err e) plan ask old new = AnswersSo None plan ask old new
