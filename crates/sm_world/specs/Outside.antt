-- What a world tells, and what the calls of its traits do to that.
use Rattle.std.specs.Prelude.{◌≡◌, ◌⊎◌, ℕ, Bool, false, ◌-◌, ◌^◌, ◌<◌, ◌≤◌, List, [], ◌∷◌, ◌++◌, length, take, drop, Option, None, Some, Result, Ok, Err, IsErrOf}
use Rattle.sm_world.specs.Events.{next_of}
use Rattle.sm_world.specs.declared.effects.Effect.{Effect}
use Rattle.sm_world.specs.declared.events.Event.{Event}
use Rattle.sm_world.specs.declared.failures.Failure.{Failure}
use Rattle.owned_lists.specs.declared.failures.NoMemory.{NoMemory}
use Rattle.sm_world.specs.declared.failures.Failure.TheVariants.{Failed}
use Rattle.sm_world.specs.declared.failures.Faults.{Faults}

-- All that a world tells. A part that is None is left untold.
pub record Outside : Type 0 where
  -- the effects so far
  pub told : Option (List Effect)
  -- how often the devices of each trait have failed so far
  pub faults : Faults
  -- the size of the store, and the bytes with which it began
  pub size : ℕ
  pub first : Option (List ℕ)
  -- the events to come
  pub coming : Option (List Event)
  -- what is left of the console's input
  pub input : Option (List ℕ)
  -- the files that a client can fetch: paths and bytes
  pub files : Option (List (List ℕ × List ℕ))

-- these effects were added, where the world tells its effects
abbrev pub adds : Option (List Effect) → List Effect → Option (List Effect)
adds None effects = None
adds (Some told) effects = Some (told ++ effects)

-- the effects of a call that has these at Ok and none at an error
abbrev pub on_ok : {A E : Type 0} → Result A E → List Effect → List Effect
on_ok (Ok x) effects = effects
on_ok (Err e) effects = []

-- the effect that a call's Ok gives, and none at an error
abbrev pub of_ok : {A E : Type 0} → (A → Effect) → Result A E → List Effect
of_ok effect (Ok x) = effect x ∷ []
of_ok effect (Err e) = []

-- Some list of effects was added, and it is such that P holds. Where the world tells, it is the list that the world tells.
pub record Added (old new : Option (List Effect)) (P : List Effect → Type 0) : Type 0 where
  pub effects : List Effect
  pub added : new ≡ adds old effects
  pub holds : P effects

-- A count rose, or stands at the largest number.
abbrev pub Rose : ℕ → ℕ → Type 0
Rose before after = (before < after) ⊎ (after ≡ 2 ^ 64 - 1)

-- no count fell
pub record NotFallen (old new : Faults) : Type 0 where
  pub disk : old.disk ≤ new.disk
  pub links : old.links ≤ new.links
  pub spawner : old.spawner ≤ new.spawner
  pub console : old.console ≤ new.console

-- What no call of Links, Spawner or Console changes: the store, and the files of a peer.
pub record KeepsFiles (old new : Outside) : Type 0 where
  pub size : new.size ≡ old.size
  pub first : new.first ≡ old.first
  pub files : new.files ≡ old.files

-- A call of Links fails only where the count of Links rose. It changes no other count, and nothing else that is told but the effects and the events to come.
pub record UsesLinks {A : Type 0} (old new : Outside) (result : Result A Failure) : Type 0 where
  pub cause : IsErrOf result Failed → Rose old.faults.links new.faults.links
  pub links : old.faults.links ≤ new.faults.links
  pub disk : new.faults.disk ≡ old.faults.disk
  pub spawner : new.faults.spawner ≡ old.faults.spawner
  pub console : new.faults.console ≡ old.faults.console
  pub kept : KeepsFiles old new
  pub input : new.input ≡ old.input

-- A command isn't started only where the count of Spawner rose. A call changes no other count, and nothing else that is told but the effects.
pub record UsesSpawner (old new : Outside) (result : Result Bool NoMemory) : Type 0 where
  pub cause : result ≡ Ok false → Rose old.faults.spawner new.faults.spawner
  pub spawner : old.faults.spawner ≤ new.faults.spawner
  pub disk : new.faults.disk ≡ old.faults.disk
  pub links : new.faults.links ≡ old.faults.links
  pub console : new.faults.console ≡ old.faults.console
  pub kept : KeepsFiles old new
  pub coming : new.coming ≡ old.coming
  pub input : new.input ≡ old.input

-- A call of Console fails only where the count of Console rose. It changes no other count, and nothing else that is told but the effects and the input.
pub record UsesConsole {A : Type 0} (old new : Outside) (result : Result A Failure) : Type 0 where
  pub cause : IsErrOf result Failed → Rose old.faults.console new.faults.console
  pub console : old.faults.console ≤ new.faults.console
  pub disk : new.faults.disk ≡ old.faults.disk
  pub links : new.faults.links ≡ old.faults.links
  pub spawner : new.faults.spawner ≡ old.faults.spawner
  pub kept : KeepsFiles old new
  pub coming : new.coming ≡ old.coming

-- The first of the events to come was taken away and answered, or End where there was none. A refused call takes none.
abbrev pub TakesNext : {E : Type 0} → Option (List Event) → Option (List Event) → Result Event E → Type 0
TakesNext None after result = after ≡ None
TakesNext (Some coming) after (Err e) = after ≡ Some coming
TakesNext (Some coming) after (Ok event) = (event ≡ next_of coming) × (after ≡ Some (drop 1 coming))

-- The first n bytes of the input went into the buffer, whose rest is as it was. There were none only where the input is at its end or the buffer has no room.
pub record Fills (input left : List ℕ) (n : ℕ) (old new : List ℕ) : Type 0 where
  pub taken : input ≡ take n new ++ left
  pub rest : drop n new ≡ drop n old
  pub at_end : n ≡ 0 → 0 < length old → input ≡ []

-- What a read does to the input that is left and to its buffer. A refused read takes nothing.
abbrev pub Reads : {E : Type 0} → Option (List ℕ) → Option (List ℕ) → List ℕ → List ℕ → Result ℕ E → Type 0
Reads None after old new result = after ≡ None
Reads (Some input) after old new (Err e) = after ≡ Some input
Reads (Some input) after old new (Ok n) = (left : List ℕ) × (after ≡ Some left) × Fills input left n old new
