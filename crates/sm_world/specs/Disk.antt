-- What the calls of the disk do.
use Rattle.std.specs.Prelude.{◌≡◌, ◌⊎◌, ℕ, ◌≤◌, Bool, true, false, IsTrue, List, [], ◌∷◌, length, Option, None, Some, is_some, Result, Ok, Err}
use Rattle.std.proofs.Common.{ap, sym, ◌∙◌}
use Rattle.std.proofs.lemmas.Bool.{false≢true}
use Rattle.sm_world.specs.Crash.{MayBeRead}
use Rattle.sm_world.specs.Outside.{Outside, Rose}
use Rattle.sm_world.specs.declared.effects.Effect.{Effect}
use Rattle.sm_world.specs.declared.effects.Effect.TheVariants.{Torn, SyncFailed}
use Rattle.sm_world.specs.declared.failures.Failure.{Failure}
use Rattle.sm_world.specs.declared.failures.Failure.TheVariants.{Failed, NoMemory}

-- the device refused
abbrev pub has_failed : {A : Type 0} → Result A Failure → Bool
has_failed (Ok x) = false
has_failed (Err Failed) = true
has_failed (Err NoMemory) = false

-- A failed write of n bytes adds nothing or, unless it is of one byte, that they are torn.
abbrev pub IsFailedWrite : ℕ → ℕ → List Effect → Type 0
IsFailedWrite at n effects = (effects ≡ []) ⊎ ((2 ≤ n) × (effects ≡ Torn at n ∷ []))

abbrev pub IsFailedSync : List Effect → Type 0
IsFailedSync effects = (effects ≡ []) ⊎ (effects ≡ SyncFailed ∷ [])

-- Where the world tells how its file began and its effects, these bytes may be read there.
abbrev pub MayRead : Outside → ℕ → List ℕ → Type 0
MayRead outside at bytes = (first : List ℕ) (effects : List Effect) → outside.first ≡ Some first → outside.told ≡ Some effects → MayBeRead first effects at bytes

-- The size stays, where the world tells how its file began.
abbrev pub KeepsToldSize : Outside → Outside → Type 0
KeepsToldSize old new = (first : List ℕ) → old.first ≡ Some first → new.size ≡ old.size

-- A call of Disk fails only where the count of Disk rose. It changes no other count, and nothing else that is told but the effects and the size.
pub record UsesDisk (old new : Outside) (failed : Bool) : Type 0 where
  pub cause : IsTrue failed → Rose old.faults.disk new.faults.disk
  pub disk : old.faults.disk ≤ new.faults.disk
  pub links : new.faults.links ≡ old.faults.links
  pub spawner : new.faults.spawner ≡ old.faults.spawner
  pub console : new.faults.console ≡ old.faults.console
  pub first : new.first ≡ old.first
  pub coming : new.coming ≡ old.coming
  pub input : new.input ≡ old.input
  pub files : new.files ≡ old.files

-- A file that is told had the told size when it began.
abbrev pub HasToldSize : Outside → Type 0
HasToldSize outside = (first : List ℕ) → outside.first ≡ Some first → length first ≡ outside.size

abbrev pub told_size : Option (List ℕ) → ℕ
told_size None = 0
told_size (Some first) = length first

-- a world that tells its file with its size
pub sized_by : (outside : Outside) → outside.size ≡ told_size outside.first → HasToldSize outside
sized_by outside size first told = sym (size ∙ ap told_size told)

-- a world that doesn't tell its file, whatever its size
pub untold_size : (size : ℕ) (first : List ℕ) (untold : Option (List ℕ)) → untold ≡ None → untold ≡ Some first → length first ≡ size
untold_size size first untold none told = absurd (false≢true (ap is_some (sym none ∙ told)))
