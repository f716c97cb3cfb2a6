-- What the worlds in memory tell.
use Rattle.std.specs.Prelude.{◌≡◌, ◌↔◌, ◌⊎◌, ℕ, Bool, false, IsTrue, nat_le, if◌then◌else◌, List, [], ◌∷◌, ◌++◌, length, Some, None, Contains}
use Rattle.std.proofs.Common.{refl}
use Rattle.sm_world.specs.Disk.{HasToldSize, sized_by}
use Rattle.sm_world.specs.Outside.{Outside, adds}
use Rattle.sm_world.specs.Calls.{Numbered, counted, one_more, counted_if}
use Rattle.sm_world.specs.declared.steady.SteadyWorld.{SteadyWorld}
use Rattle.sm_world.specs.declared.memory.MemWorld.{MemWorld}
use Rattle.sm_world.specs.declared.effects.Effect.{Effect}
use Rattle.sm_world.specs.declared.effects.Effect.TheVariants.{Torn}
use Rattle.sm_world.specs.declared.failures.Faults.{Faults}

-- The count of the disk rises where a call was not recorded. No other count rises.
abbrev pub steady_outside : SteadyWorld → Outside
steady_outside world = record {
  told = Some world.tape.effects;
  faults = record { disk = world.unrecorded; links = 0; spawner = 0; console = 0 };
  size = length world.tape.first;
  first = Some world.tape.first;
  coming = Some world.tape.coming;
  input = Some world.tape.input;
  files = None;
}

pub steady_sized : (world : SteadyWorld) → HasToldSize (steady_outside world)
steady_sized world = sized_by (steady_outside world) refl

abbrev pub steady_file : SteadyWorld → List ℕ
steady_file world = world.tape.file

abbrev pub steady_unrecorded : SteadyWorld → ℕ
steady_unrecorded world = world.unrecorded

abbrev pub mem_outside : MemWorld → Outside
mem_outside world = record {
  told = Some world.tape.effects;
  faults = world.faults;
  size = length world.tape.first;
  first = Some world.tape.first;
  coming = Some world.tape.coming;
  input = Some world.tape.input;
  files = None;
}

pub mem_sized : (world : MemWorld) → HasToldSize (mem_outside world)
mem_sized world = sized_by (mem_outside world) refl

abbrev pub mem_file : MemWorld → List ℕ
mem_file world = world.tape.file

abbrev pub mem_calls : MemWorld → Numbered
mem_calls world = world.calls

abbrev pub mem_unrecorded : MemWorld → ℕ
mem_unrecorded world = world.unrecorded

-- Exactly the calls fail whose numbers are told to fail, and the device's own count rises exactly there, by one. Each call is counted, and none changes the file.
pub record FailsByNumber (count : Faults → ℕ) (old new : MemWorld) (failed : Bool) : Type 0 where
  pub counts_call : mem_calls new ≡ counted (mem_calls old)
  pub fails : IsTrue failed ↔ Contains (mem_calls new).failing (mem_calls new).last
  pub counts_fault : count (mem_outside new).faults ≡ counted_if failed (count (mem_outside old).faults)
  pub unrecorded : mem_unrecorded new ≡ mem_unrecorded old
  pub file : mem_file new ≡ mem_file old

-- A call that has to be recorded fails where its number is told to fail or where there was no memory to record it, and nowhere else. The count of the disk rises exactly there, by one.
pub record FailsUnrecorded (old new : MemWorld) (failed : Bool) : Type 0 where
  pub counts_call : mem_calls new ≡ counted (mem_calls old)
  pub by_number : Contains (mem_calls new).failing (mem_calls new).last → IsTrue failed
  pub by_memory : failed ≡ false → mem_unrecorded new ≡ mem_unrecorded old
  pub cause : IsTrue failed → Contains (mem_calls new).failing (mem_calls new).last ⊎ (mem_unrecorded new ≡ one_more (mem_unrecorded old))
  pub counts_fault : (mem_outside new).faults.disk ≡ counted_if failed (mem_outside old).faults.disk

-- what a failed write of n bytes leaves behind, where there is memory to record it
abbrev pub torn_effects : ℕ → ℕ → List Effect
torn_effects at n = if nat_le 2 n then Torn at n ∷ [] else []

-- A failed call added these effects, or there was no memory to record it. It changed no byte.
pub record RecordsFailure (effects : List Effect) (old new : MemWorld) : Type 0 where
  pub told : (((mem_outside new).told ≡ adds (mem_outside old).told effects) × (mem_unrecorded new ≡ mem_unrecorded old)) ⊎ (((mem_outside new).told ≡ (mem_outside old).told) × (mem_unrecorded new ≡ one_more (mem_unrecorded old)))
  pub file : mem_file new ≡ mem_file old

-- A failed call was counted before, and is now recorded by these effects where there is memory for them.
abbrev pub NotesFailure : List Effect → MemWorld → MemWorld → Type 0
NotesFailure effects old new =
    (new ≡ record old { tape = record old.tape { effects = old.tape.effects ++ effects } }) ⊎ (new ≡ record old { unrecorded = one_more old.unrecorded })
