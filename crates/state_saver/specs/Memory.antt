-- What files in memory tell.
use Rattle.std.specs.Prelude.{◌≡◌, ◌↔◌, ◌⊎◌, ℕ, Bool, false, IsTrue, nat_le, List, [], Option, Some, None, length, Contains}
use Rattle.sm_world.specs.Outside.{Outside}
use Rattle.sm_world.specs.Calls.{Numbered, counted, counted_if}
use Rattle.sm_world.specs.declared.failures.Faults.{Faults}
use Rattle.state_saver.specs.Files.{Fetched, file_now}
use Rattle.state_saver.specs.declared.memory.MemFiles.{MemFiles}

-- They have no store and no events, and the input of the console is empty.
abbrev pub mem_outside : MemFiles → Outside
mem_outside world = record {
  told = Some world.effects;
  faults = world.faults;
  size = 0;
  first = None;
  coming = None;
  input = Some [];
  files = Some world.files;
}

abbrev pub mem_fetched : MemFiles → Fetched
mem_fetched world = Some world.fetched

abbrev pub mem_calls : MemFiles → Numbered
mem_calls world = world.calls

-- the last call has a number that is told to fail
abbrev pub IsTold : MemFiles → Type 0
IsTold world = Contains (mem_calls world).failing (mem_calls world).last

-- Exactly the calls fail for which there is this cause, and the device's own count rises exactly there, by one. Each call is counted.
pub record Fails (cause : Type 0) (count : Faults → ℕ) (old new : MemFiles) (failed : Bool) : Type 0 where
  pub counts_call : mem_calls new ≡ counted (mem_calls old)
  pub fails : IsTrue failed ↔ cause
  pub counts_fault : count (mem_outside new).faults ≡ counted_if failed (count (mem_outside old).faults)

abbrev pub FailsByNumber : (Faults → ℕ) → MemFiles → MemFiles → Bool → Type 0
FailsByNumber count old new failed = Fails (IsTold new) count old new failed

-- a file that is there and not too long
abbrev pub fits : Option (List ℕ) → Bool
fits None = false
fits (Some bytes) = nat_le (length bytes) 65536

-- A fetch fails besides where there is no file at the path that can be fetched.
abbrev pub FailsToFetch : List ℕ → MemFiles → MemFiles → Bool → Type 0
FailsToFetch path old new failed = Fails (IsTold new ⊎ (fits (file_now path old.files old.effects) ≡ false)) (λ faults. faults.disk) old new failed
