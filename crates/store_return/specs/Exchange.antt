-- One commit over the turn of a store that is held.
use Rattle.std.specs.Prelude.{◌≡◌, ◌≢◌, ℕ, ◌^◌, List, [], ◌++◌, Option, Result, IfErr, IfOk}
use Rattle.std.specs.List.{AllByRecursion}
use Rattle.sm_world.specs.declared.effects.Effect.{Effect}
use Rattle.checkpoint_records.specs.declared.records.Book.{Book}
use Rattle.checkpoint_slots.specs.Turns.{IsOfStore, SteadyStands, Swap, next_generation}
use Rattle.checkpoint_slots.specs.declared.fault.StoreFault.{StoreFault}
use Rattle.checkpoint_slots.specs.declared.fault.StoreFault.TheVariants.{WrongSize, Damaged, DiskFault, Worn, NoMemory}
use Rattle.checkpoint_slots.specs.declared.turn.Current.{Current}

-- Its effects are the store's. At each of them every file that a crash may leave has the old book or the new one, and at Ok the new one.
-- Where it fails, and not because of the disk, nothing was written.
pub record Exchanges (current : Option Current) (old new : Book) (result : Result (Option Current) StoreFault) (added : List Effect) : Type 0 where
  pub store : AllByRecursion IsOfStore added
  pub swap : (first : List ℕ) (before : List Effect) → SteadyStands current old first before → Swap first before added old new
  pub turn : (first : List ℕ) (before : List Effect) → SteadyStands current old first before → IfOk result (λ next. SteadyStands next new first (before ++ added))
  pub untouched : IfErr result (λ fault. fault ≢ DiskFault → added ≡ [])

-- Why it fails: the disk does, or there is no number for one generation more, or memory is wanting.
abbrev pub IsWhyNotExchanged : Option Current → StoreFault → Type 0
IsWhyNotExchanged current (WrongSize size) = ⊥
IsWhyNotExchanged current (Damaged at) = ⊥
IsWhyNotExchanged current DiskFault = Unit {0}
IsWhyNotExchanged current Worn = next_generation current ≡ 2 ^ 64
IsWhyNotExchanged current NoMemory = Unit {0}
