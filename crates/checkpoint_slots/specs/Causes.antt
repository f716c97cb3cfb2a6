-- When a fault of the store comes.
use Rattle.std.specs.Prelude.{Bool, Err, IsTrue, List, Ok, Result, Some, false, length, slice_index, true, ℕ, ◌<◌, ◌^◌, ◌+◌, ◌≡◌, ◌≢◌}
use Rattle.sm_world.specs.Crash.{cell_of}
use Rattle.sm_world.specs.Disk.{UsesDisk}
use Rattle.sm_world.specs.Outside.{Outside}
use Rattle.sm_world.specs.declared.effects.Effect.{Effect}
use Rattle.checkpoint_slots.specs.declared.fault.StoreFault.{StoreFault}
use Rattle.checkpoint_slots.specs.declared.fault.StoreFault.TheVariants.{Damaged, DiskFault, NoMemory, Worn, WrongSize}
use Rattle.checkpoint_changes.specs.Amendments.{SlotDamaged}
use Rattle.checkpoint_slots.specs.declared.layout.Slot.TheVariants.{First, Second}
use Rattle.checkpoint_slots.specs.Layout.{is_open, store_size}
use Rattle.checkpoint_slots.specs.Recovery.{Recovers}

-- No byte of the store is in doubt: what a read gives, and all that a crash may leave, is this file.
pub record IsSettled (outside : Outside) (file : List ℕ) : Type 0 where
  pub began : List ℕ
  pub effects : List Effect
  pub first : outside.first ≡ Some began
  pub told : outside.told ≡ Some effects
  pub size : length file ≡ length began
  pub reads : (i : ℕ) → i < length began → (cell_of began effects i).reads ≡ Some (slice_index file i)
  pub left : (i byte : ℕ) → i < length began → IsTrue ((cell_of began effects i).left byte) → byte ≡ slice_index file i

abbrev pub is_disk_fault : {A : Type 0} → Result A StoreFault → Bool
is_disk_fault (Ok x) = false
is_disk_fault (Err (WrongSize size)) = false
is_disk_fault (Err (Damaged at)) = false
is_disk_fault (Err DiskFault) = true
is_disk_fault (Err Worn) = false
is_disk_fault (Err NoMemory) = false

-- Why recovery fails, where the size that the disk tells then is this one: the size first, then the damage.
abbrev pub IsRecoveryFault : Outside → ℕ → StoreFault → Type 0
IsRecoveryFault outside told (WrongSize size) = (size ≡ told) × (size ≢ store_size)
IsRecoveryFault outside told (Damaged at) = (told ≡ store_size) × ((file : List ℕ) → IsSettled outside file → Recovers file (Err at))
IsRecoveryFault outside told DiskFault = Unit {0}
IsRecoveryFault outside told Worn = ⊥
IsRecoveryFault outside told NoMemory = Unit {0}

-- why a book isn't spelled: there is no number for its generation, or want of memory
abbrev pub IsSpellFault : ℕ → StoreFault → Type 0
IsSpellFault next (WrongSize size) = ⊥
IsSpellFault next (Damaged at) = ⊥
IsSpellFault next DiskFault = ⊥
IsSpellFault next Worn = next ≡ 2 ^ 64
IsSpellFault next NoMemory = Unit {0}

-- A call that only looked: nothing was added to the effects, and the store has its size still.
pub record Looks (old new : Outside) (failed : Bool) : Type 0 where
  pub told : new.told ≡ old.told
  pub size : new.size ≡ old.size
  pub uses : UsesDisk old new failed

-- What a look at the store told, where no byte of it was in doubt.
abbrev pub Tells : {A E : Type 0} → Outside → (List ℕ → A → Type 0) → Result A E → Type 0
Tells outside P (Ok x) = (file : List ℕ) → IsSettled outside file → P file x
Tells outside P (Err e) = Unit {0}

-- what was found, or where the damage is
abbrev pub Finds : {A : Type 0} → Outside → (List ℕ → A → Type 0) → (List ℕ → ℕ → Type 0) → Result A StoreFault → Type 0
Finds outside P D (Ok x) = (file : List ℕ) → IsSettled outside file → P file x
Finds outside P D (Err (Damaged at)) = (file : List ℕ) → IsSettled outside file → D file at
Finds outside P D (Err (WrongSize size)) = ⊥
Finds outside P D (Err DiskFault) = Unit {0}
Finds outside P D (Err Worn) = ⊥
Finds outside P D (Err NoMemory) = Unit {0}

abbrev pub Never : Type 0
Never = ⊥

-- both gates are open
abbrev pub AreOpen : List ℕ → Type 0
AreOpen file = (is_open file First ≡ true) × (is_open file Second ≡ true)

-- why bytes behind the head of a slot, which lie at a place of the file and begin with a book of n bytes, aren't read
abbrev pub IsBookFault : ℕ → List ℕ → ℕ → StoreFault → Type 0
IsBookFault at bytes n (WrongSize size) = ⊥
IsBookFault at bytes n (Damaged place) = (damage : ℕ) × SlotDamaged bytes n damage × (place ≡ at + damage)
IsBookFault at bytes n DiskFault = ⊥
IsBookFault at bytes n Worn = ⊥
IsBookFault at bytes n NoMemory = Unit {0}
