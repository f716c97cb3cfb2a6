-- What a call of the engine leaves alone of what the world tells, and the causes of its faults.
use Rattle.std.specs.Prelude.{◌≡◌, Result, Ok, Err, IfErr}
use Rattle.sm_world.specs.Outside.{Outside, Rose, NotFallen}
use Rattle.sm_world.specs.declared.failures.Faults.{Faults}
use Rattle.sm_world.specs.declared.failures.Failure.{Failure}
use Rattle.sm_world.specs.declared.failures.Failure.TheVariants.{Failed, NoMemory as OutOfMemory}
use Rattle.checkpoint_slots.specs.declared.fault.StoreFault.{StoreFault}
use Rattle.checkpoint_slots.specs.declared.fault.StoreFault.TheVariants.{WrongSize as HasWrongSize, Damaged as IsDamaged, DiskFault as FailsOnDisk, Worn as IsWorn, NoMemory as LacksMemory}
use Rattle.session_engine.specs.declared.fault.Halt.{Halt}
use Rattle.session_engine.specs.declared.fault.Halt.TheVariants.{Links, Console, Disk, Worn as WearsOut, NoMemory as WantsMemory}
use Rattle.session_engine.specs.declared.fault.ServeFault.{ServeFault}
use Rattle.session_engine.specs.declared.fault.ServeFault.TheVariants.{Damaged, WrongSize, TooManySessions, DiskFault, LinkFault, ConsoleFault, Worn, Spent, NoMemory}

-- why a call on the links did nothing
abbrev pub halt_of : Failure → Halt
halt_of Failed = Links
halt_of OutOfMemory = WantsMemory

-- why a call on the console did nothing
abbrev pub console_halt_of : Failure → Halt
console_halt_of Failed = Console
console_halt_of OutOfMemory = WantsMemory

-- a fault of a checkpoint that is written, of a store that was opened
abbrev pub IsOfCommit : StoreFault → Type 0
IsOfCommit (HasWrongSize size) = ⊥
IsOfCommit (IsDamaged at) = ⊥
IsOfCommit FailsOnDisk = Unit {0}
IsOfCommit IsWorn = Unit {0}
IsOfCommit LacksMemory = Unit {0}

-- why a checkpoint wasn't written
abbrev pub commit_halt_of : StoreFault → Halt
commit_halt_of (HasWrongSize size) = Disk
commit_halt_of (IsDamaged at) = Disk
commit_halt_of FailsOnDisk = Disk
commit_halt_of IsWorn = WearsOut
commit_halt_of LacksMemory = WantsMemory

-- why the store couldn't be opened
abbrev pub opening_fault_of : StoreFault → ServeFault
opening_fault_of (HasWrongSize size) = WrongSize size
opening_fault_of (IsDamaged at) = Damaged at
opening_fault_of FailsOnDisk = DiskFault
opening_fault_of IsWorn = Worn
opening_fault_of LacksMemory = NoMemory

-- the fault of a run that was halted
abbrev pub fault_of : Halt → ServeFault
fault_of Links = LinkFault
fault_of Console = ConsoleFault
fault_of Disk = DiskFault
fault_of WearsOut = Worn
fault_of WantsMemory = NoMemory

-- a device halts a run only where its count rose
abbrev pub IsCaused : Faults → Faults → Halt → Type 0
IsCaused old new Links = Rose old.links new.links
IsCaused old new Console = Rose old.console new.console
IsCaused old new Disk = Rose old.disk new.disk
IsCaused old new WearsOut = Unit {0}
IsCaused old new WantsMemory = Unit {0}

-- the store isn't worn
abbrev pub IsNotWorn : {A : Type 0} → Result A Halt → Type 0
IsNotWorn (Ok x) = Unit {0}
IsNotWorn (Err Links) = Unit {0}
IsNotWorn (Err Console) = Unit {0}
IsNotWorn (Err Disk) = Unit {0}
IsNotWorn (Err WearsOut) = ⊥
IsNotWorn (Err WantsMemory) = Unit {0}

-- the faults of a run that the devices cause
abbrev pub HasCause : Faults → Faults → ServeFault → Type 0
HasCause old new (Damaged at) = Unit {0}
HasCause old new (WrongSize size) = Unit {0}
HasCause old new TooManySessions = Unit {0}
HasCause old new DiskFault = Rose old.disk new.disk
HasCause old new LinkFault = Rose old.links new.links
HasCause old new ConsoleFault = Rose old.console new.console
HasCause old new Worn = Unit {0}
HasCause old new Spent = Unit {0}
HasCause old new NoMemory = Unit {0}

-- a fault that comes behind the recovery of the store
abbrev pub IsOfRun : ServeFault → Type 0
IsOfRun (Damaged at) = ⊥
IsOfRun (WrongSize size) = ⊥
IsOfRun TooManySessions = ⊥
IsOfRun DiskFault = Unit {0}
IsOfRun LinkFault = Unit {0}
IsOfRun ConsoleFault = Unit {0}
IsOfRun Worn = Unit {0}
IsOfRun Spent = Unit {0}
IsOfRun NoMemory = Unit {0}

-- what halts a run as the next event is to be heard
abbrev pub IsOfHearing : Halt → Type 0
IsOfHearing Links = Unit {0}
IsOfHearing Console = ⊥
IsOfHearing Disk = ⊥
IsOfHearing WearsOut = ⊥
IsOfHearing WantsMemory = Unit {0}

-- no count of faults fell, and a halt has its cause
pub record KeepsCounts {A : Type 0} (old new : Faults) (result : Result A Halt) : Type 0 where
  pub counts : NotFallen old new
  pub cause : IfErr result (IsCaused old new)

-- None of the events to come was heard, nothing of the input was read, the store has its size still and began as it did, no count of faults fell, and a halt has its cause.
pub record HearsNone {A : Type 0} (old new : Outside) (result : Result A Halt) : Type 0 where
  pub coming : new.coming ≡ old.coming
  pub input : new.input ≡ old.input
  pub first : new.first ≡ old.first
  pub size : new.size ≡ old.size
  pub counts : KeepsCounts old.faults new.faults result
