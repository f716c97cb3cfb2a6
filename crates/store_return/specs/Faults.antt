-- The faults of a restore: where each comes from, its status and its line.
use Rattle.std.specs.Prelude.{ℕ, List, ◌++◌, codes, Option, Some, None}
use Rattle.std.specs.Fmt.{decimal}
use Rattle.sm_world.specs.declared.failures.Failure.{Failure}
use Rattle.sm_world.specs.declared.failures.Failure.TheVariants.{Failed, NoMemory as DeviceMemory}
use Rattle.program_frame.specs.Printing.{line}
use Rattle.checkpoint_slots.specs.declared.fault.StoreFault.{StoreFault}
use Rattle.checkpoint_slots.specs.declared.fault.StoreFault.TheVariants.{WrongSize as HasWrongSize, Damaged as IsDamaged, DiskFault, Worn as IsWorn, NoMemory as StoreMemory}
use Rattle.session_return.specs.declared.obstacles.Obstacle.{Obstacle}
use Rattle.session_return.specs.declared.obstacles.Obstacle.TheVariants.{NoSession, Clash, TooManyEntries, TooManySessions, Worn as NoEpoch}
use Rattle.session_return.specs.declared.obstacles.Refusal.{Refusal}
use Rattle.session_return.specs.declared.obstacles.Refusal.TheVariants.{Stopped as IsStopped, NoMemory as BookMemory}
use Rattle.store_return.specs.declared.faults.Fault.{Fault}
use Rattle.store_return.specs.declared.faults.Fault.TheVariants.{BadWords, KeptDamaged, KeptSize, Damaged, WrongSize, Stopped, Disk, Console, Worn, NoMemory}

-- why a call on the disk did nothing
abbrev pub disk_fault : Failure → Fault
disk_fault Failed = Disk
disk_fault DeviceMemory = NoMemory

-- why a call on the console did nothing
abbrev pub console_fault : Failure → Fault
console_fault Failed = Console
console_fault DeviceMemory = NoMemory

-- why the store wasn't opened, or isn't written
abbrev pub store_fault : StoreFault → Fault
store_fault (HasWrongSize size) = WrongSize size
store_fault (IsDamaged at) = Damaged at
store_fault DiskFault = Disk
store_fault IsWorn = Worn
store_fault StoreMemory = NoMemory

-- why no book is given
abbrev pub return_fault : Refusal → Fault
return_fault (IsStopped obstacle) = Stopped obstacle
return_fault BookMemory = NoMemory

abbrev pub obstacle_status : Obstacle → ℕ
obstacle_status NoSession = 16
obstacle_status Clash = 16
obstacle_status TooManyEntries = 16
obstacle_status TooManySessions = 12
obstacle_status NoEpoch = 8

abbrev pub obstacle_words : Obstacle → List ℕ
obstacle_words NoSession = codes "smd: no such session"
obstacle_words Clash = codes "smd: an ID is another session's"
obstacle_words TooManyEntries = codes "smd: too many entries"
obstacle_words TooManySessions = codes "smd: too many sessions"
obstacle_words NoEpoch = codes "smd: store worn"

abbrev pub fault_status : Fault → ℕ
fault_status BadWords = 1
fault_status (KeptDamaged at) = 15
fault_status (KeptSize size) = 15
fault_status (Damaged at) = 2
fault_status (WrongSize size) = 3
fault_status (Stopped obstacle) = obstacle_status obstacle
fault_status Disk = 4
fault_status Console = 6
fault_status Worn = 8
fault_status NoMemory = 10

abbrev pub fault_line : Fault → Option (List ℕ)
fault_line BadWords = Some (line (codes "smd: bad words"))
fault_line (KeptDamaged at) = Some (line (codes "smd: kept damaged at " ++ decimal at))
fault_line (KeptSize size) = Some (line (codes "smd: kept has size " ++ decimal size))
fault_line (Damaged at) = Some (line (codes "smd: store damaged at " ++ decimal at))
fault_line (WrongSize size) = Some (line (codes "smd: store has size " ++ decimal size))
fault_line (Stopped obstacle) = Some (line (obstacle_words obstacle))
fault_line Disk = Some (line (codes "smd: disk fault"))
fault_line Console = None
fault_line Worn = Some (line (codes "smd: store worn"))
fault_line NoMemory = Some (line (codes "smd: no memory"))
