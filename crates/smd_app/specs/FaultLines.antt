-- The faults of the program: where each comes from, its status and its line.
use Rattle.std.specs.Prelude.{ℕ, List, ◌++◌, codes, Option, Some, None, Result, Ok, Err}
use Rattle.std.specs.Fmt.{decimal}
use Rattle.sm_world.specs.declared.failures.Failure.{Failure}
use Rattle.sm_world.specs.declared.failures.Failure.TheVariants.{Failed, NoMemory as DeviceMemory}
use Rattle.program_frame.specs.Printing.{line}
use Rattle.session_engine.specs.declared.fault.ServeFault.{ServeFault}
use Rattle.session_engine.specs.declared.fault.ServeFault.TheVariants.{Damaged as IsDamaged, WrongSize as HasWrongSize, TooManySessions as HasTooMany, DiskFault, LinkFault, ConsoleFault, Worn as IsWorn, Spent as HasSpent, NoMemory as WantsMemory}
use Rattle.smd_app.specs.declared.script.ScriptFault.{ScriptFault}
use Rattle.smd_app.specs.declared.script.ScriptFault.TheVariants.{BadLine as FirstBadLine, NoMemory as ScriptMemory}
use Rattle.smd_app.specs.declared.fault.Fault.{Fault}
use Rattle.smd_app.specs.declared.fault.Fault.TheVariants.{BadWords, Damaged, WrongSize, TooManySessions, Disk, Links, Console, BadLine, Worn, Spent, NoMemory}

-- why a call on the disk did nothing
abbrev pub disk_fault : Failure → Fault
disk_fault Failed = Disk
disk_fault DeviceMemory = NoMemory

-- why a call on the links did nothing
abbrev pub link_fault : Failure → Fault
link_fault Failed = Links
link_fault DeviceMemory = NoMemory

-- why a call on the console did nothing
abbrev pub console_fault : Failure → Fault
console_fault Failed = Console
console_fault DeviceMemory = NoMemory

abbrev pub script_fault : ScriptFault → Fault
script_fault (FirstBadLine n) = BadLine n
script_fault ScriptMemory = NoMemory

-- why a session ended before its time
abbrev pub served_fault : ServeFault → Fault
served_fault (IsDamaged at) = Damaged at
served_fault (HasWrongSize size) = WrongSize size
served_fault HasTooMany = TooManySessions
served_fault DiskFault = Disk
served_fault LinkFault = Links
served_fault ConsoleFault = Console
served_fault IsWorn = Worn
served_fault HasSpent = Spent
served_fault WantsMemory = NoMemory

-- how a call ends whose session ended so
abbrev pub served : Result (Unit {0}) ServeFault → Result (Unit {0}) Fault
served (Ok x) = Ok tt
served (Err fault) = Err (served_fault fault)

abbrev pub fault_status : Fault → ℕ
fault_status BadWords = 1
fault_status (Damaged at) = 2
fault_status (WrongSize size) = 3
fault_status TooManySessions = 12
fault_status Disk = 4
fault_status Links = 5
fault_status Console = 6
fault_status (BadLine n) = 7
fault_status Worn = 8
fault_status Spent = 9
fault_status NoMemory = 10

-- the line of each fault; the console's has none
abbrev pub fault_line : Fault → Option (List ℕ)
fault_line BadWords = Some (line (codes "smd: bad words"))
fault_line (Damaged at) = Some (line (codes "smd: store damaged at " ++ decimal at))
fault_line (WrongSize size) = Some (line (codes "smd: store has size " ++ decimal size))
fault_line TooManySessions = Some (line (codes "smd: too many sessions"))
fault_line Disk = Some (line (codes "smd: disk fault"))
fault_line Links = Some (line (codes "smd: link fault"))
fault_line Console = None
fault_line (BadLine n) = Some (line (codes "smd: bad script line " ++ decimal n))
fault_line Worn = Some (line (codes "smd: store worn"))
fault_line Spent = Some (line (codes "smd: turns spent"))
fault_line NoMemory = Some (line (codes "smd: no memory"))
