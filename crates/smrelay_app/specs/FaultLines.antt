-- The faults of the program: where each comes from, its status and its line.
use Rattle.std.specs.Prelude.{ℕ, List, ◌++◌, codes, Option, Some, None, Result, Ok, Err}
use Rattle.std.specs.Fmt.{decimal}
use Rattle.sm_world.specs.declared.failures.Failure.{Failure}
use Rattle.sm_world.specs.declared.failures.Failure.TheVariants.{Failed, NoMemory as DeviceMemory}
use Rattle.program_frame.specs.Printing.{line}
use Rattle.byte_relay.specs.declared.fault.RelayFault.{RelayFault}
use Rattle.byte_relay.specs.declared.fault.RelayFault.TheVariants.{LinkFault, Spent as HasSpent, NoMemory as WantsMemory}
use Rattle.event_script.specs.declared.script.ScriptFault.{ScriptFault}
use Rattle.event_script.specs.declared.script.ScriptFault.TheVariants.{BadLine as FirstBadLine, NoMemory as ScriptMemory}
use Rattle.smrelay_app.specs.declared.fault.Fault.{Fault}
use Rattle.smrelay_app.specs.declared.fault.Fault.TheVariants.{BadWords, Links, Console, BadLine, Spent, NoMemory}

-- why a call on the links did nothing
abbrev pub link_fault : Failure → Fault
link_fault Failed = Links
link_fault DeviceMemory = NoMemory

-- why a call on the console did nothing
abbrev pub console_fault : Failure → Fault
console_fault Failed = Console
console_fault DeviceMemory = NoMemory

abbrev pub script_fault : ScriptFault → Fault
script_fault (FirstBadLine n) = BadLine n
script_fault ScriptMemory = NoMemory

-- why a relay ended before its time
abbrev pub served_fault : RelayFault → Fault
served_fault LinkFault = Links
served_fault HasSpent = Spent
served_fault WantsMemory = NoMemory

-- how a call ends whose relay ended so
abbrev pub served : Result (Unit {0}) RelayFault → Result (Unit {0}) Fault
served (Ok x) = Ok tt
served (Err fault) = Err (served_fault fault)

abbrev pub fault_status : Fault → ℕ
fault_status BadWords = 1
fault_status Links = 5
fault_status Console = 6
fault_status (BadLine n) = 7
fault_status Spent = 9
fault_status NoMemory = 10

-- the line of each fault; the console's has none
abbrev pub fault_line : Fault → Option (List ℕ)
fault_line BadWords = Some (line (codes "smrelay: bad words"))
fault_line Links = Some (line (codes "smrelay: link fault"))
fault_line Console = None
fault_line (BadLine n) = Some (line (codes "smrelay: bad script line " ++ decimal n))
fault_line Spent = Some (line (codes "smrelay: turns spent"))
fault_line NoMemory = Some (line (codes "smrelay: no memory"))
