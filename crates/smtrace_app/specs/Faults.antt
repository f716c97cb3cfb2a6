-- The faults of the program: where each comes from, its status and its line.
use Rattle.std.specs.Prelude.{ℕ, List, ◌++◌, codes, Option, Some, None}
use Rattle.std.specs.Fmt.{decimal}
use Rattle.sm_world.specs.declared.failures.Failure.{Failure}
use Rattle.sm_world.specs.declared.failures.Failure.TheVariants.{Failed, NoMemory as DeviceMemory}
use Rattle.program_frame.specs.Printing.{line}
use Rattle.smtrace_app.specs.declared.fault.Fault.{Fault}
use Rattle.smtrace_app.specs.declared.fault.Fault.TheVariants.{BadWords, Differs, Malformed, Console, NoMemory}

abbrev pub console_fault : Failure → Fault
console_fault Failed = Console
console_fault DeviceMemory = NoMemory

abbrev pub fault_status : Fault → ℕ
fault_status BadWords = 1
fault_status (Differs at) = 2
fault_status (Malformed at) = 3
fault_status Console = 6
fault_status NoMemory = 10

-- the line of each fault; the console's has none
abbrev pub fault_line : Fault → Option (List ℕ)
fault_line BadWords = Some (line (codes "smtrace: bad words"))
fault_line (Differs at) = Some (line (codes "differs at " ++ decimal at))
fault_line (Malformed at) = Some (line (codes "malformed at " ++ decimal at))
fault_line Console = None
fault_line NoMemory = Some (line (codes "smtrace: no memory"))
