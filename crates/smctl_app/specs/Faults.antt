-- The faults of the program: their statuses and lines.
use Rattle.std.specs.Prelude.{ℕ, List, codes, Option, Some, None}
use Rattle.std.specs.declared.env.VarError.{VarError}
use Rattle.std.specs.declared.env.VarError.TheVariants.{NotPresent, NotUnicode, OutOfMemory as NameMemory}
use Rattle.std.specs.declared.io.ErrorKind.{ErrorKind}
use Rattle.std.specs.declared.io.ErrorKind.TheVariants.{BrokenPipe, ConnectionReset, OutOfMemory as LinkMemory, UnexpectedEof}
use Rattle.sm_world.specs.declared.failures.Failure.{Failure}
use Rattle.sm_world.specs.declared.failures.Failure.TheVariants.{Failed, NoMemory as DeviceMemory}
use Rattle.control_lines.specs.declared.orders.OrderRefusal.{OrderRefusal}
use Rattle.control_lines.specs.declared.orders.OrderRefusal.TheVariants.{BadLine, NoMemory as OrderMemory}
use Rattle.program_frame.specs.Printing.{line}
use Rattle.smctl_app.specs.declared.fault.Fault.{Fault}
use Rattle.smctl_app.specs.declared.fault.Fault.TheVariants.{BadWords, NoControl, Unordered, Cancelled, Link, Gone, Unreadable, Console, NoMemory}

abbrev pub order_fault : OrderRefusal → Fault
order_fault BadLine = BadWords
order_fault OrderMemory = NoMemory

-- why a call on the console did nothing
abbrev pub console_fault : Failure → Fault
console_fault Failed = Console
console_fault DeviceMemory = NoMemory

-- why the environment names no control socket
abbrev pub name_fault : VarError → Fault
name_fault NotPresent = NoControl
name_fault NotUnicode = NoControl
name_fault NameMemory = NoMemory

-- why there is no answer from the manager: it went, where the stream was at its end
abbrev pub link_fault : ErrorKind → Fault
link_fault LinkMemory = NoMemory
link_fault UnexpectedEof = Gone
link_fault BrokenPipe = Gone
link_fault ConnectionReset = Gone
link_fault kind = Link

abbrev pub fault_status : Fault → ℕ
fault_status BadWords = 1
fault_status NoControl = 1
fault_status Unordered = 1
fault_status Cancelled = 1
fault_status Link = 5
fault_status Gone = 5
fault_status Unreadable = 11
fault_status Console = 6
fault_status NoMemory = 10

-- the line of each fault; the console's has none
abbrev pub fault_line : Fault → Option (List ℕ)
fault_line BadWords = Some (line (codes "smctl: bad words"))
fault_line NoControl = Some (line (codes "smctl: no control socket"))
fault_line Unordered = Some (line (codes "smctl: no logout was ordered"))
fault_line Cancelled = Some (line (codes "smctl: the logout was cancelled"))
fault_line Link = Some (line (codes "smctl: no answer"))
fault_line Gone = Some (line (codes "smctl: no answer"))
fault_line Unreadable = Some (line (codes "smctl: the answer can't be read"))
fault_line Console = None
fault_line NoMemory = Some (line (codes "smctl: no memory"))
