-- The faults of `smwrap`, with their statuses and lines.
use Rattle.std.specs.Prelude.{ℕ, List, codes, Option, Some, None, Result, Ok, Err}
use Rattle.sm_world.specs.declared.failures.Failure.{Failure}
use Rattle.sm_world.specs.declared.failures.Failure.TheVariants.{Failed, NoMemory as DeviceMemory}
use Rattle.named_joiner.specs.declared.ends.NamedEnd.{NamedEnd}
use Rattle.named_joiner.specs.declared.ends.NamedEnd.TheVariants.{Died, Refused as IsRefused, Malformed as IsMalformed}
use Rattle.program_frame.specs.Printing.{line}
use Rattle.smwrap_app.specs.declared.fault.Fault.{Fault}
use Rattle.smwrap_app.specs.declared.fault.Fault.TheVariants.{BadWords, Refused, StreamEnded, NoEntry, Link, Spent, NoMemory, Malformed, Disk}

abbrev pub fault_status : Fault → ℕ
fault_status BadWords = 1
fault_status Refused = 2
fault_status StreamEnded = 3
fault_status NoEntry = 4
fault_status Link = 5
fault_status Spent = 9
fault_status NoMemory = 10
fault_status Malformed = 11
fault_status Disk = 13

-- Bad words have a line, and nothing else has.
abbrev pub fault_line : Fault → Option (List ℕ)
fault_line BadWords = Some (line (codes "smwrap: bad words"))
fault_line Refused = None
fault_line StreamEnded = None
fault_line NoEntry = None
fault_line Link = None
fault_line Spent = None
fault_line NoMemory = None
fault_line Malformed = None
fault_line Disk = None

-- how a run of `smwrap` ends
abbrev pub Ending : Type 0
Ending = Result (Unit {0}) Fault

-- the ending that the client's own end gives
abbrev pub end_of : NamedEnd → Ending
end_of Died = Ok tt
end_of (IsRefused class) = Err Refused
end_of (IsMalformed at) = Err Malformed

-- the fault of a peer that failed
abbrev pub peer_fault : Failure → Fault
peer_fault Failed = Link
peer_fault DeviceMemory = NoMemory

-- the fault of a file that failed before the program was started
abbrev pub file_fault : Failure → Fault
file_fault Failed = Disk
file_fault DeviceMemory = NoMemory
