-- The faults of `smnest`, with their statuses and lines: those of a session, and that there is no cookie for the outer manager.
use Rattle.std.specs.Prelude.{ℕ, List, ◌++◌, codes, Option, Some, None, Result, Ok, Err}
use Rattle.std.specs.Fmt.{decimal}
use Rattle.sm_world.specs.declared.failures.Failure.{Failure}
use Rattle.event_script.specs.declared.script.ScriptFault.{ScriptFault}
use Rattle.event_script.specs.declared.script.ScriptFault.TheVariants.{BadLine as FirstBadLine, NoMemory as ScriptMemory}
use Rattle.program_frame.specs.Printing.{line}
use Rattle.session_engine.specs.declared.fault.ServeFault.{ServeFault}
use Rattle.smd_app.specs.FaultLines.{console_fault as session_console, fault_status as session_status, link_fault as session_link, served as session_served}
use Rattle.smd_app.specs.declared.fault.Fault.{Fault as SessionFault}
use Rattle.smd_app.specs.declared.fault.Fault.TheVariants.{BadWords, Damaged, WrongSize, TooManySessions, Disk, Links, Console, BadLine, Worn, Spent, NoMemory}
use Rattle.smnest_app.specs.declared.fault.Fault.{Fault}
use Rattle.smnest_app.specs.declared.fault.Fault.TheVariants.{Session, NoCookie}

-- how a call of `smnest` ended
abbrev pub Ending : Type 0
Ending = Result (Unit {0}) Fault

-- how a call ends whose session ended so
abbrev pub of_session : Result (Unit {0}) SessionFault → Ending
of_session (Ok x) = Ok tt
of_session (Err fault) = Err (Session fault)

abbrev pub served : Result (Unit {0}) ServeFault → Ending
served answer = of_session (session_served answer)

-- why a call on the console did nothing
abbrev pub console_fault : Failure → Fault
console_fault failure = Session (session_console failure)

-- why a call on the links or for the outer manager did nothing
abbrev pub link_fault : Failure → Fault
link_fault failure = Session (session_link failure)

abbrev pub script_fault : ScriptFault → Fault
script_fault (FirstBadLine n) = Session (BadLine n)
script_fault ScriptMemory = Session NoMemory

-- The statuses of a session's faults are those of `smd`.
abbrev pub fault_status : Fault → ℕ
fault_status (Session fault) = session_status fault
fault_status NoCookie = 14

-- the line of a session's fault; the console's has none
abbrev pub session_line : SessionFault → Option (List ℕ)
session_line BadWords = Some (line (codes "smnest: bad words"))
session_line (Damaged at) = Some (line (codes "smnest: store damaged at " ++ decimal at))
session_line (WrongSize size) = Some (line (codes "smnest: store has size " ++ decimal size))
session_line TooManySessions = Some (line (codes "smnest: too many sessions"))
session_line Disk = Some (line (codes "smnest: disk fault"))
session_line Links = Some (line (codes "smnest: link fault"))
session_line Console = None
session_line (BadLine n) = Some (line (codes "smnest: bad script line " ++ decimal n))
session_line Worn = Some (line (codes "smnest: store worn"))
session_line Spent = Some (line (codes "smnest: turns spent"))
session_line NoMemory = Some (line (codes "smnest: no memory"))

abbrev pub fault_line : Fault → Option (List ℕ)
fault_line (Session fault) = session_line fault
fault_line NoCookie = Some (line (codes "smnest: no outer cookie"))
