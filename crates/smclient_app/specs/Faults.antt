-- The faults of `smclient`: where each comes from, its status and its line.
use Rattle.std.specs.Prelude.{ℕ, List, codes, Option, Some, None, Result, Ok, Err}
use Rattle.sm_world.specs.declared.failures.Failure.{Failure}
use Rattle.sm_world.specs.declared.failures.Failure.TheVariants.{Failed, NoMemory as DeviceMemory}
use Rattle.program_frame.specs.Printing.{line}
use Rattle.client_callbacks.specs.declared.ends.ClientEnd.{ClientEnd}
use Rattle.client_callbacks.specs.declared.ends.ClientEnd.TheVariants.{Died, Closed, StreamEnded as HasEnded}
use Rattle.client_callbacks.specs.declared.ends.JoinFault.{JoinFault}
use Rattle.client_callbacks.specs.declared.ends.JoinFault.TheVariants.{LinkFault, Refused as IsRefused, Malformed as IsMalformed, Spent as IsSpent, NoMemory as IsMissing}
use Rattle.smclient_app.specs.declared.fault.Fault.{Fault}
use Rattle.smclient_app.specs.declared.fault.Fault.TheVariants.{BadWords, Refused, StreamEnded, NoEntry, Link, Console, Spent, NoMemory, Malformed}

abbrev pub fault_status : Fault → ℕ
fault_status BadWords = 1
fault_status Refused = 2
fault_status StreamEnded = 3
fault_status NoEntry = 4
fault_status Link = 5
fault_status Console = 6
fault_status Spent = 9
fault_status NoMemory = 10
fault_status Malformed = 11

-- Bad words have a line, and nothing else has.
abbrev pub fault_line : Fault → Option (List ℕ)
fault_line BadWords = Some (line (codes "smclient: bad words"))
fault_line Refused = None
fault_line StreamEnded = None
fault_line NoEntry = None
fault_line Link = None
fault_line Console = None
fault_line Spent = None
fault_line NoMemory = None
fault_line Malformed = None

-- how a call of `smclient` ended
abbrev pub Ending : Type 0
Ending = Result (Unit {0}) Fault

-- the ending that the client's own answer gives
abbrev pub end_of : Result ClientEnd JoinFault → Ending
end_of (Ok Died) = Ok tt
end_of (Ok Closed) = Ok tt
end_of (Ok (HasEnded phase)) = Err StreamEnded
end_of (Err LinkFault) = Err Link
end_of (Err (IsRefused class)) = Err Refused
end_of (Err (IsMalformed at)) = Err Malformed
end_of (Err IsSpent) = Err Spent
end_of (Err IsMissing) = Err NoMemory

-- A fault of the console comes where the client itself ended well.
abbrev pub unprinted_end : Ending → Ending
unprinted_end (Ok x) = Err Console
unprinted_end (Err fault) = Err fault

abbrev pub after_printing : Result (Unit {0}) Failure → Ending → Ending
after_printing (Ok x) ending = ending
after_printing (Err Failed) ending = unprinted_end ending
after_printing (Err DeviceMemory) ending = Err NoMemory
