-- The faults of a login: the status and the line of each.
use Rattle.std.specs.Prelude.{ℕ, List, codes, Option, Some}
use Rattle.program_frame.specs.Printing.{line}
use Rattle.login_plan.specs.declared.plans.Refusal.{Refusal}
use Rattle.login_plan.specs.declared.plans.Refusal.TheVariants.{NoNumber as PlanNumber, Stopped as PlanStopped, NoMemory as PlanMemory}
use Rattle.store_return.specs.Faults.{fault_line, fault_status}
use Rattle.store_return.specs.declared.faults.Fault.TheVariants.{Stopped, NoMemory}
use Rattle.store_login.specs.declared.faults.LoginFault.{LoginFault}
use Rattle.store_login.specs.declared.faults.LoginFault.TheVariants.{OfStore, NoNumber, Unkept}

-- why a login does nothing
abbrev pub plan_fault : Refusal → LoginFault
plan_fault PlanNumber = NoNumber
plan_fault (PlanStopped obstacle) = OfStore (Stopped obstacle)
plan_fault PlanMemory = OfStore NoMemory

abbrev pub login_status : LoginFault → ℕ
login_status (OfStore fault) = fault_status fault
login_status NoNumber = 16
login_status Unkept = 17

abbrev pub login_line : LoginFault → Option (List ℕ)
login_line (OfStore fault) = fault_line fault
login_line NoNumber = Some (line (codes "smd: nothing is kept under this number"))
login_line Unkept = Some (line (codes "smd: the session can't be kept"))
