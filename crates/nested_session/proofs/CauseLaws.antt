-- What caused a fault in the later part of a run caused it in the whole of it.
use Rattle.std.specs.Prelude.{Result, Ok, Err, IfErr}
use Rattle.sm_world.specs.Outside.{NotFallen}
use Rattle.sm_world.specs.declared.failures.Faults.{Faults}
use Rattle.sm_world.proofs.Counting.{rose_since}
use Rattle.session_engine.specs.Causes.{HasCause}
use Rattle.session_engine.specs.declared.fault.ServeFault.{ServeFault}
use Rattle.session_engine.specs.declared.fault.ServeFault.TheVariants.{ConsoleFault, Damaged, DiskFault, LinkFault, NoMemory, Spent, TooManySessions, Worn, WrongSize}

pub cause_since : (fault : ServeFault) (old now new : Faults) → NotFallen old now → HasCause now new fault → HasCause old new fault
cause_since (Damaged at) old now new kept cause = tt
cause_since (WrongSize size) old now new kept cause = tt
cause_since TooManySessions old now new kept cause = tt
cause_since DiskFault old now new kept cause = rose_since old.disk now.disk new.disk kept.disk cause
cause_since LinkFault old now new kept cause = rose_since old.links now.links new.links kept.links cause
cause_since ConsoleFault old now new kept cause = rose_since old.console now.console new.console kept.console cause
cause_since Worn old now new kept cause = tt
cause_since Spent old now new kept cause = tt
cause_since NoMemory old now new kept cause = tt

-- so it did where a fault came
pub cause_if : {A : Type 0} (answer : Result A ServeFault) (old now new : Faults) → NotFallen old now → IfErr answer (HasCause now new) → IfErr answer (HasCause old new)
cause_if (Ok x) old now new kept cause = tt
cause_if (Err fault) old now new kept cause = cause_since fault old now new kept cause
