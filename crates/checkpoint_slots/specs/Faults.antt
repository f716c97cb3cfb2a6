-- A failed call of the disk as a fault of the store.
use Rattle.sm_world.specs.declared.failures.Failure.{Failure}
use Rattle.sm_world.specs.declared.failures.Failure.TheVariants.{Failed, NoMemory as NoMemoryThere}
use Rattle.checkpoint_slots.specs.declared.fault.StoreFault.{StoreFault}
use Rattle.checkpoint_slots.specs.declared.fault.StoreFault.TheVariants.{DiskFault, NoMemory}

abbrev pub fault_of : Failure → StoreFault
fault_of Failed = DiskFault
fault_of NoMemoryThere = NoMemory
