-- What a relay does to the outside.
use Rattle.std.specs.Prelude.{◌≡◌, ◌≤◌, ℕ, Bool, true, false, List, length, Option, Result, Ok, Err, IfErr, IsErrOf, is_ok}
use Rattle.sm_world.specs.Effects.{heard}
use Rattle.sm_world.specs.Outside.{Outside, Added, NotFallen, Rose}
use Rattle.sm_world.specs.declared.effects.Effect.{Effect}
use Rattle.sm_world.specs.declared.events.Event.{Event}
use Rattle.sm_world.specs.declared.failures.Faults.{Faults}
use Rattle.sm_world.specs.declared.failures.Failure.{Failure}
use Rattle.sm_world.specs.declared.failures.Failure.TheVariants.{Failed, NoMemory as OutOfMemory}
use Rattle.heard_events.specs.Brought.{IsPrefix, Brought}
use Rattle.ice_values.specs.declared.numbers.Endian.{Endian}
use Rattle.byte_relay.specs.Relaying.{run, has_end}
use Rattle.byte_relay.specs.declared.fault.RelayFault.{RelayFault}
use Rattle.byte_relay.specs.declared.fault.RelayFault.TheVariants.{LinkFault, Spent, NoMemory}

-- why a call on the links did nothing
abbrev pub relay_fault_of : Failure → RelayFault
relay_fault_of Failed = LinkFault
relay_fault_of OutOfMemory = NoMemory

-- the links fail only where their count rose
abbrev pub HasCause : Faults → Faults → RelayFault → Type 0
HasCause old new LinkFault = Rose old.links new.links
HasCause old new Spent = Unit {0}
HasCause old new NoMemory = Unit {0}

-- a call of the links failed, or memory was wanting
abbrev pub IsOfLinks : RelayFault → Type 0
IsOfLinks LinkFault = Unit {0}
IsOfLinks Spent = ⊥
IsOfLinks NoMemory = Unit {0}

-- these effects are all of these, or at a fault the first of them
abbrev pub DoesOf : {A : Type 0} → List Effect → Result A RelayFault → List Effect → Type 0
DoesOf all (Ok x) effects = effects ≡ all
DoesOf all (Err fault) effects = IsPrefix effects all

-- What a call that hears nothing does: of these effects all, or at a fault the first.
pub record DoesIn {A : Type 0} (old new : Outside) (all : List Effect) (result : Result A RelayFault) : Type 0 where
  pub added : Added old.told new.told (DoesOf all result)
  pub coming : new.coming ≡ old.coming
  pub input : new.input ≡ old.input
  pub counts : NotFallen old.faults new.faults
  pub cause : IfErr result (HasCause old.faults new.faults)
  pub of_links : IfErr result IsOfLinks

abbrev pub Does : {A : Type 0} → Outside → Outside → List Effect → Result A RelayFault → Type 0
Does old new all result = DoesIn old new all result

-- a run that wasn't cut short by a fault
abbrev pub is_whole : Result (Unit {0}) RelayFault → Bool
is_whole (Ok x) = true
is_whole (Err Spent) = true
is_whole (Err LinkFault) = false
is_whole (Err NoMemory) = false

-- The effects of a relay, against the run for the events among them: each event is followed by all that is done about it before the next.
pub record Relays (to : Endian) (turns : ℕ) (coming : Option (List Event)) (answer : Result (Unit {0}) RelayFault) (effects : List Effect) : Type 0 where
  -- what was done is the front of the run
  pub on_run : IsPrefix effects (run to (heard effects))
  -- and all of it, where no fault cut it short
  pub all_done : is_whole answer ≡ true → effects ≡ run to (heard effects)
  -- it is Ok exactly where End was heard
  pub ended : has_end (heard effects) ≡ is_ok answer
  pub brought : Brought coming (heard effects)
  -- no more is heard than was granted, and the turns are spent where so much was
  pub in_turns : length (heard effects) ≤ turns
  pub spent : IsErrOf answer Spent → length (heard effects) ≡ turns
