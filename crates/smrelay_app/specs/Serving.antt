-- What a call with the words of a relay does: it opens its socket, and then it relays.
use Rattle.std.specs.Prelude.{◌≡◌, ◌⊎◌, ℕ, List, [], Result, Err, IfErr}
use Rattle.sm_world.specs.Outside.{Outside, Rose}
use Rattle.sm_world.specs.declared.effects.Effect.{Effect}
use Rattle.ice_values.specs.declared.numbers.Endian.{Endian}
use Rattle.byte_relay.specs.Serving.{Relays, HasCause}
use Rattle.byte_relay.specs.declared.fault.RelayFault.{RelayFault}
use Rattle.smrelay_app.specs.FaultLines.{served}
use Rattle.smrelay_app.specs.declared.fault.Fault.{Fault}
use Rattle.smrelay_app.specs.declared.fault.Fault.TheVariants.{Links, NoMemory}

-- The socket was opened, the relay ended with this answer, and all that was done is its own.
pub record HasServed (to : Endian) (turns : ℕ) (old new : Outside) (ending : Result (Unit {0}) Fault) (effects : List Effect) : Type 0 where
  pub answer : Result (Unit {0}) RelayFault
  pub ends : ending ≡ served answer
  pub relays : Relays to turns old.coming answer effects
  -- the links ended it only where their count rose
  pub cause : IfErr answer (HasCause old.faults new.faults)

-- The socket wasn't opened: the links failed, or memory was wanting. Nothing was done.
pub record WasRefused (old new : Outside) (ending : Result (Unit {0}) Fault) (effects : List Effect) : Type 0 where
  pub cause : ((ending ≡ Err Links) × Rose old.faults.links new.faults.links) ⊎ (ending ≡ Err NoMemory)
  pub none : effects ≡ []

-- what a call with the words of a relay does
abbrev pub RunsRelay : Endian → ℕ → Outside → Outside → Result (Unit {0}) Fault → List Effect → Type 0
RunsRelay to turns old new ending effects = WasRefused old new ending effects ⊎ HasServed to turns old new ending effects
