-- What a start adds to the effects, and who has the store's turn behind an act.
use Rattle.std.specs.Prelude.{◌≡◌, Bool, List, [], ◌∷◌, Option, Result, Ok, Err}
use Rattle.sm_world.specs.Outside.{adds}
use Rattle.owned_lists.specs.declared.commands.Command.{Command}
use Rattle.sm_world.specs.declared.effects.Effect.{Effect}
use Rattle.sm_world.specs.declared.effects.Effect.TheVariants.{Started}
use Rattle.session_engine.specs.Store.{Stored}
use Rattle.session_engine.specs.declared.fault.Halt.{Halt}

-- the command was tried, whatever came of it; or nothing was done
abbrev pub Launches : Option (List Effect) → Option (List Effect) → Command → Result (Unit {0}) Halt → Type 0
Launches old new command (Ok x) = (succeeded : Bool) × (new ≡ adds old (Started command succeeded ∷ []))
Launches old new command (Err halt) = new ≡ old

-- the store's turn stays where an act was done that isn't the store's
abbrev pub handed_on : Stored → Result (Unit {0}) Halt → Result Stored Halt
handed_on store (Ok x) = Ok store
handed_on store (Err halt) = Err halt
