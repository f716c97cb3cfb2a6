-- What the manager says on one connection.
use Rattle.std.specs.Prelude.{List, [], cond, map, ℕ, ◌++◌, ◌==◌, ◌∷◌, ◌≡◌}
use Rattle.std.specs.List.{flat_map}
use Rattle.session_model.specs.declared.events.SessionEvent.{SessionEvent}
use Rattle.session_model.specs.Moves.{Outside, ◌▷◌}
use Rattle.session_model.specs.Rules.{taken}
use Rattle.session_engine.specs.Machine.{Machine, Step, acts_of, told}
use Rattle.session_engine.specs.declared.acts.Act.{Act}
use Rattle.session_engine.specs.declared.acts.Act.TheVariants.{Say}
use Rattle.protocol_messages.specs.declared.message.Message.{Message}
use Rattle.protocol_messages.specs.declared.message.Message.TheVariants.{Xsmp}
use Rattle.end_schedules.specs.UnderWay.{sent_to}

abbrev pub said_on : ℕ → Act → List Message
said_on c (Say d message) = cond (d == c) (message ∷ []) []
said_on c act = []

-- what a step of its machine says there, the oldest first
abbrev pub said_by : ℕ → Step → List Message
said_by c step = flat_map (said_on c) (acts_of step)

-- As the session is told of an event, the manager says there what the session sends by it, as messages of XSMP, and nothing else.
abbrev pub AllThatIsSentIsSaid : Type 0
AllThatIsSentIsSaid =
    (c : ℕ) (m : Machine) (event : SessionEvent) → map Xsmp (sent_to c (taken event m.session)) ≡ map Xsmp (sent_to c (Outside event ▷ m.session)) ++ said_by c (told m event)
