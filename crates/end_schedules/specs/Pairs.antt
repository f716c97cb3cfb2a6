-- A manager and one of its clients, with a queue each way, among whatever else happens to the manager.
use Rattle.std.specs.Prelude.{Bool, List, None, Option, Some, [], drop, false, is_some, true, ℕ, ◌++◌, ◌+◌, ◌==◌, ◌∷◌, ◌≡◌}
use Rattle.xsmp_messages.specs.declared.message.XsmpMessage.{XsmpMessage}
use Rattle.xsmp_messages.specs.declared.message.XsmpMessage.TheVariants.{ConnectionClosed, RegisterClient}
use Rattle.session_model.specs.declared.events.SessionEvent.{SessionEvent}
use Rattle.session_model.specs.declared.events.SessionEvent.TheVariants.{Joined, Left, Ready, Said}
use Rattle.session_model.specs.declared.phase.Phase.{Phase}
use Rattle.session_model.specs.Laws.{Always}
use Rattle.session_model.specs.Moves.{History}
use Rattle.session_model.specs.Reading.{reading}
use Rattle.session_model.specs.Readings as of
use Rattle.session_model.specs.Rules as session
use Rattle.client_machine.specs.Asking.{after_asked, may_ask, requested}
use Rattle.client_machine.specs.Phases.{ClientState, is_dead}
use Rattle.client_machine.specs.Taking.{act_taken, taken}
use Rattle.client_machine.specs.declared.acts.ClientAct.{ClientAct}
use Rattle.client_machine.specs.declared.acts.ClientAct.TheVariants.{Again}
use Rattle.client_machine.specs.declared.phase.ClientPhase.TheVariants.{Registering}
use Rattle.client_machine.specs.declared.requests.Request.{Request}
use Rattle.client_machine.specs.declared.saves.SaveAsk.{SaveAsk}
use Rattle.end_agreement.specs.Laws.{after_closed, answers_save, asks_save}
use Rattle.end_schedules.specs.UnderWay.{sent_to}

-- The manager's history and the client. `up` waits for the manager, the oldest first. Of what the manager has sent, the client has
-- taken so many messages. It has taken so many SaveYourself, and has said SaveYourselfDone so often.
pub record Pair : Type 0 where
  pub history : History
  pub state : ClientState
  pub up : List XsmpMessage
  pub took : ℕ
  pub saves : ℕ
  pub answers : ℕ

pub data Step : Type 0 where
  -- the client asks for something
  Asks : Request → Step
  -- the manager takes the first message that waits for it, which has this number and this frame
  Hears : ℕ → List ℕ → Step
  -- the client takes the first message that waits for it
  Takes : Step
  -- the client says ConnectionClosed, wherever it is: also where it was told to die, and has said so before
  Closes : List (List ℕ) → Step
  -- something else comes to the manager: of another client, which needn't be one that keeps the rules, of the operator, or of the clock
  Happens : SessionEvent → Step
  -- the connection breaks, and the manager hears of that; the client may still take what it was sent before
  Breaks : Step

-- it comes from this connection
abbrev pub is_of : ℕ → SessionEvent → Bool
is_of c (Joined d) = d == c
is_of c (Ready d) = d == c
is_of c (Said d m sequence frame) = d == c
is_of c (Left d) = d == c
is_of c event = false

-- what waits for the client
abbrev pub down_of : ℕ → Pair → List XsmpMessage
down_of c p = drop p.took (sent_to c p.history)

-- what a client sent is dropped once XSMP ended on its connection
abbrev pub unless_ended : Option Phase → List XsmpMessage → List XsmpMessage
unless_ended None up = []
unless_ended (Some phase) up = up

abbrev pub heard : ℕ → SessionEvent → List XsmpMessage → Pair → Pair
heard c event up p = record p { history = session.taken event p.history; up = unless_ended (of.phase_of c (session.taken event p.history)) up }

abbrev pub hear : ℕ → ℕ → List ℕ → List XsmpMessage → Pair → Pair
hear c sequence frame [] p = p
hear c sequence frame (m ∷ up) p = heard c (Said c m sequence frame) up p

-- what the client says at once to what it took: where its previous ID is refused, it registers without one
abbrev pub said_at_once : ClientAct → List XsmpMessage
said_at_once (Again m) = m ∷ []
said_at_once act = []

abbrev pub hand : List XsmpMessage → Pair → Pair
hand [] p = p
hand (m ∷ down) p = record p { state = taken m p.state; up = p.up ++ said_at_once (act_taken m p.state); took = p.took + 1; saves = p.saves + asks_save m }

-- the pair after a step; where nothing waits nothing is taken
abbrev pub step : ℕ → Step → Pair → Pair
step c (Asks request) p = record p { state = after_asked request p.state; up = p.up ++ requested request ∷ []; answers = p.answers + answers_save request }
step c (Hears sequence frame) p = hear c sequence frame p.up p
step c Takes p = hand (down_of c p) p
step c (Closes reasons) p = record p { state = after_closed p.state; up = p.up ++ ConnectionClosed reasons ∷ [] }
step c (Happens event) p = record p { history = session.taken event p.history }
step c Breaks p = record p { history = session.taken (Left c) p.history }

-- A client asks only what it may. The manager takes nothing of a connection on which XSMP has ended, and one that is dead takes
-- nothing.
abbrev pub May : ℕ → Step → Pair → Type 0
May c (Asks request) p = may_ask request p.state ≡ true
May c (Hears sequence frame) p = is_some (of.phase_of c p.history) ≡ true
May c Takes p = is_dead p.state.phase ≡ false
May c (Closes reasons) p = Unit {0}
May c (Happens event) p = is_of c event ≡ false
May c Breaks p = session.Takes (Left c) (reading p.history)

abbrev pub after : ℕ → List Step → Pair → Pair
after c [] p = p
after c (s ∷ steps) p = after c steps (step c s p)

abbrev pub AllMay : ℕ → List Step → Pair → Type 0
AllMay c [] p = Unit {0}
AllMay c (s ∷ steps) p = May c s p × AllMay c steps (step c s p)

-- XSMP begins on the connection of a client, and the client registers
abbrev pub begun : ℕ → List ℕ → SaveAsk → History → Pair
begun c previous asked h = record {
  history = session.taken (Ready c) h;
  state = record { phase = Registering; id = previous; asked = asked };
  up = RegisterClient previous ∷ [];
  took = 0;
  saves = 0;
  answers = 0;
}

-- this holds after every schedule of steps, at whatever point of a run the client begins
abbrev pub InEveryPair : (ℕ → Pair → Type 0) → Type 0
InEveryPair Holds =
    Always (λ h. (c : ℕ) (previous : List ℕ) (asked : SaveAsk) (steps : List Step) → session.Takes (Ready c) (reading h) → AllMay c steps (begun c previous asked h)
    → Holds c (after c steps (begun c previous asked h)))
