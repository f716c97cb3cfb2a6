-- What a member may answer, and what becomes of it by what it says.
use Rattle.std.specs.Prelude.{◌≡◌, Bool, false, true, ◌||◌, Ok}
use Rattle.client_machine.specs.Phases.{is_interacting, is_owing, is_saving}
use Rattle.client_machine.specs.declared.phase.ClientPhase.{ClientPhase}
use Rattle.client_machine.specs.declared.phase.ClientPhase.TheVariants.{Saving as InSaving, SavingTwo as InSavingTwo}
use Rattle.client_machine.specs.declared.requests.Request.{Request}
use Rattle.client_machine.specs.Asking.{after_asked}
use Rattle.client_engine.specs.Answering.{after_request, answered_at, may_ask_at}
use Rattle.client_engine.specs.Places.{on_client, phase_at}
use Rattle.client_engine.specs.declared.engine.Core.{Core}
use Rattle.client_engine.specs.declared.place.Place.{Place}
use Rattle.protocol_messages.specs.declared.message.Message.{Message}
use Rattle.session_client.specs.declared.turns.Turn.{Turn}
use Rattle.session_client.specs.declared.turns.Turn.TheVariants.{Resting, Saving, SavingTwo, Talking, Owing}

-- an answer of the client's is awaited
abbrev pub has_turn : ClientPhase → Bool
has_turn phase = is_saving phase || (is_interacting phase || is_owing phase)

-- The turn is what the member's phase says.
abbrev pub TurnsAs : Core → Turn → Type 0
TurnsAs core (Resting c) = (c ≡ core) × (has_turn (phase_at core.talk.place) ≡ false)
TurnsAs core (Saving c) = (c ≡ core) × (phase_at core.talk.place ≡ InSaving)
TurnsAs core (SavingTwo c) = (c ≡ core) × (phase_at core.talk.place ≡ InSavingTwo)
TurnsAs core (Talking c) = (c ≡ core) × (is_interacting (phase_at core.talk.place) ≡ true)
TurnsAs core (Owing c) = (c ≡ core) × (is_owing (phase_at core.talk.place) ≡ true)

-- The client has said this, and nothing else of it changes.
pub record HasSaid (request : Request) (before after : Core) : Type 0 where
  pub talk : after.talk ≡ after_request request before.talk
  pub splitter : after.splitter ≡ before.splitter

-- The request has no place there, and nothing of the client changes.
pub record Refuses (request : Request) (before after : Core) : Type 0 where
  pub no_place : may_ask_at request before.talk.place ≡ false
  pub stays : after.talk.place ≡ before.talk.place
  pub counts : after.talk.counts ≡ before.talk.counts
  pub splitter : after.splitter ≡ before.splitter

-- By this message the request is said, which has its place there and changes nothing of the client.
pub record MaySay (request : Request) (place : Place) (message : Message) : Type 0 where
  pub answer : answered_at request place ≡ Ok message
  pub stays : on_client (after_asked request) place ≡ place
