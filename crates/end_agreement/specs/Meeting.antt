-- What waits for the manager: each message has its place, and whatever the manager answers, what waits for the client has its place
-- then. So this relates how far the manager says that a client is, how far the client is, and what is under way both ways.
use Rattle.std.specs.Prelude.{Bool, List, None, Option, Some, [], false, not, true, ℕ, ◌&&◌, ◌++◌, ◌||◌, ◌∷◌, ◌≡◌}
use Rattle.ice_values.specs.Fields.{ErrorFields}
use Rattle.ice_values.specs.declared.severity.Severity.{Severity}
use Rattle.ice_values.specs.declared.severity.Severity.TheVariants.{CanContinue}
use Rattle.xsmp_messages.specs.declared.message.XsmpMessage.{XsmpMessage}
use Rattle.xsmp_messages.specs.declared.message.XsmpMessage.TheVariants.{ConnectionClosed, DeleteProperties, Error, GetProperties, GetPropertiesReply, InteractDone, InteractRequest, RegisterClient, RegisterClientReply, SaveYourselfDone, SaveYourselfPhase2Request, SaveYourselfRequest, SetProperties, ShutdownCancelled}
use Rattle.session_model.specs.Phases.{allows, cancelled_phase, is_bound, is_first_saving, is_interacting, is_owing, is_saving, is_unregistered, phase_said}
use Rattle.session_model.specs.declared.phase.Phase.{Phase}
use Rattle.session_model.specs.declared.phase.Phase.TheVariants.{Dying, Idle, Unregistered}
use Rattle.client_machine.specs.Phases.{ClientState}
use Rattle.client_machine.specs.Taking.{is_bad_id}
use Rattle.end_agreement.specs.Sides.{Side, at_phase}
use Rattle.end_agreement.specs.Hearing.{Fits}

-- whatever comes is passed over
abbrev pub is_deaf : Option Phase → Bool
is_deaf None = true
is_deaf (Some Dying) = true
is_deaf phase = false

-- the message has its place in the phase that the manager knows
abbrev pub place : XsmpMessage → Side → Bool
place (RegisterClient previous) side = is_unregistered side.phase
place (ConnectionClosed reasons) side = true
place (SetProperties list) side = is_bound side.phase
place (DeleteProperties names) side = is_bound side.phase
place GetProperties side = is_bound side.phase
place (SaveYourselfRequest kind shutdown style fast global) side = is_bound side.phase
place (InteractRequest dialog) side = is_owing side.phase || is_saving side.phase && allows side.style dialog
place (InteractDone cancel) side = is_owing side.phase || is_interacting side.phase && (side.shutdown || not cancel)
place (SaveYourselfDone success) side = is_owing side.phase || is_saving side.phase
place SaveYourselfPhase2Request side = is_owing side.phase || is_first_saving side.phase
place m side = false

abbrev pub has_place : XsmpMessage → Side → Bool
has_place m side = is_deaf side.phase || place m side

-- Errors

abbrev pub is_fatal : Severity → Bool
is_fatal CanContinue = false
is_fatal severity = true

-- the Error refuses a previous ID, and the client goes on
abbrev pub refuses_id : Severity → ErrorFields → Bool
refuses_id CanContinue error = is_bad_id error
refuses_id severity error = false

-- the client goes on after the Error, which is of no ID
abbrev pub is_mild : Severity → ErrorFields → Bool
is_mild CanContinue error = not (is_bad_id error)
is_mild severity error = false

-- a message that changes neither phase
abbrev pub is_neutral : XsmpMessage → Bool
is_neutral (GetPropertiesReply list) = true
is_neutral (Error error) = is_mild error.severity error
is_neutral m = false

-- What the manager may answer: `Holds` of each side that it may have then, with what it sends the client

-- A previous ID may be refused; where there is none, there may be no room for one more client.
abbrev pub EachRefusal : List ℕ → Side → (Side → List XsmpMessage → Type 0) → Type 0
EachRefusal [] side Holds = (error : ErrorFields) → is_fatal error.severity ≡ true → Holds (at_phase None side) (Error error ∷ [])
EachRefusal (b ∷ id) side Holds = (error : ErrorFields) → refuses_id error.severity error ≡ true → Holds side (Error error ∷ [])

abbrev pub EachEntry : Option Phase → List ℕ → Side → (Side → List XsmpMessage → Type 0) → Type 0
EachEntry (Some Unregistered) previous side Holds =
    ((id : List ℕ) → Holds (at_phase (Some Idle) side) (RegisterClientReply id ∷ [])) × EachRefusal previous side Holds
EachEntry phase previous side Holds = Holds side []

-- nothing, or one message that changes no phase
abbrev pub EachNeutral : Side → (Side → List XsmpMessage → Type 0) → Type 0
EachNeutral side Holds = Holds side [] × ((m : XsmpMessage) → is_neutral m ≡ true → Holds side (m ∷ []))

abbrev pub EachCancel : Bool → Side → (Side → List XsmpMessage → Type 0) → Type 0
EachCancel true side Holds = Holds (at_phase (cancelled_phase side.phase) side) (ShutdownCancelled ∷ [])
EachCancel false side Holds = Holds side []

abbrev pub EachAnswer : XsmpMessage → Side → (Side → List XsmpMessage → Type 0) → Type 0
EachAnswer (RegisterClient previous) side Holds = EachEntry side.phase previous side Holds
EachAnswer (ConnectionClosed reasons) side Holds = Holds (at_phase None side) []
EachAnswer (SetProperties list) side Holds = EachNeutral side Holds
EachAnswer (DeleteProperties names) side Holds = EachNeutral side Holds
EachAnswer GetProperties side Holds = EachNeutral side Holds
EachAnswer (SaveYourselfRequest kind shutdown style fast global) side Holds = EachNeutral side Holds
EachAnswer (InteractDone true) side Holds = EachCancel (is_interacting side.phase) side Holds
EachAnswer m side Holds = Holds (at_phase (phase_said (λ dialog. allows side.style dialog) m side.phase) side) []

-- what waits for one whose connection is heard no more is dropped
abbrev pub Goes : Option Phase → Type 0 → Type 0 → Type 0
Goes None gone on = gone
Goes (Some phase) gone on = on

-- Both ends meet: what waits for the manager is taken first, each message answered, and then what waits for the client; all has its
-- place, and in the end both agree.
abbrev pub Meets : Side → ClientState → List XsmpMessage → List XsmpMessage → Type 0
Meets side s [] down = Fits side s down
Meets side s (m ∷ up) down = Goes side.phase (Fits side s down) ((has_place m side ≡ true) × EachAnswer m side (λ after answers. Meets after s up (down ++ answers)))
