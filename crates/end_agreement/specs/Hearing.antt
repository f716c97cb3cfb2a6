-- What waits for the client: each message has its place, and behind the last one both ends agree.
use Rattle.std.specs.Prelude.{Bool, List, Some, [], false, true, ◌||◌, ◌∷◌, ◌≡◌}
use Rattle.ice_values.specs.Fields.{ErrorFields}
use Rattle.ice_values.specs.declared.severity.Severity.{Severity}
use Rattle.ice_values.specs.declared.severity.Severity.TheVariants.{CanContinue}
use Rattle.xsmp_messages.specs.declared.message.XsmpMessage.{XsmpMessage}
use Rattle.xsmp_messages.specs.declared.message.XsmpMessage.TheVariants.{Die, Error, GetPropertiesReply, Interact, RegisterClientReply, SaveComplete, SaveYourself, SaveYourselfPhase2, ShutdownCancelled}
use Rattle.session_model.specs.declared.phase.Phase.TheVariants.{Unregistered}
use Rattle.client_machine.specs.Phases.{ClientState, is_dead, is_done, is_member, is_registered, is_registering, is_resting}
use Rattle.client_machine.specs.Taking.{registers_again, taken}
use Rattle.client_machine.specs.declared.phase.ClientPhase.{ClientPhase}
use Rattle.client_machine.specs.declared.phase.ClientPhase.TheVariants.{Asked, AskedTwo, Idle, WantsTwo}
use Rattle.end_agreement.specs.Sides.{Agrees, Side}

abbrev pub is_idle : ClientPhase → Bool
is_idle Idle = true
is_idle phase = false

-- it waits for the token
abbrev pub waits_for_token : ClientPhase → Bool
waits_for_token Asked = true
waits_for_token AskedTwo = true
waits_for_token phase = false

abbrev pub wants_two : ClientPhase → Bool
wants_two WantsTwo = true
wants_two phase = false

-- an Error after which the client goes on comes to one that is registered, or says that its previous ID is refused; any other
-- comes to one that registers
abbrev pub suits_error : Severity → ErrorFields → ClientState → Bool
suits_error CanContinue error s = is_registered s.phase || registers_again error s
suits_error severity error s = is_registering s.phase

-- the message has its place, where the client is alive
abbrev pub suits_alive : XsmpMessage → ClientState → Bool
suits_alive (Error error) s = suits_error error.severity error s
suits_alive (RegisterClientReply id) s = is_registering s.phase
suits_alive (SaveYourself kind shutdown style fast) s = is_idle s.phase
suits_alive Interact s = waits_for_token s.phase
suits_alive SaveYourselfPhase2 s = wants_two s.phase
suits_alive SaveComplete s = is_done s.phase
suits_alive ShutdownCancelled s = is_member s.phase
suits_alive Die s = is_resting s.phase
suits_alive (GetPropertiesReply list) s = is_registered s.phase
suits_alive m s = false

-- the message has its place; one that is dead looks at none
abbrev pub suits : XsmpMessage → ClientState → Bool
suits m s = is_dead s.phase || suits_alive m s

abbrev pub again_by : Severity → ErrorFields → ClientState → Bool
again_by CanContinue error s = registers_again error s
again_by severity error s = false

-- the client answers this by registering once more, without its previous ID
abbrev pub is_again : XsmpMessage → ClientState → Bool
is_again (Error error) s = again_by error.severity error s
is_again m s = false

-- Where the client registers once more, the manager waits for that, and nothing else is under way to the client.
abbrev pub IsLast : Bool → Side → List XsmpMessage → Type 0
IsLast true side rest = (side.phase ≡ Some Unregistered) × (rest ≡ [])
IsLast false side rest = Unit {0}

-- what waits for the client, the oldest first, where nothing of it waits for the manager
abbrev pub Fits : Side → ClientState → List XsmpMessage → Type 0
Fits side s [] = Agrees side s
Fits side s (m ∷ down) = (suits m s ≡ true) × IsLast (is_again m s) side down × Fits side (taken m s) down
