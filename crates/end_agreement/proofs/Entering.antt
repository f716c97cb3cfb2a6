-- The client registers, and registers once more.
use Rattle.std.proofs.Common.{◌≡◌, refl, sym, ap, ◌∙◌, subst, Bool, true, false, ◌&&◌, List, [], ◌∷◌, ◌++◌, ℕ, arith}
use Rattle.std.specs.Prelude.{Option, Some, None}
use Rattle.ice_values.specs.Fields.{ErrorFields}
use Rattle.ice_values.specs.declared.severity.Severity.{Severity}
use Rattle.ice_values.specs.declared.severity.Severity.TheVariants.{CanContinue}
use Rattle.xsmp_messages.specs.declared.message.XsmpMessage.{XsmpMessage}
use Rattle.xsmp_messages.specs.declared.message.XsmpMessage.TheVariants.{Error, RegisterClient}
use Rattle.session_model.specs.declared.phase.Phase.{Phase}
use Rattle.session_model.specs.declared.phase.Phase.TheVariants.{Unregistered}
use Rattle.session_model.specs.Phases.{is_unregistered}
use Rattle.client_machine.specs.Phases.{ClientState, blamed_phase}
use Rattle.client_machine.specs.Taking.{is_bad_id, taken}
use Rattle.client_machine.specs.declared.phase.ClientPhase.{ClientPhase}
use Rattle.client_machine.specs.declared.phase.ClientPhase.TheVariants.{Dead, Registering}
use Rattle.client_machine.specs.declared.saves.SaveAsk.{SaveAsk}
use Rattle.end_agreement.specs.Sides.{Agrees, Side, at_phase, mirror}
use Rattle.end_agreement.specs.Hearing.{Fits, IsLast, again_by, is_again, suits_error}
use Rattle.end_agreement.specs.Meeting.{Meets, is_fatal, refuses_id}
use Rattle.end_agreement.specs.Laws.{CrossingsBegin, RegisteringAgainKeeps}
use Rattle.end_agreement.proofs.Walks.{each-more, goes-both}
use Rattle.end_agreement.proofs.Taken.{client_in}
use Rattle.end_agreement.proofs.Calm.{differ}

fatal-suits : (severity : Severity) (error : ErrorFields) (id : List ℕ) (ask : SaveAsk) → is_fatal severity ≡ true → suits_error severity error (client_in Registering id ask) ≡ true
fatal-suits CanContinue error id ask e = absurd (grind arith)
fatal-suits severity error id ask e = refl

fatal-once : (severity : Severity) (error : ErrorFields) (s : ClientState) → is_fatal severity ≡ true → again_by severity error s ≡ false
fatal-once CanContinue error s e = absurd (grind arith)
fatal-once severity error s e = refl

fatal-ends : (severity : Severity) → is_fatal severity ≡ true → blamed_phase severity Registering ≡ Dead
fatal-ends CanContinue e = absurd (grind arith)
fatal-ends severity e = refl

refused-fits : (side : Side) (id : List ℕ) (ask : SaveAsk) (error : ErrorFields) → is_fatal error.severity ≡ true → Fits (at_phase None side) (client_in Registering id ask) (Error error ∷ [])
refused-fits side id ask error e = (
  fatal-suits error.severity error id ask e,
  subst (λ (b : Bool). IsLast b (at_phase None side) []) (sym (fatal-once error.severity error (client_in Registering id ask) e)) tt,
  record { phase = fatal-ends error.severity e; shutdown = λ w. absurd (grind arith); style = λ w. absurd (grind arith) },
)

enters : (side : Side) (id : List ℕ) (ask : SaveAsk) → Meets (at_phase (Some Unregistered) side) (client_in Registering id ask) (RegisterClient [] ∷ []) []
enters side id ask =
    (refl, ((λ given. (refl, tt, record { phase = refl; shutdown = λ w. absurd (grind arith); style = λ w. absurd (grind arith) })), λ error fatal. refused-fits side id ask error fatal))

-- Its previous ID may be refused.

both-true : (b : Bool) → b ≡ true → (b && true && true) ≡ true
both-true true e = refl
both-true false e = e

refusal-suits : (severity : Severity) (error : ErrorFields) (b : ℕ) (id : List ℕ) (ask : SaveAsk) → refuses_id severity error ≡ true → suits_error severity error (client_in Registering (b ∷ id) ask) ≡ true
refusal-suits CanContinue error b id ask e = both-true (is_bad_id error) e
refusal-suits severity error b id ask e = absurd (grind arith)

refusal-last : (severity : Severity) (error : ErrorFields) (b : Bool) (side : Side) → refuses_id severity error ≡ true → IsLast b (at_phase (Some Unregistered) side) []
refusal-last severity error true side e = (refl, refl)
refusal-last severity error false side e = tt

refusal-stays : (severity : Severity) (error : ErrorFields) → refuses_id severity error ≡ true → blamed_phase severity Registering ≡ Registering
refusal-stays CanContinue error e = refl
refusal-stays severity error e = absurd (grind arith)

refusal-fits : (side : Side) (b : ℕ) (id : List ℕ) (ask : SaveAsk) (error : ErrorFields) → refuses_id error.severity error ≡ true → Fits (at_phase (Some Unregistered) side) (client_in Registering (b ∷ id) ask) (Error error ∷ [])
refusal-fits side b id ask error e = (
  refusal-suits error.severity error b id ask e,
  refusal-last error.severity error (is_again (Error error) (client_in Registering (b ∷ id) ask)) side e,
  record { phase = refusal-stays error.severity error e; shutdown = λ w. absurd (grind arith); style = λ w. absurd (grind arith) },
)

pub begins-meets : CrossingsBegin
begins-meets [] asked shutdown style = enters (record { phase = Some Unregistered; shutdown = shutdown; style = style }) [] asked
begins-meets (b ∷ id) asked shutdown style = (
  refl,
  (
    (λ given. (refl, tt, record { phase = refl; shutdown = λ w. absurd (grind arith); style = λ w. absurd (grind arith) })),
    λ error refused. refusal-fits (record { phase = Some Unregistered; shutdown = shutdown; style = style }) b id asked error refused,
  ),
)

-- where both wait for the client to register
enters-at : (side : Side) (s : ClientState) → side.phase ≡ Some Unregistered → Agrees side s → Meets side s (RegisterClient [] ∷ []) []
enters-at side s e a =
    let registering : s.phase ≡ Registering = a.phase ∙ ap (λ (p : Option Phase). mirror p) e in
    subst (λ (p : Option Phase). Meets (at_phase p side) s (RegisterClient [] ∷ []) []) (sym e)
    (subst (λ (ph : ClientPhase). Meets (at_phase (Some Unregistered) side) (client_in ph s.id s.asked) (RegisterClient [] ∷ []) []) (sym registering) (enters side s.id s.asked))

again-fits : (m : XsmpMessage) (side : Side) (s : ClientState) (down : List XsmpMessage) → is_again m s ≡ true → Fits side s (m ∷ down) → (side.phase ≡ Some Unregistered) × (down ≡ [])
again-fits m side s down e f = subst (λ (b : Bool). IsLast b side down) e f.1

pub again-meets : RegisteringAgainKeeps
again-meets m side s [] down e f =
    let l : (side.phase ≡ Some Unregistered) × (down ≡ []) = again-fits m side s down e f in
    subst (λ (xs : List XsmpMessage). Meets side (taken m s) (RegisterClient [] ∷ []) xs) (sym l.1)
    (enters-at side (taken m s) l.0 (subst (λ (xs : List XsmpMessage). Fits side (taken m s) xs) l.1 f.2))
again-meets m side s (u ∷ up) down e f =
    goes-both side.phase _ _ _ _
    (λ n k. absurd (differ (ap (λ (p : Option Phase). is_unregistered p) (again-fits m side s down e k).0) (ap (λ (p : Option Phase). is_unregistered p) n)))
    (λ g. (g.0, each-more u side _ _ (λ x a k. again-meets m x s up (down ++ a) e k) g.1)) f
