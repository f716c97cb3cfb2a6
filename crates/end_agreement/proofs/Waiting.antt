-- What waits for a client has its place, each message as the client comes to it, whatever the manager knows of the client.
use Rattle.std.proofs.Common.{◌≡◌, sym, ap, ◌∙◌, subst, Bool, true, cond, List, [], ◌∷◌, ◌++◌, refl}
use Rattle.xsmp_messages.specs.declared.message.XsmpMessage.{XsmpMessage}
use Rattle.client_machine.specs.Asking.{after_asked, may_ask}
use Rattle.client_machine.specs.Phases.{ClientState, phase_given}
use Rattle.client_machine.specs.Taking.{taken}
use Rattle.client_machine.specs.declared.phase.ClientPhase.{ClientPhase}
use Rattle.client_machine.specs.declared.phase.ClientPhase.TheVariants.{Dead}
use Rattle.client_machine.specs.declared.requests.Request.{Request}
use Rattle.client_machine.specs.declared.requests.Request.TheVariants.{Close}
use Rattle.end_agreement.specs.Sides.{Side}
use Rattle.end_agreement.specs.Hearing.{Fits, suits}
use Rattle.end_agreement.specs.Meeting.{Meets}
use Rattle.end_agreement.proofs.Asking.{may-fit}
use Rattle.end_agreement.proofs.Calm.{dead-stays, dead-suits}
use Rattle.end_agreement.proofs.Requests.{Cross, cross, fit, said_by}
use Rattle.end_agreement.proofs.Walks.{each-more, each-some, goes-some}

abbrev pub AreSuited : ClientState → List XsmpMessage → Type 0
AreSuited s [] = Unit {0}
AreSuited s (m ∷ down) = (suits m s ≡ true) × AreSuited (taken m s) down

suited-front : (s : ClientState) (down more : List XsmpMessage) → AreSuited s (down ++ more) → AreSuited s down
suited-front s [] more f = tt
suited-front s (m ∷ down) more f = (f.0, suited-front (taken m s) down more f.1)

fits-suited : (side : Side) (s : ClientState) (down : List XsmpMessage) → Fits side s down → AreSuited s down
fits-suited side s [] f = tt
fits-suited side s (m ∷ down) f = (f.0, fits-suited side (taken m s) down f.2)

pub meets-suited : (side : Side) (s : ClientState) (up down : List XsmpMessage) → Meets side s up down → AreSuited s down
meets-suited side s [] down f = fits-suited side s down f
meets-suited side s (u ∷ up) down f =
    goes-some side.phase _ _ (AreSuited s down) (λ k. fits-suited side s down k)
    (λ g. each-some u side (AreSuited s down) (each-more u side _ (λ x a. AreSuited s down) (λ x a k. suited-front s down a (meets-suited x s up (down ++ a) k)) g.1)) f

-- one that is dead looks at nothing
pub dead-suited : (s : ClientState) (down : List XsmpMessage) → s.phase ≡ Dead → AreSuited s down
dead-suited s [] e = tt
dead-suited s (m ∷ down) e = (dead-suits m s e, dead-suited (taken m s) down (ap (λ (ph : ClientPhase). phase_given m ph) e ∙ dead-stays m))

-- The client asks for something.

said-suited : (r : Request) (s : ClientState) (down : List XsmpMessage) → fit r s ≡ true → AreSuited s down → AreSuited (said_by r s) down
said-suited r s [] e f = tt
said-suited r s (m ∷ down) e f =
    let k : Cross r m s = cross r m s e f.0 in
    (k.suits_it, subst (λ (x : ClientState). AreSuited x down) k.same (said-suited r (taken m s) down k.fits f.1))

said-or-closed : (r : Request) (s : ClientState) (down : List XsmpMessage) → may_ask r s ≡ true → AreSuited s down → AreSuited (said_by r s) down
said-or-closed (Close reasons) s down e f = dead-suited (said_by (Close reasons) s) down refl
said-or-closed r s down e f = said-suited r s down (may-fit r s refl e) f

pub asked-suited : (r : Request) (s : ClientState) (down : List XsmpMessage) → may_ask r s ≡ true → AreSuited s down → AreSuited (after_asked r s) down
asked-suited r s down e f = subst (λ (b : Bool). AreSuited (cond b (said_by r s) s) down) (sym e) (said-or-closed r s down e f)
