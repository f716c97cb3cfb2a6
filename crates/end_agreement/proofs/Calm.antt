-- Messages that leave the client as it is, and clients that are dead.
use Rattle.std.proofs.Common.{◌≡◌, refl, sym, ap, ◌∙◌, subst, Bool, true, false, cond, not, ◌&&◌, ◌||◌, List, [], ◌∷◌, ◌++◌, ℕ, arith}
use Rattle.std.specs.Prelude.{Option, Some, None}
use Rattle.ice_values.specs.Fields.{ErrorFields}
use Rattle.ice_values.specs.declared.severity.Severity.{Severity}
use Rattle.ice_values.specs.declared.severity.Severity.TheVariants.{CanContinue}
use Rattle.xsmp_messages.specs.declared.message.XsmpMessage.{XsmpMessage}
use Rattle.xsmp_messages.specs.declared.message.XsmpMessage.TheVariants.{Die, Error, GetPropertiesReply, Interact, RegisterClient, RegisterClientReply, SaveComplete, SaveYourself, SaveYourselfPhase2, ShutdownCancelled}
use Rattle.session_model.specs.declared.phase.Phase.{Phase}
use Rattle.session_model.specs.declared.phase.Phase.TheVariants.{Unregistered}
use Rattle.client_machine.specs.Phases.{ClientState, blamed_phase, is_dead, is_registering, phase_given}
use Rattle.client_machine.specs.Taking.{asked_after, blamed_act, id_after, is_bad_id, registers_again, taken}
use Rattle.client_machine.specs.declared.acts.ClientAct.TheVariants.{Again, Nothing}
use Rattle.client_machine.specs.declared.phase.ClientPhase.{ClientPhase}
use Rattle.client_machine.specs.declared.phase.ClientPhase.TheVariants.{Dead, Registering}
use Rattle.client_machine.specs.declared.saves.SaveAsk.{SaveAsk}
use Rattle.round_agreement.specs.Agreement.{is_nil}
use Rattle.end_agreement.specs.Sides.{Agrees, Side, is_at_work, mirror}
use Rattle.end_agreement.specs.Hearing.{Fits, IsLast, again_by, is_again, suits, suits_alive, suits_error}
use Rattle.end_agreement.specs.Meeting.{is_mild, is_neutral}
use Rattle.end_agreement.proofs.Taken.{client_in}

pub differ : {b : Bool} → b ≡ true → b ≡ false → ⊥
differ e f = grind arith

pub or-true : (b : Bool) → (b || true) ≡ true
or-true true = refl
or-true false = refl

pub joined : (a b c : List XsmpMessage) → (a ++ b) ++ c ≡ a ++ (b ++ c)
joined [] b c = refl
joined (m ∷ a) b c = ap (λ (xs : List XsmpMessage). m ∷ xs) (joined a b c)

pub tail-nil : (a : List XsmpMessage) → a ++ [] ≡ a
tail-nil [] = refl
tail-nil (m ∷ a) = ap (λ (xs : List XsmpMessage). m ∷ xs) (tail-nil a)

-- Who is registered doesn't register.

abbrev pub lets_go_on : Severity → Bool
lets_go_on CanContinue = true
lets_go_on severity = false

-- a client that is registered is what it was before
abbrev pub is_calm : XsmpMessage → Bool
is_calm (Error error) = lets_go_on error.severity
is_calm (GetPropertiesReply list) = true
is_calm m = false

abbrev pub AreCalm : List XsmpMessage → Type 0
AreCalm [] = Unit {0}
AreCalm (m ∷ ms) = (is_calm m ≡ true) × AreCalm ms

pub calm-append : (a b : List XsmpMessage) → AreCalm a → AreCalm b → AreCalm (a ++ b)
calm-append [] b p q = q
calm-append (m ∷ a) b p q = (p.0, calm-append a b p.1 q)

mild-calm : (severity : Severity) (error : ErrorFields) → is_mild severity error ≡ true → lets_go_on severity ≡ true
mild-calm CanContinue error e = refl
mild-calm severity error e = e

pub neutral-calm : (m : XsmpMessage) → is_neutral m ≡ true → is_calm m ≡ true
neutral-calm (GetPropertiesReply list) e = refl
neutral-calm (Error error) e = mild-calm error.severity error e
neutral-calm m e = absurd (grind arith)

not-both : (a b c : Bool) → b ≡ false → (a && b && c) ≡ false
not-both true true c e = absurd (grind arith)
not-both true false c e = refl
not-both false b c e = refl

pub registers-not : (error : ErrorFields) (ph : ClientPhase) (id : List ℕ) (ask : SaveAsk) → is_registering ph ≡ false → registers_again error (client_in ph id ask) ≡ false
registers-not error ph id ask n = not-both (is_bad_id error) (is_registering ph) (not (is_nil id)) n

again-blame : (severity : Severity) (error : ErrorFields) (s : ClientState) → is_registering s.phase ≡ false → again_by severity error s ≡ false
again-blame CanContinue error s n = registers-not error s.phase s.id s.asked n
again-blame severity error s n = refl

pub again-not : (m : XsmpMessage) (s : ClientState) → is_registering s.phase ≡ false → is_again m s ≡ false
again-not (Error error) s n = again-blame error.severity error s n
again-not m s n = refl

blame-never : (severity : Severity) (ph : ClientPhase) → is_registering ph ≡ false → is_registering (blamed_phase severity ph) ≡ false
blame-never CanContinue ph n = n
blame-never severity ph n = refl

pub never-again : (m : XsmpMessage) (ph : ClientPhase) → is_registering ph ≡ false → is_registering (phase_given m ph) ≡ false
never-again (Error error) ph n = blame-never error.severity ph n
never-again (RegisterClientReply id) Registering n = refl
never-again (RegisterClientReply id) ph n = refl
never-again (SaveYourself kind shutdown style fast) Registering n = n
never-again (SaveYourself kind shutdown style fast) ph n = refl
never-again Interact Registering n = n
never-again Interact ph n = refl
never-again SaveYourselfPhase2 Registering n = n
never-again SaveYourselfPhase2 ph n = refl
never-again SaveComplete Registering n = n
never-again SaveComplete ph n = refl
never-again ShutdownCancelled Registering n = n
never-again ShutdownCancelled ph n = refl
never-again Die Registering n = n
never-again Die ph n = refl
never-again m ph n = n

-- What is calm leaves a client that doesn't register.

after_blame : Severity → ErrorFields → ClientPhase → List ℕ → SaveAsk → ClientState
after_blame severity error ph id ask =
    record { phase = blamed_phase severity ph; id = id_after (blamed_act severity error (client_in ph id ask)) id; asked = asked_after (blamed_act severity error (client_in ph id ask)) ask }

settles : (error : ErrorFields) (ph : ClientPhase) (id : List ℕ) (ask : SaveAsk) → is_registering ph ≡ false → after_blame CanContinue error ph id ask ≡ client_in ph id ask
unfolding after_blame
settles error ph id ask n =
    ap (λ (b : Bool). client_in ph (id_after (cond b (Again (RegisterClient [])) Nothing) id) (asked_after (cond b (Again (RegisterClient [])) Nothing) ask)) (registers-not error ph id ask n)

blame-still : (severity : Severity) (error : ErrorFields) (ph : ClientPhase) (id : List ℕ) (ask : SaveAsk) → lets_go_on severity ≡ true → is_registering ph ≡ false → after_blame severity error ph id ask ≡ client_in ph id ask
blame-still CanContinue error ph id ask c n = settles error ph id ask n
blame-still severity error ph id ask c n = absurd (grind arith)

pub calm-still : (m : XsmpMessage) (ph : ClientPhase) (id : List ℕ) (ask : SaveAsk) → is_calm m ≡ true → is_registering ph ≡ false → taken m (client_in ph id ask) ≡ client_in ph id ask
unfolding after_blame
calm-still (Error error) ph id ask c n = blame-still error.severity error ph id ask c n
calm-still (GetPropertiesReply list) Registering id ask c n = absurd (grind arith)
calm-still (GetPropertiesReply list) ph id ask c n = refl
calm-still m ph id ask c n = absurd (grind arith)

blame-suits : (severity : Severity) (error : ErrorFields) (ph : ClientPhase) (id : List ℕ) (ask : SaveAsk) → lets_go_on severity ≡ true → is_registering ph ≡ false → (is_dead ph || suits_error severity error (client_in ph id ask)) ≡ true
blame-suits CanContinue error Registering id ask c n = absurd (grind arith)
blame-suits CanContinue error ph id ask c n = refl
blame-suits severity error ph id ask c n = absurd (grind arith)

pub calm-suits : (m : XsmpMessage) (ph : ClientPhase) (id : List ℕ) (ask : SaveAsk) → is_calm m ≡ true → is_registering ph ≡ false → suits m (client_in ph id ask) ≡ true
calm-suits (Error error) ph id ask c n = blame-suits error.severity error ph id ask c n
calm-suits (GetPropertiesReply list) Registering id ask c n = absurd (grind arith)
calm-suits (GetPropertiesReply list) ph id ask c n = refl
calm-suits m ph id ask c n = absurd (grind arith)

-- A calm message before which the client registers is the refusal of its ID.

blame-first : (severity : Severity) (error : ErrorFields) (side : Side) (id : List ℕ) (ask : SaveAsk) (rest : List XsmpMessage) → lets_go_on severity ≡ true → suits_error severity error (client_in Registering id ask) ≡ true
    → IsLast (again_by severity error (client_in Registering id ask)) side rest → (side.phase ≡ Some Unregistered) × (rest ≡ [])
blame-first CanContinue error side id ask rest c f l = subst (λ (b : Bool). IsLast b side rest) f l
blame-first severity error side id ask rest c f l = absurd (grind arith)

calm-at : (m : XsmpMessage) (side : Side) (ph : ClientPhase) (id : List ℕ) (ask : SaveAsk) (rest : List XsmpMessage) → is_calm m ≡ true → suits m (client_in ph id ask) ≡ true → IsLast (is_again m (client_in ph id ask)) side rest
    → ((side.phase ≡ Some Unregistered) × (rest ≡ []) → ⊥) → is_registering ph ≡ false
calm-at (Error error) side Registering id ask rest c f l n = absurd (n (blame-first error.severity error side id ask rest c f l))
calm-at (GetPropertiesReply list) side Registering id ask rest c f l n = absurd (grind arith)
calm-at m side Registering id ask rest c f l n = absurd (grind arith)
calm-at m side ph id ask rest c f l n = refl

pub calm-registered : (m : XsmpMessage) (side : Side) (s : ClientState) (rest : List XsmpMessage) → is_calm m ≡ true → suits m s ≡ true → IsLast (is_again m s) side rest
    → ((side.phase ≡ Some Unregistered) × (rest ≡ []) → ⊥) → is_registering s.phase ≡ false
calm-registered m side s rest c f l n = calm-at m side s.phase s.id s.asked rest c f l n

pub calm-agrees : (side : Side) (s : ClientState) (b : List XsmpMessage) → (side.phase ≡ Some Unregistered → ⊥) → AreCalm b → Fits side s b → Agrees side s
calm-agrees side s [] n c f = f
calm-agrees side s (m ∷ b) n c f =
    let r : is_registering s.phase ≡ false = calm-registered m side s b c.0 f.0 f.1 (λ l. n l.0) in
    calm-agrees side s b n c.1 (subst (λ (x : ClientState). Fits side x b) (calm-still m s.phase s.id s.asked c.0 r) f.2)

pub calm-tail : (side : Side) (s : ClientState) (b : List XsmpMessage) → is_registering s.phase ≡ false → Agrees side s → AreCalm b → Fits side s b
calm-tail side s [] n a c = a
calm-tail side s (m ∷ b) n a c = (
  calm-suits m s.phase s.id s.asked c.0 n,
  subst (λ (x : Bool). IsLast x side b) (sym (again-not m s n)) tt,
  subst (λ (x : ClientState). Fits side x b) (sym (calm-still m s.phase s.id s.asked c.0 n)) (calm-tail side s b n a c.1),
)

pub last-on : (b : Bool) (side after : Side) (rest other : List XsmpMessage) → ((side.phase ≡ Some Unregistered) × (rest ≡ []) → ⊥) → IsLast b side rest → IsLast b after other
last-on true side after rest other n l = absurd (n l)
last-on false side after rest other n l = tt

-- A client that is dead takes all, and stays so.

blame-dead : (severity : Severity) (error : ErrorFields) (id : List ℕ) (ask : SaveAsk) → after_blame severity error Dead id ask ≡ client_in Dead id ask
unfolding after_blame
blame-dead CanContinue error id ask = settles error Dead id ask refl
blame-dead severity error id ask = refl

pub dead-still : (m : XsmpMessage) (id : List ℕ) (ask : SaveAsk) → taken m (client_in Dead id ask) ≡ client_in Dead id ask
unfolding after_blame
dead-still (Error error) id ask = blame-dead error.severity error id ask
dead-still m id ask = refl

pub dead-suits : (m : XsmpMessage) (s : ClientState) → s.phase ≡ Dead → suits m s ≡ true
dead-suits m s e = ap (λ (x : ClientPhase). is_dead x || suits_alive m s) e

blame-dies : (severity : Severity) → blamed_phase severity Dead ≡ Dead
blame-dies CanContinue = refl
blame-dies severity = refl

pub dead-stays : (m : XsmpMessage) → phase_given m Dead ≡ Dead
dead-stays (Error error) = blame-dies error.severity
dead-stays m = refl

pub fits-dead : (side : Side) (s : ClientState) (down : List XsmpMessage) → side.phase ≡ None → s.phase ≡ Dead → Fits side s down
fits-dead side s [] n e = record {
  phase = e ∙ sym (ap (λ (p : Option Phase). mirror p) n);
  shutdown = λ w. absurd (differ w (ap (λ (p : Option Phase). is_at_work p) n));
  style = λ w. absurd (differ w (ap (λ (p : Option Phase). is_at_work p) n));
}
fits-dead side s (m ∷ down) n e = (
  dead-suits m s e,
  subst (λ (x : Bool). IsLast x side down) (sym (again-not m s (ap (λ (ph : ClientPhase). is_registering ph) e))) tt,
  fits-dead side (taken m s) down n (ap (λ (ph : ClientPhase). phase_given m ph) e ∙ dead-stays m),
)
