-- What the client takes.
use Rattle.std.proofs.Common.{◌≡◌, ◌≢◌, Bool, true, false, cond, ◌||◌, List, [], ◌∷◌, ◌++◌, ℕ, arith}
use Rattle.ice_values.specs.Fields.{ErrorFields}
use Rattle.ice_values.specs.declared.severity.Severity.{Severity}
use Rattle.ice_values.specs.declared.severity.Severity.TheVariants.{CanContinue}
use Rattle.xsmp_messages.specs.declared.message.XsmpMessage.{XsmpMessage}
use Rattle.xsmp_messages.specs.declared.message.XsmpMessage.TheVariants.{Die, Error, GetPropertiesReply, Interact, RegisterClient, RegisterClientReply, SaveComplete, SaveYourself, SaveYourselfPhase2, ShutdownCancelled}
use Rattle.client_machine.specs.Phases.{ClientState, is_dead, is_done, is_member, is_registered, is_registering}
use Rattle.client_machine.specs.Taking.{act_taken, blamed_act, registers_again, taken}
use Rattle.client_machine.specs.declared.acts.ClientAct.{ClientAct}
use Rattle.client_machine.specs.declared.acts.ClientAct.TheVariants.{Again, Cancelled, Complete, Nothing, Properties, Registered, Unexpected}
use Rattle.client_machine.specs.declared.phase.ClientPhase.{ClientPhase}
use Rattle.client_machine.specs.declared.phase.ClientPhase.TheVariants.{Asked, AskedTwo, Done, Idle, WantsTwo}
use Rattle.client_machine.specs.declared.saves.SaveAsk.{SaveAsk}
use Rattle.end_agreement.specs.Sides.{Side}
use Rattle.end_agreement.specs.Hearing.{suits, suits_alive}
use Rattle.end_agreement.specs.Meeting.{Meets}
use Rattle.end_agreement.specs.Laws.{EndsAgree, NothingIsUnexpected, TakingKeeps}
use Rattle.end_agreement.proofs.Walks.{each-more, each-some, goes-both, goes-some}

-- the client in this phase, asked this
abbrev pub client_in : ClientPhase → List ℕ → SaveAsk → ClientState
client_in phase id ask = record { phase = phase; id = id; asked = ask }

pub taking-meets : TakingKeeps
taking-meets m side s [] down f = f.2
taking-meets m side s (u ∷ up) down f =
    goes-both side.phase _ _ _ _ (λ n k. k.2) (λ g. (g.0, each-more u side _ _ (λ x a k. taking-meets m x s up (down ++ a) k) g.1)) f

-- the first message that waits for the client has its place
pub first-suits : (m : XsmpMessage) (side : Side) (s : ClientState) (up down : List XsmpMessage) → Meets side s up (m ∷ down) → suits m s ≡ true
first-suits m side s [] down f = f.0
first-suits m side s (u ∷ up) down f =
    goes-some side.phase _ _ (suits m s ≡ true) (λ k. k.0) (λ g. each-some u side (suits m s ≡ true) (each-more u side _ (λ x a. suits m s ≡ true) (λ x a k. first-suits m x s up (down ++ a) k) g.1)) f

-- a message that has its place isn't unexpected

cond-not : (b : Bool) (x y : ClientAct) → b ≡ true → x ≢ Unexpected → cond b x y ≢ Unexpected
cond-not true x y e n k = n k
cond-not false x y e n k = absurd (grind arith)

either-not : (b : Bool) (x y : ClientAct) → x ≢ Unexpected → y ≢ Unexpected → cond b x y ≢ Unexpected
either-not true x y n k e = n e
either-not false x y n k e = k e

blame-not : (severity : Severity) (error : ErrorFields) (s : ClientState) → blamed_act severity error s ≢ Unexpected
blame-not CanContinue error s k = either-not (registers_again error s) (Again (RegisterClient [])) Nothing (λ e. absurd cc) (λ e. absurd cc) k
blame-not severity error s k = absurd cc

expected : (m : XsmpMessage) (ph : ClientPhase) (id : List ℕ) (ask : SaveAsk) → suits_alive m (client_in ph id ask) ≡ true → act_taken m (client_in ph id ask) ≢ Unexpected
expected (Error error) ph id ask e = blame-not error.severity error (client_in ph id ask)
expected (RegisterClientReply given) ph id ask e = cond-not (is_registering ph) (Registered given) Unexpected e (λ k. absurd cc)
expected (SaveYourself kind shutdown style fast) Idle id ask e = λ k. absurd cc
expected (SaveYourself kind shutdown style fast) ph id ask e = absurd (grind arith)
expected Interact Asked id ask e = λ k. absurd cc
expected Interact AskedTwo id ask e = λ k. absurd cc
expected Interact ph id ask e = absurd (grind arith)
expected SaveYourselfPhase2 WantsTwo id ask e = λ k. absurd cc
expected SaveYourselfPhase2 ph id ask e = absurd (grind arith)
expected SaveComplete ph id ask e = either-not (is_done ph) Complete Nothing (λ k. absurd cc) (λ k. absurd cc)
expected ShutdownCancelled ph id ask e = either-not (is_member ph) Cancelled Nothing (λ k. absurd cc) (λ k. absurd cc)
expected Die Idle id ask e = λ k. absurd cc
expected Die Done id ask e = λ k. absurd cc
expected Die ph id ask e = absurd (grind arith)
expected (GetPropertiesReply list) ph id ask e = cond-not (is_registered ph) (Properties list) Unexpected e (λ k. absurd cc)
expected m ph id ask e = absurd (grind arith)

alive-suits : (b x : Bool) → b ≡ false → (b || x) ≡ true → x ≡ true
alive-suits true x e f = absurd (grind arith)
alive-suits false x e f = f

pub suited-expected : (m : XsmpMessage) (s : ClientState) → is_dead s.phase ≡ false → suits m s ≡ true → act_taken m s ≢ Unexpected
suited-expected m s alive f = expected m s.phase s.id s.asked (alive-suits (is_dead s.phase) (suits_alive m s) alive f)

pub not-unexpected : NothingIsUnexpected
not-unexpected m side s up down alive f = suited-expected m s alive (first-suits m side s up down f)

pub agree-in-the-end : EndsAgree
agree-in-the-end side s [] f = f
agree-in-the-end side s (m ∷ down) f = agree-in-the-end side (taken m s) down f.2
