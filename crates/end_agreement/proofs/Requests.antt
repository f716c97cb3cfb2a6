-- What the client asks, and what was under way to it before.
use Rattle.std.proofs.Common.{◌≡◌, refl, sym, ap, ◌∙◌, subst, Bool, true, false, not, ◌&&◌, ◌||◌, List, [], ◌∷◌, ◌++◌, ℕ, arith, ◌⊎◌, inl, inr}
use Rattle.ice_values.specs.declared.saves.Dialog.{Dialog}
use Rattle.ice_values.specs.Fields.{ErrorFields}
use Rattle.ice_values.specs.declared.severity.Severity.{Severity}
use Rattle.ice_values.specs.declared.severity.Severity.TheVariants.{CanContinue}
use Rattle.xsmp_messages.specs.declared.message.XsmpMessage.{XsmpMessage}
use Rattle.xsmp_messages.specs.declared.message.XsmpMessage.TheVariants.{Error, GetPropertiesReply, ShutdownCancelled}
use Rattle.client_machine.specs.Phases.{ClientState, is_dead, is_first_saving, is_interacting, is_owing, is_registering, is_saving, phase_said}
use Rattle.client_machine.specs.Saves.{allows, may_cancel}
use Rattle.client_machine.specs.Taking.{taken}
use Rattle.client_machine.specs.declared.phase.ClientPhase.{ClientPhase}
use Rattle.client_machine.specs.declared.phase.ClientPhase.TheVariants.{Dead, Interacting, InteractingTwo, Owing, Saving, SavingTwo}
use Rattle.client_machine.specs.declared.requests.Request.{Request}
use Rattle.client_machine.specs.declared.requests.Request.TheVariants.{Close, Delete, Done as SayDone, Get, Interact as AskDialog, InteractDone as SayTalked, PhaseTwo, Save, Set}
use Rattle.client_machine.specs.declared.saves.SaveAsk.{SaveAsk}
use Rattle.end_agreement.specs.Sides.{Agrees, Side}
use Rattle.end_agreement.specs.Hearing.{Fits, IsLast, is_again, suits, suits_error}
use Rattle.end_agreement.proofs.Taken.{client_in}
use Rattle.end_agreement.proofs.Calm.{again-not, calm-still, calm-suits, dead-still, dead-suits, is_calm, lets_go_on, never-again}

-- Where a client is of which the manager may still hear this: it may ask so, or something crossed what it asked.
abbrev pub fit : Request → ClientState → Bool
fit (SayDone success) s = is_dead s.phase || is_owing s.phase || is_saving s.phase
fit PhaseTwo s = is_dead s.phase || is_owing s.phase || is_first_saving s.phase
fit (AskDialog dialog) s = is_dead s.phase || is_owing s.phase || is_saving s.phase && allows s.asked.style dialog
fit (SayTalked cancel) s = is_dead s.phase || is_owing s.phase || is_interacting s.phase && may_cancel s.asked.shutdown cancel
fit (Close reasons) s = false
fit r s = not (is_registering s.phase)

-- the client after it asked this
abbrev pub said_by : Request → ClientState → ClientState
said_by r s = record s { phase = phase_said r s.phase }

-- It makes no difference whether the client asks before it takes the message, or takes the message first.
pub record Cross (r : Request) (m : XsmpMessage) (s : ClientState) : Type 0 where
  pub fits : fit r (taken m s) ≡ true
  pub suits_it : suits m (said_by r s) ≡ true
  pub once : is_again m (said_by r s) ≡ false
  pub same : said_by r (taken m s) ≡ taken m (said_by r s)

cross-calm : (r : Request) (m : XsmpMessage) (ph : ClientPhase) (id : List ℕ) (ask : SaveAsk) → is_calm m ≡ true → is_registering ph ≡ false → is_registering (phase_said r ph) ≡ false → fit r (client_in ph id ask) ≡ true → Cross r m (client_in ph id ask)
cross-calm r m ph id ask c n k e = record {
  fits = subst (λ (x : ClientState). fit r x ≡ true) (sym (calm-still m ph id ask c n)) e;
  suits_it = calm-suits m (phase_said r ph) id ask c k;
  once = again-not m (client_in (phase_said r ph) id ask) k;
  same = ap (λ (x : ClientState). said_by r x) (calm-still m ph id ask c n) ∙ sym (calm-still m (phase_said r ph) id ask c k);
}

-- One that is dead

cross-dead : (r : Request) (m : XsmpMessage) (id : List ℕ) (ask : SaveAsk) → phase_said r Dead ≡ Dead → fit r (client_in Dead id ask) ≡ true → Cross r m (client_in Dead id ask)
cross-dead r m id ask p e =
    let same : said_by r (client_in Dead id ask) ≡ client_in Dead id ask = ap (λ (ph : ClientPhase). client_in ph id ask) p in
    let still : taken m (client_in Dead id ask) ≡ client_in Dead id ask = dead-still m id ask in
    record {
      fits = subst (λ (x : ClientState). fit r x ≡ true) (sym still) e;
      suits_it = dead-suits m (said_by r (client_in Dead id ask)) p;
      once = again-not m (said_by r (client_in Dead id ask)) (ap (λ (ph : ClientPhase). is_registering ph) p);
      same = ap (λ (x : ClientState). said_by r x) still ∙ same ∙ sym still ∙ sym (ap (λ (x : ClientState). taken m x) same);
    }

-- One that owes its answer takes only what is calm.

owing-blame : (severity : Severity) (error : ErrorFields) (id : List ℕ) (ask : SaveAsk) → suits_error severity error (client_in Owing id ask) ≡ true → lets_go_on severity ≡ true
owing-blame CanContinue error id ask f = refl
owing-blame severity error id ask f = absurd (grind arith)

owing-calm : (m : XsmpMessage) (id : List ℕ) (ask : SaveAsk) → suits m (client_in Owing id ask) ≡ true → is_calm m ≡ true
owing-calm (Error error) id ask f = owing-blame error.severity error id ask f
owing-calm (GetPropertiesReply list) id ask f = refl
owing-calm m id ask f = absurd (grind arith)

cross-owing : (r : Request) (m : XsmpMessage) (id : List ℕ) (ask : SaveAsk) → is_registering (phase_said r Owing) ≡ false → fit r (client_in Owing id ask) ≡ true → suits m (client_in Owing id ask) ≡ true → Cross r m (client_in Owing id ask)
cross-owing r m id ask k e f = cross-calm r m Owing id ask (owing-calm m id ask f) refl k e

-- One that saves or has the token takes what is calm, or hears that its save is cancelled.

abbrev is_open : ClientPhase → Bool
is_open Saving = true
is_open SavingTwo = true
is_open Interacting = true
is_open InteractingTwo = true
is_open ph = false

open-blame : (severity : Severity) (error : ErrorFields) (ph : ClientPhase) (id : List ℕ) (ask : SaveAsk) → is_open ph ≡ true → (is_dead ph || suits_error severity error (client_in ph id ask)) ≡ true → lets_go_on severity ≡ true
open-blame CanContinue error ph id ask o f = refl
open-blame severity error Saving id ask o f = absurd (grind arith)
open-blame severity error ph id ask o f = absurd (grind arith)

open-takes : (m : XsmpMessage) (ph : ClientPhase) (id : List ℕ) (ask : SaveAsk) → is_open ph ≡ true → suits m (client_in ph id ask) ≡ true → (is_calm m ≡ true) ⊎ (m ≡ ShutdownCancelled)
open-takes (Error error) ph id ask o f = inl (open-blame error.severity error ph id ask o f)
open-takes (GetPropertiesReply list) ph id ask o f = inl refl
open-takes ShutdownCancelled ph id ask o f = inr refl
open-takes m Saving id ask o f = absurd (grind arith)
open-takes m ph id ask o f = absurd (grind arith)

cross-open : (r : Request) (m : XsmpMessage) (ph : ClientPhase) (id : List ℕ) (ask : SaveAsk) → is_open ph ≡ true → is_registering ph ≡ false → is_registering (phase_said r ph) ≡ false → fit r (client_in ph id ask) ≡ true
    → suits m (client_in ph id ask) ≡ true → Cross r ShutdownCancelled (client_in ph id ask) → Cross r m (client_in ph id ask)
cross-open r m ph id ask o n k e f c = either (open-takes m ph id ask o f) where
  either : (is_calm m ≡ true) ⊎ (m ≡ ShutdownCancelled) → Cross r m (client_in ph id ask)
  either (inl calm) = cross-calm r m ph id ask calm n k e
  either (inr same) = subst (λ (x : XsmpMessage). Cross r x (client_in ph id ask)) (sym same) c

-- Each request

cross-done : (b : Bool) (m : XsmpMessage) (ph : ClientPhase) (id : List ℕ) (ask : SaveAsk) → fit (SayDone b) (client_in ph id ask) ≡ true → suits m (client_in ph id ask) ≡ true → Cross (SayDone b) m (client_in ph id ask)
cross-done b m Dead id ask e f = cross-dead (SayDone b) m id ask refl e
cross-done b m Owing id ask e f = cross-owing (SayDone b) m id ask refl e f
cross-done b m Saving id ask e f = cross-open (SayDone b) m Saving id ask refl refl refl e f (record { fits = refl; suits_it = refl; once = refl; same = refl })
cross-done b m SavingTwo id ask e f = cross-open (SayDone b) m SavingTwo id ask refl refl refl e f (record { fits = refl; suits_it = refl; once = refl; same = refl })
cross-done b m ph id ask e f = absurd (grind arith)

cross-two : (m : XsmpMessage) (ph : ClientPhase) (id : List ℕ) (ask : SaveAsk) → fit PhaseTwo (client_in ph id ask) ≡ true → suits m (client_in ph id ask) ≡ true → Cross PhaseTwo m (client_in ph id ask)
cross-two m Dead id ask e f = cross-dead PhaseTwo m id ask refl e
cross-two m Owing id ask e f = cross-owing PhaseTwo m id ask refl e f
cross-two m Saving id ask e f = cross-open PhaseTwo m Saving id ask refl refl refl e f (record { fits = refl; suits_it = refl; once = refl; same = refl })
cross-two m ph id ask e f = absurd (grind arith)

cross-dialog : (d : Dialog) (m : XsmpMessage) (ph : ClientPhase) (id : List ℕ) (ask : SaveAsk) → fit (AskDialog d) (client_in ph id ask) ≡ true → suits m (client_in ph id ask) ≡ true → Cross (AskDialog d) m (client_in ph id ask)
cross-dialog d m Dead id ask e f = cross-dead (AskDialog d) m id ask refl e
cross-dialog d m Owing id ask e f = cross-owing (AskDialog d) m id ask refl e f
cross-dialog d m Saving id ask e f = cross-open (AskDialog d) m Saving id ask refl refl refl e f (record { fits = refl; suits_it = refl; once = refl; same = refl })
cross-dialog d m SavingTwo id ask e f = cross-open (AskDialog d) m SavingTwo id ask refl refl refl e f (record { fits = refl; suits_it = refl; once = refl; same = refl })
cross-dialog d m ph id ask e f = absurd (grind arith)

cross-talked : (b : Bool) (m : XsmpMessage) (ph : ClientPhase) (id : List ℕ) (ask : SaveAsk) → fit (SayTalked b) (client_in ph id ask) ≡ true → suits m (client_in ph id ask) ≡ true → Cross (SayTalked b) m (client_in ph id ask)
cross-talked b m Dead id ask e f = cross-dead (SayTalked b) m id ask refl e
cross-talked b m Owing id ask e f = cross-owing (SayTalked b) m id ask refl e f
cross-talked b m Interacting id ask e f = cross-open (SayTalked b) m Interacting id ask refl refl refl e f (record { fits = refl; suits_it = refl; once = refl; same = refl })
cross-talked b m InteractingTwo id ask e f = cross-open (SayTalked b) m InteractingTwo id ask refl refl refl e f (record { fits = refl; suits_it = refl; once = refl; same = refl })
cross-talked b m ph id ask e f = absurd (grind arith)

pub not-true : (b : Bool) → not b ≡ true → b ≡ false
not-true true e = sym e
not-true false e = refl

later-not : (m : XsmpMessage) (s : ClientState) → not (is_registering s.phase) ≡ true → not (is_registering (taken m s).phase) ≡ true
later-not m s e = ap (λ (b : Bool). not b) (never-again m s.phase (not-true (is_registering s.phase) e))

pub cross : (r : Request) (m : XsmpMessage) (s : ClientState) → fit r s ≡ true → suits m s ≡ true → Cross r m s
cross (SayDone b) m s e f = cross-done b m s.phase s.id s.asked e f
cross PhaseTwo m s e f = cross-two m s.phase s.id s.asked e f
cross (AskDialog d) m s e f = cross-dialog d m s.phase s.id s.asked e f
cross (SayTalked b) m s e f = cross-talked b m s.phase s.id s.asked e f
cross (Close reasons) m s e f = absurd (grind arith)
cross (Save wanted) m s e f = record { fits = later-not m s e; suits_it = f; once = again-not m s (not-true (is_registering s.phase) e); same = refl }
cross (Set list) m s e f = record { fits = later-not m s e; suits_it = f; once = again-not m s (not-true (is_registering s.phase) e); same = refl }
cross (Delete names) m s e f = record { fits = later-not m s e; suits_it = f; once = again-not m s (not-true (is_registering s.phase) e); same = refl }
cross Get m s e f = record { fits = later-not m s e; suits_it = f; once = again-not m s (not-true (is_registering s.phase) e); same = refl }

-- Before both agree

pub said-fits : (r : Request) (side after : Side) (answers : List XsmpMessage) → ((s : ClientState) → fit r s ≡ true → Agrees side s → Fits after (said_by r s) answers) → (s : ClientState) (down : List XsmpMessage) → fit r s ≡ true → Fits side s down
    → Fits after (said_by r s) (down ++ answers)
said-fits r side after answers base s [] e f = base s e f
said-fits r side after answers base s (m ∷ down) e f =
    let k : Cross r m s = cross r m s e f.0 in
    (k.suits_it, subst (λ (b : Bool). IsLast b after (down ++ answers)) (sym k.once) tt, subst (λ (x : ClientState). Fits after x (down ++ answers)) k.same (said-fits r side after answers base (taken m s) down k.fits f.2))

pub last-fits : (r : Request) (side : Side) (P : Type 0) → ((s : ClientState) → fit r s ≡ true → Agrees side s → P) → (s : ClientState) (down : List XsmpMessage) → fit r s ≡ true → Fits side s down → P
last-fits r side P base s [] e f = base s e f
last-fits r side P base s (m ∷ down) e f = last-fits r side P base (taken m s) down (cross r m s e f.0).fits f.2
