-- Both ends still meet after the client asked for something.
use Rattle.std.proofs.Common.{◌≡◌, refl, sym, ap, ◌∙◌, subst, Bool, true, false, cond, not, ◌&&◌, ◌||◌, List, [], ◌∷◌, ◌++◌, arith}
use Rattle.std.specs.Prelude.{Option, Some, None}
use Rattle.ice_values.specs.declared.saves.Dialog.{Dialog}
use Rattle.ice_values.specs.declared.saves.Dialog.TheVariants.{Error as AboutError, Normal}
use Rattle.ice_values.specs.declared.saves.SaveStyle.{SaveStyle}
use Rattle.ice_values.specs.declared.saves.SaveStyle.TheVariants.{Any, Errors, Nothing}
use Rattle.xsmp_messages.specs.declared.message.XsmpMessage.{XsmpMessage}
use Rattle.xsmp_messages.specs.declared.message.XsmpMessage.TheVariants.{ShutdownCancelled}
use Rattle.session_model.specs.declared.phase.Phase.{Phase}
use Rattle.session_model.specs.declared.phase.Phase.TheVariants.{Interacting, InteractingTwo, Owing, Saving, SavingTwo, Unregistered}
use Rattle.session_model.specs.Phases as session
use Rattle.client_machine.specs.Asking.{may_ask, requested}
use Rattle.client_machine.specs.Phases.{ClientState, is_dead, is_first_saving, is_interacting, is_owing, is_registered, is_registering, is_saving, asked_phase, saved_phase, second_phase, talked_phase, phase_said}
use Rattle.client_machine.specs.Saves.{allows, may_cancel}
use Rattle.client_machine.specs.declared.phase.ClientPhase.{ClientPhase}
use Rattle.client_machine.specs.declared.phase.ClientPhase.TheVariants.{Dead, Registering}
use Rattle.client_machine.specs.declared.requests.Request.{Request}
use Rattle.client_machine.specs.declared.requests.Request.TheVariants.{Close, Delete, Done as SayDone, Get, Interact as AskDialog, InteractDone as SayTalked, PhaseTwo, Save, Set}
use Rattle.end_agreement.specs.Sides.{Agrees, Side, at_phase, is_at_work, mirror}
use Rattle.end_agreement.specs.Hearing.{Fits}
use Rattle.end_agreement.specs.Meeting.{EachAnswer, EachCancel, EachNeutral, Meets, has_place, is_deaf}
use Rattle.end_agreement.specs.Laws.{AskingKeeps, ClosingKeeps, after_closed}
use Rattle.end_agreement.proofs.Walks.{each-more, goes-both, goes-make}
use Rattle.end_agreement.proofs.Calm.{calm-tail, differ, fits-dead, neutral-calm, or-true, tail-nil}
use Rattle.end_agreement.proofs.Requests.{fit, last-fits, not-true, said_by, said-fits}

-- both ends know the same of a save
pub same-allows : (style : SaveStyle) (dialog : Dialog) → allows style dialog ≡ session.allows style dialog
same-allows Any dialog = refl
same-allows Errors AboutError = refl
same-allows Errors Normal = refl
same-allows Nothing dialog = refl

-- Where both agree, the manager has a place for what the client says.

place-done : (p : Option Phase) → (is_dead (mirror p) || is_owing (mirror p) || is_saving (mirror p)) ≡ true → (is_deaf p || (session.is_owing p || session.is_saving p)) ≡ true
place-done None e = e
place-done (Some Saving) e = e
place-done (Some p) e = e

place-two : (p : Option Phase) → (is_dead (mirror p) || is_owing (mirror p) || is_first_saving (mirror p)) ≡ true → (is_deaf p || (session.is_owing p || session.is_first_saving p)) ≡ true
place-two None e = e
place-two (Some Saving) e = e
place-two (Some p) e = e

place-dialog : (p : Option Phase) (a b : Bool) → (is_at_work p ≡ true → a ≡ b) → (is_dead (mirror p) || is_owing (mirror p) || is_saving (mirror p) && a) ≡ true → (is_deaf p || (session.is_owing p || session.is_saving p && b)) ≡ true
place-dialog None a b w e = refl
place-dialog (Some Saving) a b w e = sym (w refl) ∙ e
place-dialog (Some SavingTwo) a b w e = sym (w refl) ∙ e
place-dialog (Some p) a b w e = e

place-talked : (p : Option Phase) (a b c : Bool) → (is_at_work p ≡ true → a ≡ b) → (is_dead (mirror p) || is_owing (mirror p) || is_interacting (mirror p) && (a || c)) ≡ true
    → (is_deaf p || (session.is_owing p || session.is_interacting p && (b || c))) ≡ true
place-talked None a b c w e = refl
place-talked (Some Interacting) a b c w e = ap (λ (x : Bool). x || c) (sym (w refl)) ∙ e
place-talked (Some InteractingTwo) a b c w e = ap (λ (x : Bool). x || c) (sym (w refl)) ∙ e
place-talked (Some p) a b c w e = e

place-neutral : (p : Option Phase) → not (is_registering (mirror p)) ≡ true → (is_deaf p || session.is_bound p) ≡ true
place-neutral None e = e
place-neutral (Some Unregistered) e = e
place-neutral (Some p) e = refl

same-style : (side : Side) (s : ClientState) (d : Dialog) → Agrees side s → is_at_work side.phase ≡ true → allows s.asked.style d ≡ session.allows side.style d
same-style side s d a w = ap (λ (x : SaveStyle). allows x d) (a.style w) ∙ same-allows side.style d

places : (r : Request) (side : Side) (s : ClientState) → fit r s ≡ true → Agrees side s → has_place (requested r) side ≡ true
places (SayDone b) side s e a = place-done side.phase (subst (λ (ph : ClientPhase). (is_dead ph || is_owing ph || is_saving ph) ≡ true) a.phase e)
places PhaseTwo side s e a = place-two side.phase (subst (λ (ph : ClientPhase). (is_dead ph || is_owing ph || is_first_saving ph) ≡ true) a.phase e)
places (AskDialog d) side s e a =
    place-dialog side.phase (allows s.asked.style d) (session.allows side.style d) (same-style side s d a)
    (subst (λ (ph : ClientPhase). (is_dead ph || is_owing ph || is_saving ph && allows s.asked.style d) ≡ true) a.phase e)
places (SayTalked b) side s e a =
    place-talked side.phase s.asked.shutdown side.shutdown (not b) a.shutdown
    (subst (λ (ph : ClientPhase). (is_dead ph || is_owing ph || is_interacting ph && (s.asked.shutdown || not b)) ≡ true) a.phase e)
places (Close reasons) side s e a = absurd (grind arith)
places (Save wanted) side s e a = place-neutral side.phase (subst (λ (ph : ClientPhase). not (is_registering ph) ≡ true) a.phase e)
places (Set list) side s e a = place-neutral side.phase (subst (λ (ph : ClientPhase). not (is_registering ph) ≡ true) a.phase e)
places (Delete names) side s e a = place-neutral side.phase (subst (λ (ph : ClientPhase). not (is_registering ph) ≡ true) a.phase e)
places Get side s e a = place-neutral side.phase (subst (λ (ph : ClientPhase). not (is_registering ph) ≡ true) a.phase e)

-- Where both agree, they agree again once the manager has answered.

agree-by : (side : Side) (p : Option Phase) (s : ClientState) (ph : ClientPhase) → ph ≡ mirror p → (is_at_work p ≡ true → is_at_work side.phase ≡ true) → Agrees side s → Agrees (at_phase p side) (record s { phase = ph })
agree-by side p s ph e w a = record { phase = e; shutdown = λ k. a.shutdown (w k); style = λ k. a.style (w k) }

saved-both : (p : Option Phase) → saved_phase (mirror p) ≡ mirror (session.saved_phase p)
saved-both None = refl
saved-both (Some Saving) = refl
saved-both (Some p) = refl

saved-work : (p : Option Phase) → is_at_work (session.saved_phase p) ≡ true → is_at_work p ≡ true
saved-work None e = e
saved-work (Some Saving) e = refl
saved-work (Some SavingTwo) e = refl
saved-work (Some Owing) e = e
saved-work (Some p) e = e

second-both : (p : Option Phase) → second_phase (mirror p) ≡ mirror (session.second_phase p)
second-both None = refl
second-both (Some Saving) = refl
second-both (Some p) = refl

second-work : (p : Option Phase) → is_at_work (session.second_phase p) ≡ true → is_at_work p ≡ true
second-work None e = e
second-work (Some Saving) e = refl
second-work (Some p) e = e

talked-both : (p : Option Phase) → talked_phase (mirror p) ≡ mirror (session.talked_phase p)
talked-both None = refl
talked-both (Some Saving) = refl
talked-both (Some p) = refl

talked-work : (p : Option Phase) → is_at_work (session.talked_phase p) ≡ true → is_at_work p ≡ true
talked-work None e = e
talked-work (Some Interacting) e = refl
talked-work (Some InteractingTwo) e = refl
talked-work (Some p) e = e

asked-both : (p : Option Phase) (a b : Bool) → (is_at_work p ≡ true → a ≡ b) → (is_dead (mirror p) || is_owing (mirror p) || is_saving (mirror p) && a) ≡ true → asked_phase (mirror p) ≡ mirror (cond b (session.asked_phase p) p)
asked-both (Some Saving) a true w e = refl
asked-both (Some Saving) a false w e = absurd (differ e (w refl))
asked-both (Some SavingTwo) a true w e = refl
asked-both (Some SavingTwo) a false w e = absurd (differ e (w refl))
asked-both None a true w e = refl
asked-both None a false w e = refl
asked-both (Some p) a true w e = refl
asked-both (Some p) a false w e = refl

asked-work : (p : Option Phase) (b : Bool) → is_at_work (cond b (session.asked_phase p) p) ≡ true → is_at_work p ≡ true
asked-work p false e = e
asked-work None true e = e
asked-work (Some Saving) true e = refl
asked-work (Some SavingTwo) true e = refl
asked-work (Some p) true e = e

Base : Request → Side → Side → List XsmpMessage → Type 0
Base r side x a = (s : ClientState) → fit r s ≡ true → Agrees side s → Fits x (said_by r s) a

quiet-both : (p : Option Phase) → session.is_interacting p ≡ false → talked_phase (mirror p) ≡ mirror p
quiet-both None n = refl
quiet-both (Some Interacting) n = absurd (grind arith)
quiet-both (Some InteractingTwo) n = absurd (grind arith)
quiet-both (Some p) n = refl

-- the client that has the token wants the shutdown cancelled, and hears that it is
cancel-fits : (p : Option Phase) (side : Side) (s : ClientState) → side.phase ≡ p → session.is_interacting p ≡ true → s.phase ≡ mirror p → Fits (at_phase (session.cancelled_phase p) side) (record s { phase = talked_phase (mirror p) }) (ShutdownCancelled ∷ [])
cancel-fits (Some Interacting) side s n i e = (refl, tt, record { phase = refl; shutdown = λ w. absurd (grind arith); style = λ w. absurd (grind arith) })
cancel-fits (Some InteractingTwo) side s n i e = (refl, tt, record { phase = refl; shutdown = λ w. absurd (grind arith); style = λ w. absurd (grind arith) })
cancel-fits None side s n i e = absurd (grind arith)
cancel-fits (Some p) side s n i e = absurd (grind arith)

ways-cancel : (b : Bool) (side : Side) → session.is_interacting side.phase ≡ b → EachCancel b side (λ x a. Base (SayTalked true) side x a)
unfolding Base
ways-cancel true side i = λ s e a.
    subst (λ (ph : ClientPhase). Fits (at_phase (session.cancelled_phase side.phase) side) (record s { phase = talked_phase ph }) (ShutdownCancelled ∷ [])) (sym a.phase)
    (cancel-fits side.phase side s refl i a.phase)
ways-cancel false side i = λ s e a. agree-by side side.phase s (talked_phase s.phase) (ap (λ (ph : ClientPhase). talked_phase ph) a.phase ∙ quiet-both side.phase i) (λ w. w) a

ways-neutral : (r : Request) (side : Side) → ((s : ClientState) → fit r s ≡ true → is_registering s.phase ≡ false) → ((s : ClientState) → said_by r s ≡ s) → EachNeutral side (λ x a. Base r side x a)
unfolding Base
ways-neutral r side n k = (
  λ s e a. subst (λ (x : ClientState). Agrees side x) (sym (k s)) a,
  λ m neutral s e a. subst (λ (x : ClientState). Fits side x (m ∷ [])) (sym (k s)) (calm-tail side s (m ∷ []) (n s e) a (neutral-calm m neutral, tt)),
)

ways : (r : Request) (side : Side) → EachAnswer (requested r) side (λ x a. Base r side x a)
unfolding Base
ways (SayDone b) side = λ s e a. agree-by side (session.saved_phase side.phase) s (saved_phase s.phase) (ap (λ (ph : ClientPhase). saved_phase ph) a.phase ∙ saved-both side.phase) (saved-work side.phase) a
ways PhaseTwo side = λ s e a. agree-by side (session.second_phase side.phase) s (second_phase s.phase) (ap (λ (ph : ClientPhase). second_phase ph) a.phase ∙ second-both side.phase) (second-work side.phase) a
ways (AskDialog d) side = λ s e a.
    agree-by side (cond (session.allows side.style d) (session.asked_phase side.phase) side.phase) s (asked_phase s.phase)
    (ap (λ (ph : ClientPhase). asked_phase ph) a.phase
    ∙ asked-both side.phase (allows s.asked.style d) (session.allows side.style d) (same-style side s d a)
    (subst (λ (ph : ClientPhase). (is_dead ph || is_owing ph || is_saving ph && allows s.asked.style d) ≡ true) a.phase e))
    (asked-work side.phase (session.allows side.style d)) a
ways (SayTalked true) side = ways-cancel (session.is_interacting side.phase) side refl
ways (SayTalked false) side = λ s e a. agree-by side (session.talked_phase side.phase) s (talked_phase s.phase) (ap (λ (ph : ClientPhase). talked_phase ph) a.phase ∙ talked-both side.phase) (talked-work side.phase) a
ways (Close reasons) side = λ s e a. absurd (grind arith)
ways (Save wanted) side = ways-neutral (Save wanted) side (λ s e. not-true (is_registering s.phase) e) (λ s. refl)
ways (Set list) side = ways-neutral (Set list) side (λ s e. not-true (is_registering s.phase) e) (λ s. refl)
ways (Delete names) side = ways-neutral (Delete names) side (λ s e. not-true (is_registering s.phase) e) (λ s. refl)
ways Get side = ways-neutral Get side (λ s e. not-true (is_registering s.phase) e) (λ s. refl)

-- One whose connection is heard no more

said-dead : (r : Request) → phase_said r Dead ≡ Dead
said-dead (SayDone b) = refl
said-dead r = refl

gone-agrees : (r : Request) (side : Side) (s : ClientState) → side.phase ≡ None → Agrees side s → Agrees side (said_by r s)
gone-agrees r side s n a = record {
  phase = ap (λ (ph : ClientPhase). phase_said r ph) (a.phase ∙ ap (λ (p : Option Phase). mirror p) n) ∙ said-dead r ∙ sym (ap (λ (p : Option Phase). mirror p) n);
  shutdown = a.shutdown;
  style = a.style;
}

gone-fits : (r : Request) (side : Side) (s : ClientState) (down : List XsmpMessage) → side.phase ≡ None → fit r s ≡ true → Fits side s down → Fits side (said_by r s) down
gone-fits r side s down n e f = subst (λ (xs : List XsmpMessage). Fits side (said_by r s) xs) (tail-nil down) (said-fits r side side [] (λ x k a. gone-agrees r side x n a) s down e f)

said-meets : (r : Request) (side : Side) (s : ClientState) (up down : List XsmpMessage) → fit r s ≡ true → Meets side s up down → Meets side (said_by r s) (up ++ requested r ∷ []) down
unfolding Base
said-meets r side s [] down e f =
    goes-make side.phase _ _ (λ n. gone-fits r side s down n e f) (
      last-fits r side (has_place (requested r) side ≡ true) (λ x k a. places r side x k a) s down e f,
      each-more (requested r) side (λ x a. Base r side x a) (λ x a. Fits x (said_by r s) (down ++ a)) (λ x a k. said-fits r side x a k s down e f) (ways r side),
    )
said-meets r side s (u ∷ up) down e f =
    goes-both side.phase _ _ _ _ (λ n k. gone-fits r side s down n e k) (λ g. (g.0, each-more u side _ _ (λ x a k. said-meets r x s up (down ++ a) e k) g.1)) f

-- The client closes

pub closing-meets : ClosingKeeps
closing-meets reasons side s [] down f =
    goes-make side.phase _ _ (λ n. fits-dead side (after_closed s) down n refl) (or-true (is_deaf side.phase), fits-dead (at_phase None side) (after_closed s) (down ++ []) refl refl)
closing-meets reasons side s (u ∷ up) down f =
    goes-both side.phase _ _ _ _ (λ n k. fits-dead side (after_closed s) down n refl) (λ g. (g.0, each-more u side _ _ (λ x a k. closing-meets reasons x s up (down ++ a) k) g.1)) f

-- What the client may ask fits.

swapped : (a b c : Bool) → (c || b) ≡ true → (a || b || c) ≡ true
swapped true b c e = refl
swapped false true c e = refl
swapped false false true e = refl
swapped false false false e = e

last-of : (a b c : Bool) → c ≡ true → (a || b || c) ≡ true
last-of true b c e = refl
last-of false true c e = refl
last-of false false c e = e

registered-not : (ph : ClientPhase) → is_registered ph ≡ true → not (is_registering ph) ≡ true
registered-not Registering e = absurd (grind arith)
registered-not ph e = refl

first-true : (a b : Bool) → (a && b) ≡ true → a ≡ true
first-true true b e = refl
first-true false b e = e

abbrev pub is_close : Request → Bool
is_close (Close reasons) = true
is_close r = false

pub may-fit : (r : Request) (s : ClientState) → is_close r ≡ false → may_ask r s ≡ true → fit r s ≡ true
may-fit (SayDone b) s n e = swapped (is_dead s.phase) (is_owing s.phase) (is_saving s.phase) e
may-fit PhaseTwo s n e = last-of (is_dead s.phase) (is_owing s.phase) (is_first_saving s.phase) e
may-fit (AskDialog d) s n e = last-of (is_dead s.phase) (is_owing s.phase) (is_saving s.phase && allows s.asked.style d) e
may-fit (SayTalked b) s n e = last-of (is_dead s.phase) (is_owing s.phase) (is_interacting s.phase && may_cancel s.asked.shutdown b) e
may-fit (Close reasons) s n e = absurd (grind arith)
may-fit (Save wanted) s n e = registered-not s.phase (first-true (is_registered s.phase) _ e)
may-fit (Set list) s n e = registered-not s.phase e
may-fit (Delete names) s n e = registered-not s.phase e
may-fit Get s n e = registered-not s.phase e

said-or-closed : (r : Request) (side : Side) (s : ClientState) (up down : List XsmpMessage) → may_ask r s ≡ true → Meets side s up down → Meets side (said_by r s) (up ++ requested r ∷ []) down
said-or-closed (Close reasons) side s up down e f = closing-meets reasons side s up down f
said-or-closed r side s up down e f = said-meets r side s up down (may-fit r s refl e) f

pub asking-meets : AskingKeeps
asking-meets r side s up down e f =
    subst (λ (b : Bool). Meets side (cond b (said_by r s) s) (up ++ requested r ∷ []) down) (sym e) (said-or-closed r side s up down e f)
