-- The queue for the token that is held takes the steps that the history says.
use Rattle.std.proofs.Common.{◌≡◌, refl, ℕ, Bool, true, false, cond, not, ◌&&◌, List, [], ◌∷◌, ◌++◌, filter, eqb, sym, ap, subst, ◌∙◌, arith}
use Rattle.std.specs.Prelude.{Option, Some, None, ◌==◌}
use Rattle.std.proofs.lemmas.Bool.Decides.{nat_tests}
use Rattle.ice_values.specs.declared.saves.Dialog.{Dialog}
use Rattle.xsmp_messages.specs.declared.message.XsmpMessage.{XsmpMessage}
use Rattle.xsmp_messages.specs.declared.message.XsmpMessage.TheVariants.{Die, Interact, InteractDone, InteractRequest, RegisterClientReply, SaveComplete, SaveYourself, SaveYourselfDone, SaveYourselfPhase2, SaveYourselfPhase2Request, ShutdownCancelled}
use Rattle.interact_queue.specs.Queue.{holder_without, is_holder, without}
use Rattle.session_model.specs.declared.phase.Phase.{Phase}
use Rattle.session_model.specs.declared.phase.Phase.TheVariants.{Asked, AskedTwo, Done, Idle, Interacting, InteractingTwo, Owing, Saving, SavingTwo, Unregistered, WantsTwo}
use Rattle.session_model.specs.declared.events.SessionEvent.{SessionEvent}
use Rattle.session_model.specs.declared.events.SessionEvent.TheVariants.{Joined, Left, Operator, Ready, Said, Tick}
use Rattle.session_model.specs.Phases.{asked_phase, begun_phase, cancelled_phase, completed_phase, dying_phase, held_phase, is_asked, is_interacting, is_saving, may_interact, ready_phase, registered_phase, saved_phase, second_begun_phase, second_phase, talked_phase}
use Rattle.session_model.specs.Moves.{Closed, Gave, History, Move, Outside, Unset, ◌▷◌}
use Rattle.session_model.specs.Readings as of
use Rattle.session_model.proofs.Sound.{phase-there}
use Rattle.session_model.proofs.Rest.{asked-held}
use Rattle.session_model.proofs.Asked.{cancelled-asked, saving-asked}
use Rattle.session_model.proofs.Falls.{dying-asked}
use Rattle.session_state.specs.Session.{Turns, turns_after, turns_said, turns_without}
use Rattle.session_state.proofs.Known.{flips, own, test-there}
use Rattle.session_state.proofs.Suits.{Suits, SuitsGiven}

pub record Queued (turns : Turns) (h : History) : Type 0 where
  pub waiting_is : turns.waiting ≡ of.waiting h
  pub holder_is : (c : ℕ) → is_holder c turns.holder ≡ is_interacting (of.phase_of c h)

-- Lists

filter-same : (p q : ℕ → Bool) (cs : List ℕ) → ((c : ℕ) → p c ≡ q c) → filter p cs ≡ filter q cs
filter-same p q cs k = λ i. filter (λ c. k c i) cs

-- b: it is the one; t: it passes the test
without-at : (b t : Bool) (d c : ℕ) (cs ds : List ℕ) → (c == d) ≡ b → without d cs ≡ ds → without d (cond t (c ∷ cs) cs) ≡ cond (not b && t) (c ∷ ds) ds
without-at true true d c cs ds e k = ap (λ (b : Bool). cond (not b) (c ∷ without d cs) (without d cs)) e ∙ k
without-at true false d c cs ds e k = k
without-at false true d c cs ds e k = ap (λ (b : Bool). cond (not b) (c ∷ without d cs) (without d cs)) e ∙ ap (λ (xs : List ℕ). c ∷ xs) k
without-at false false d c cs ds e k = k

filter-without : (test : ℕ → Bool) (d : ℕ) (cs : List ℕ) → without d (filter test cs) ≡ filter (λ c. not (c == d) && test c) cs
filter-without test d [] = refl
filter-without test d (c ∷ cs) = without-at (c == d) (test c) d c (filter test cs) (filter (λ x. not (x == d) && test x) cs) refl (filter-without test d cs)

-- Steps that leave the token

-- a step by which nobody begins or ends to wait, or gets the token or gives it back
pub record Still (p q : Option Phase) : Type 0 where
  pub asked : is_asked p ≡ is_asked q
  pub interacting : is_interacting p ≡ is_interacting q

still-same : (p : Option Phase) → Still p p
still-same p = record { asked = refl; interacting = refl }

still-at : (b : Bool) (p q : Option Phase) → (b ≡ true → Still p q) → Still p (cond b q p)
still-at true p q s = s refl
still-at false p q s = still-same p

still-saved : (p : Option Phase) → Still p (saved_phase p)
still-saved (Some Saving) = record { asked = refl; interacting = refl }
still-saved (Some SavingTwo) = record { asked = refl; interacting = refl }
still-saved (Some Owing) = record { asked = refl; interacting = refl }
still-saved p = record { asked = refl; interacting = refl }

still-second : (p : Option Phase) → Still p (second_phase p)
still-second (Some Saving) = record { asked = refl; interacting = refl }
still-second p = record { asked = refl; interacting = refl }

still-ready : (p : Option Phase) → Still p (ready_phase p)
still-ready None = record { asked = refl; interacting = refl }
still-ready (Some p) = record { asked = refl; interacting = refl }

still-registered : (p : Option Phase) → Still p (registered_phase p)
still-registered (Some Unregistered) = record { asked = refl; interacting = refl }
still-registered p = record { asked = refl; interacting = refl }

still-begun : (p : Option Phase) → Still p (begun_phase p)
still-begun (Some Idle) = record { asked = refl; interacting = refl }
still-begun p = record { asked = refl; interacting = refl }

still-second_begun : (p : Option Phase) → Still p (second_begun_phase p)
still-second_begun (Some WantsTwo) = record { asked = refl; interacting = refl }
still-second_begun p = record { asked = refl; interacting = refl }

still-completed : (p : Option Phase) → Still p (completed_phase p)
still-completed (Some Done) = record { asked = refl; interacting = refl }
still-completed p = record { asked = refl; interacting = refl }

still-unset : (p : Option Phase) → p ≡ Some Unregistered → Still p None
still-unset p e = record { asked = ap (λ (q : Option Phase). is_asked q) e; interacting = ap (λ (q : Option Phase). is_interacting q) e }

still-idle_asked : (p : Option Phase) → is_saving p ≡ false → Still p (asked_phase p)
still-idle_asked (Some Saving) e = absurd (grind arith)
still-idle_asked (Some SavingTwo) e = absurd (grind arith)
still-idle_asked p e = record { asked = refl; interacting = refl }

still-idle_talked : (p : Option Phase) → is_interacting p ≡ false → Still p (talked_phase p)
still-idle_talked (Some Interacting) e = absurd (grind arith)
still-idle_talked (Some InteractingTwo) e = absurd (grind arith)
still-idle_talked p e = record { asked = refl; interacting = refl }

-- each is still, and nobody asks
queued-still : (turns : Turns) (m : Move) (h : History) → ((c : ℕ) → Still (of.phase_of c h) (of.phase_of c (m ▷ h))) → of.askers (m ▷ h) ≡ of.askers h → Queued turns h → Queued turns (m ▷ h)
queued-still turns m h k a q = record {
  waiting_is = q.waiting_is ∙ filter-same (λ c. is_asked (of.phase_of c h)) (λ c. is_asked (of.phase_of c (m ▷ h))) (of.askers h) (λ c. (k c).asked) ∙ ap (λ (cs : List ℕ). filter (λ c. is_asked (of.phase_of c (m ▷ h))) cs) (sym a);
  holder_is = λ c. q.holder_is c ∙ (k c).interacting;
}

-- Steps by which one goes out of the queue

out-at : (b : Bool) (i x : Bool) → x ≡ false → (not b && i) ≡ cond b x i
out-at true i x e = sym e
out-at false i x e = refl

test-at : (test : Option Phase → Bool) (b : Bool) (p q : Option Phase) → cond b (test q) (test p) ≡ test (cond b q p)
test-at test true p q = refl
test-at test false p q = refl

holder-out : (d c : ℕ) (holder : Option ℕ) → is_holder c (holder_without d holder) ≡ (not (d == c) && is_holder c holder)
holder-out d c None = grind arith
holder-out d c (Some e) = grind (arith, nat_tests)

-- d is out of the queue: it neither waits nor has the token, and the others stay as they are
queued-out : (d : ℕ) (q : ℕ → Option Phase) (turns : Turns) (m : Move) (h : History) → ((c : ℕ) → of.phase_of c (m ▷ h) ≡ cond (eqb d c) (q c) (of.phase_of c h)) → ((c : ℕ) → is_asked (q c) ≡ false) → ((c : ℕ) → is_interacting (q c) ≡ false) → of.askers (m ▷ h) ≡ of.askers h
    → Queued turns h → Queued (turns_without d turns) (m ▷ h)
queued-out d q turns m h step a b same queued = record {
  waiting_is =
      ap (λ (cs : List ℕ). without d cs) queued.waiting_is
      ∙ filter-without (λ c. is_asked (of.phase_of c h)) d (of.askers h)
      ∙ filter-same (λ c. not (c == d) && is_asked (of.phase_of c h)) (λ c. is_asked (of.phase_of c (m ▷ h))) (of.askers h)
      (λ c. ap (λ (x : Bool). not x && is_asked (of.phase_of c h)) (flips c d) ∙ out-at (d == c) (is_asked (of.phase_of c h)) (is_asked (q c)) (a c)
      ∙ test-at (λ p. is_asked p) (d == c) (of.phase_of c h) (q c) ∙ sym (ap (λ (p : Option Phase). is_asked p) (step c)))
      ∙ ap (λ (cs : List ℕ). filter (λ c. is_asked (of.phase_of c (m ▷ h))) cs) (sym same);
  holder_is = λ c.
      holder-out d c turns.holder ∙ ap (λ (x : Bool). not (d == c) && x) (queued.holder_is c) ∙ out-at (d == c) (is_interacting (of.phase_of c h)) (is_interacting (q c)) (b c)
      ∙ test-at (λ p. is_interacting p) (d == c) (of.phase_of c h) (q c) ∙ sym (ap (λ (p : Option Phase). is_interacting p) (step c));
}

cancelled-interacting : (p : Option Phase) → is_interacting (cancelled_phase p) ≡ false
cancelled-interacting None = refl
cancelled-interacting (Some Done) = refl
cancelled-interacting (Some p) = refl

dying-interacting : (p : Option Phase) → is_interacting (dying_phase p) ≡ false
dying-interacting None = refl
dying-interacting (Some Unregistered) = refl
dying-interacting (Some p) = refl

-- One gets the token

held-asked : (p : Option Phase) → is_asked (held_phase p) ≡ false
held-asked (Some Asked) = refl
held-asked (Some AskedTwo) = refl
held-asked p = refl

token-at : (b : Bool) (p : Option Phase) → (b ≡ true → is_asked p ≡ true) → is_interacting p ≡ false → b ≡ is_interacting (cond b (held_phase p) p)
token-at true p a n = sym (asked-held p (a refl))
token-at false p a n = sym n

queued-token : (d : ℕ) (turns : Turns) (h : History) → SuitsGiven d Interact h → Queued turns h → Queued (record { waiting = without d turns.waiting; holder = Some d }) (Gave d Interact ▷ h)
queued-token d turns h s queued = record {
  waiting_is =
      ap (λ (cs : List ℕ). without d cs) queued.waiting_is
      ∙ filter-without (λ c. is_asked (of.phase_of c h)) d (of.askers h)
      ∙ filter-same (λ c. not (c == d) && is_asked (of.phase_of c h)) (λ c. is_asked (of.phase_of c (Gave d Interact ▷ h))) (of.askers h)
      (λ c. ap (λ (x : Bool). not x && is_asked (of.phase_of c h)) (flips c d) ∙ out-at (d == c) (is_asked (of.phase_of c h)) (is_asked (held_phase (of.phase_of c h))) (held-asked (of.phase_of c h))
      ∙ test-at (λ p. is_asked p) (d == c) (of.phase_of c h) (held_phase (of.phase_of c h)));
  holder_is = λ c. token-at (d == c) (of.phase_of c h) (test-there (λ p. is_asked p) true d h s.0 c) (s.1 c);
}

-- One asks for it

pub saving-idle : (p : Option Phase) → is_saving p ≡ true → is_asked p ≡ false
saving-idle (Some Saving) e = refl
saving-idle (Some SavingTwo) e = refl
saving-idle p e = absurd (grind arith)

interacting-asked : (p : Option Phase) → is_interacting p ≡ is_interacting (asked_phase p)
interacting-asked (Some Saving) = refl
interacting-asked (Some SavingTwo) = refl
interacting-asked p = refl

filter-append : (test : ℕ → Bool) (cs : List ℕ) (d : ℕ) → test d ≡ true → filter test (cs ++ d ∷ []) ≡ filter test cs ++ d ∷ []
filter-append test [] d e = ap (λ (b : Bool). cond b (d ∷ []) []) e
filter-append test (c ∷ cs) d e = append-at (test c) c (filter test (cs ++ d ∷ [])) (filter test cs) (filter-append test cs d e) where
  append-at : (b : Bool) (c : ℕ) (xs ys : List ℕ) → xs ≡ ys ++ d ∷ [] → cond b (c ∷ xs) xs ≡ cond b (c ∷ ys) ys ++ d ∷ []
  append-at true c xs ys k = ap (λ (zs : List ℕ). c ∷ zs) k
  append-at false c xs ys k = k

-- of the others the same pass, and d passes no test
filter-others : (p q : ℕ → Bool) (d : ℕ) (cs : List ℕ) → ((c : ℕ) → (c == d) ≡ false → p c ≡ q c) → p d ≡ false → filter p cs ≡ filter q (without d cs)
filter-others p q d [] k n = refl
filter-others p q d (c ∷ cs) k n = others-at (c == d) (p c) c (filter p cs) (without d cs) (filter-others p q d cs k n) refl refl where
  others-at : (b t : Bool) (c : ℕ) (xs ys : List ℕ) → xs ≡ filter q ys → (c == d) ≡ b → p c ≡ t → cond t (c ∷ xs) xs ≡ filter q (cond (not b) (c ∷ ys) ys)
  others-at true true c xs ys e f g = let i : c ≡ d = grind (arith, nat_tests) in let j : p c ≡ false = subst (λ (x : ℕ). p x ≡ false) (sym i) n in absurd (grind arith)
  others-at true false c xs ys e f g = e
  others-at false t c xs ys e f g = λ i. cond ((sym g ∙ k c f) i) (c ∷ e i) (e i)

ask-at : (b : Bool) (p : Option Phase) → b ≡ false → is_asked p ≡ is_asked (cond b (asked_phase p) p)
ask-at true p e = absurd (grind arith)
ask-at false p e = refl

ask-interacting : (b : Bool) (p : Option Phase) → is_interacting p ≡ is_interacting (cond b (asked_phase p) p)
ask-interacting true p = interacting-asked p
ask-interacting false p = refl

own-at : (b : Bool) (p q : Option Phase) → b ≡ true → is_asked q ≡ true → is_asked (cond b q p) ≡ true
own-at true p q e k = k
own-at false p q e k = absurd (grind arith)

-- the phases after d was heard to ask
abbrev asked_phases : ℕ → History → ℕ → Option Phase
asked_phases d h c = cond (eqb d c) (asked_phase (of.phase_of c h)) (of.phase_of c h)

waiting-asked : (d : ℕ) (waiting : List ℕ) (h : History) → is_saving (of.phase_of d h) ≡ true → waiting ≡ of.waiting h
    → waiting ++ d ∷ [] ≡ filter (λ c. is_asked (asked_phases d h c)) (without d (of.askers h) ++ d ∷ [])
waiting-asked d waiting h e w =
    ap (λ (cs : List ℕ). cs ++ d ∷ []) (w
    ∙ filter-others (λ c. is_asked (of.phase_of c h)) (λ c. is_asked (asked_phases d h c)) d (of.askers h) (λ c f. ask-at (eqb d c) (of.phase_of c h) (flips d c ∙ f)) (saving-idle (of.phase_of d h) e))
    ∙ sym (filter-append (λ c. is_asked (asked_phases d h c)) (without d (of.askers h)) d (own-at (eqb d d) (of.phase_of d h) (asked_phase (of.phase_of d h)) (own d) (saving-asked (of.phase_of d h) e)))

-- the queue and its holder, where d steps to this phase
abbrev QueuedAt : ℕ → (ℕ → Option Phase) → Turns → History → Type 0
QueuedAt d q turns h =
    (turns.waiting ≡ filter (λ c. is_asked (cond (eqb d c) (q c) (of.phase_of c h))) (of.askers h))
    × ((c : ℕ) → is_holder c turns.holder ≡ is_interacting (cond (eqb d c) (q c) (of.phase_of c h)))

queued-at : (d : ℕ) (q : ℕ → Option Phase) (turns : Turns) (h : History) → ((c : ℕ) → eqb d c ≡ true → Still (of.phase_of c h) (q c)) → Queued turns h → QueuedAt d q turns h
queued-at d q turns h k queued = (
  queued.waiting_is ∙ filter-same (λ c. is_asked (of.phase_of c h)) (λ c. is_asked (cond (eqb d c) (q c) (of.phase_of c h))) (of.askers h) (λ c. (still-at (eqb d c) (of.phase_of c h) (q c) (k c)).asked),
  λ c. queued.holder_is c ∙ (still-at (eqb d c) (of.phase_of c h) (q c) (k c)).interacting,
)

-- s: it saves; a: the dialog is allowed
queued-ask : (s a : Bool) (d : ℕ) (turns : Turns) (h : History) → is_saving (of.phase_of d h) ≡ s → Queued turns h
    → (cond (s && a) (turns.waiting ++ d ∷ []) turns.waiting ≡ filter (λ c. is_asked (cond (eqb d c) (cond a (asked_phase (of.phase_of c h)) (of.phase_of c h)) (of.phase_of c h))) (cond (s && a) (without d (of.askers h) ++ d ∷ []) (of.askers h)))
    × ((c : ℕ) → is_holder c turns.holder ≡ is_interacting (cond (eqb d c) (cond a (asked_phase (of.phase_of c h)) (of.phase_of c h)) (of.phase_of c h)))
queued-ask true true d turns h e queued = (waiting-asked d turns.waiting h e queued.waiting_is, λ c. queued.holder_is c ∙ ask-interacting (eqb d c) (of.phase_of c h))
queued-ask true false d turns h e queued = queued-at d (λ c. of.phase_of c h) turns h (λ c f. still-same (of.phase_of c h)) queued
queued-ask false true d turns h e queued = queued-at d (λ c. asked_phase (of.phase_of c h)) turns h (λ c f. still-idle_asked (of.phase_of c h) (test-there (λ p. is_saving p) false d h e c f)) queued
queued-ask false false d turns h e queued = queued-at d (λ c. of.phase_of c h) turns h (λ c f. still-same (of.phase_of c h)) queued

turns-cond : (b : Bool) (turns : Turns) (waiting : List ℕ) (h : History) → cond b waiting turns.waiting ≡ of.waiting h → ((c : ℕ) → is_holder c turns.holder ≡ is_interacting (of.phase_of c h))
    → Queued (cond b (record { waiting = waiting; holder = turns.holder }) turns) h
turns-cond true turns waiting h w k = record { waiting_is = w; holder_is = k }
turns-cond false turns waiting h w k = record { waiting_is = w; holder_is = k }

queued-request : (d : ℕ) (dialog : Dialog) (sequence : ℕ) (frame : List ℕ) (turns : Turns) (h : History) → Queued turns h
    → Queued (turns_said d (InteractRequest dialog) (λ c. of.phase_of c h) (λ x. may_interact (of.wanted h) x) turns) (Outside (Said d (InteractRequest dialog) sequence frame) ▷ h)
queued-request d dialog sequence frame turns h queued =
    turns-cond (is_saving (of.phase_of d h) && may_interact (of.wanted h) dialog) turns (turns.waiting ++ d ∷ []) (Outside (Said d (InteractRequest dialog) sequence frame) ▷ h)
    (queued-ask (is_saving (of.phase_of d h)) (may_interact (of.wanted h) dialog) d turns h refl queued).0 (queued-ask (is_saving (of.phase_of d h)) (may_interact (of.wanted h) dialog) d turns h refl queued).1

-- One gives it back

talked-asked : (p : Option Phase) → is_asked p ≡ is_asked (talked_phase p)
talked-asked (Some Interacting) = refl
talked-asked (Some InteractingTwo) = refl
talked-asked p = refl

talked-interacting : (p : Option Phase) → is_interacting (talked_phase p) ≡ false
talked-interacting (Some Interacting) = refl
talked-interacting (Some InteractingTwo) = refl
talked-interacting p = refl

holds-alone : (c d : ℕ) (holder : Option ℕ) → is_holder c holder ≡ true → is_holder d holder ≡ true → (d == c) ≡ true
holds-alone c d None e f = absurd (grind arith)
holds-alone c d (Some x) e f = grind (arith, nat_tests)

-- nobody has the token after this one gave it back
given-back : (b : Bool) (p : Option Phase) → (is_interacting p ≡ true → b ≡ true) → false ≡ is_interacting (cond b (talked_phase p) p)
given-back true p k = sym (talked-interacting p)
given-back false p k = none (is_interacting p) refl where
  none : (x : Bool) → is_interacting p ≡ x → false ≡ is_interacting p
  none true e = absurd (grind (arith, k e))
  none false e = sym e

talk-asked : (b : Bool) (p : Option Phase) → is_asked p ≡ is_asked (cond b (talked_phase p) p)
talk-asked true p = talked-asked p
talk-asked false p = refl

-- i: it has the token
queued-talked : (i : Bool) (d : ℕ) (sequence : ℕ) (frame : List ℕ) (turns : Turns) (h : History) → is_interacting (of.phase_of d h) ≡ i → Queued turns h
    → Queued (cond i (record { waiting = turns.waiting; holder = None }) turns) (Outside (Said d (InteractDone false) sequence frame) ▷ h)
queued-talked true d sequence frame turns h e queued = record {
  waiting_is = queued.waiting_is ∙ filter-same (λ c. is_asked (of.phase_of c h)) (λ c. is_asked (cond (eqb d c) (talked_phase (of.phase_of c h)) (of.phase_of c h))) (of.askers h) (λ c. talk-asked (eqb d c) (of.phase_of c h));
  holder_is = λ c. given-back (eqb d c) (of.phase_of c h) (λ f. holds-alone c d turns.holder (queued.holder_is c ∙ f) (queued.holder_is d ∙ e));
}
queued-talked false d sequence frame turns h e queued =
    queued-still turns (Outside (Said d (InteractDone false) sequence frame)) h
    (λ c. still-at (eqb d c) (of.phase_of c h) (talked_phase (of.phase_of c h)) (λ f. still-idle_talked (of.phase_of c h) (test-there (λ p. is_interacting p) false d h e c f))) refl queued

-- Moves

queued-said : (d : ℕ) (m : XsmpMessage) (sequence : ℕ) (frame : List ℕ) (turns : Turns) (h : History) → Queued turns h
    → Queued (turns_said d m (λ c. of.phase_of c h) (λ x. may_interact (of.wanted h) x) turns) (Outside (Said d m sequence frame) ▷ h)
queued-said d (InteractRequest dialog) sequence frame turns h queued = queued-request d dialog sequence frame turns h queued
queued-said d (InteractDone false) sequence frame turns h queued = queued-talked (is_interacting (of.phase_of d h)) d sequence frame turns h refl queued
queued-said d (InteractDone true) sequence frame turns h queued =
    queued-still turns (Outside (Said d (InteractDone true) sequence frame)) h (λ c. still-at (eqb d c) (of.phase_of c h) (of.phase_of c h) (λ f. still-same (of.phase_of c h))) refl queued
queued-said d (SaveYourselfDone success) sequence frame turns h queued =
    queued-still turns (Outside (Said d (SaveYourselfDone success) sequence frame)) h (λ c. still-at (eqb d c) (of.phase_of c h) (saved_phase (of.phase_of c h)) (λ f. still-saved (of.phase_of c h))) refl queued
queued-said d SaveYourselfPhase2Request sequence frame turns h queued =
    queued-still turns (Outside (Said d SaveYourselfPhase2Request sequence frame)) h (λ c. still-at (eqb d c) (of.phase_of c h) (second_phase (of.phase_of c h)) (λ f. still-second (of.phase_of c h))) refl queued
queued-said d m sequence frame turns h queued =
    queued-still turns (Outside (Said d m sequence frame)) h (λ c. still-at (eqb d c) (of.phase_of c h) (of.phase_of c h) (λ f. still-same (of.phase_of c h))) refl queued

queued-heard : (event : SessionEvent) (turns : Turns) (h : History) → Queued turns h → Queued (turns_after (Outside event) (λ c. of.phase_of c h) (λ x. may_interact (of.wanted h) x) turns) (Outside event ▷ h)
queued-heard (Joined d) turns h queued = queued-still turns (Outside (Joined d)) h (λ c. still-same (of.phase_of c h)) refl queued
queued-heard (Ready d) turns h queued = queued-still turns (Outside (Ready d)) h (λ c. still-at (eqb d c) (of.phase_of c h) (ready_phase (of.phase_of c h)) (λ f. still-ready (of.phase_of c h))) refl queued
queued-heard (Said d m sequence frame) turns h queued = queued-said d m sequence frame turns h queued
queued-heard (Left d) turns h queued = queued-out d (λ c. None) turns (Outside (Left d)) h (λ c. refl) (λ c. refl) (λ c. refl) refl queued
queued-heard (Operator order) turns h queued = queued-still turns (Outside (Operator order)) h (λ c. still-same (of.phase_of c h)) refl queued
queued-heard (Tick milliseconds) turns h queued = queued-still turns (Outside (Tick milliseconds)) h (λ c. still-same (of.phase_of c h)) refl queued

queued-given : (d : ℕ) (m : XsmpMessage) (turns : Turns) (h : History) → SuitsGiven d m h → Queued turns h → Queued (turns_after (Gave d m) (λ c. of.phase_of c h) (λ x. may_interact (of.wanted h) x) turns) (Gave d m ▷ h)
queued-given d Interact turns h s queued = queued-token d turns h s queued
queued-given d ShutdownCancelled turns h s queued =
    queued-out d (λ c. cancelled_phase (of.phase_of c h)) turns (Gave d ShutdownCancelled) h (λ c. refl) (λ c. cancelled-asked (of.phase_of c h)) (λ c. cancelled-interacting (of.phase_of c h)) refl queued
queued-given d Die turns h s queued = queued-out d (λ c. dying_phase (of.phase_of c h)) turns (Gave d Die) h (λ c. refl) (λ c. dying-asked (of.phase_of c h)) (λ c. dying-interacting (of.phase_of c h)) refl queued
queued-given d (RegisterClientReply id) turns h s queued =
    queued-still turns (Gave d (RegisterClientReply id)) h (λ c. still-at (eqb d c) (of.phase_of c h) (registered_phase (of.phase_of c h)) (λ f. still-registered (of.phase_of c h))) refl queued
queued-given d (SaveYourself kind shutdown style fast) turns h s queued =
    queued-still turns (Gave d (SaveYourself kind shutdown style fast)) h (λ c. still-at (eqb d c) (of.phase_of c h) (begun_phase (of.phase_of c h)) (λ f. still-begun (of.phase_of c h))) refl queued
queued-given d SaveYourselfPhase2 turns h s queued =
    queued-still turns (Gave d SaveYourselfPhase2) h (λ c. still-at (eqb d c) (of.phase_of c h) (second_begun_phase (of.phase_of c h)) (λ f. still-second_begun (of.phase_of c h))) refl queued
queued-given d SaveComplete turns h s queued =
    queued-still turns (Gave d SaveComplete) h (λ c. still-at (eqb d c) (of.phase_of c h) (completed_phase (of.phase_of c h)) (λ f. still-completed (of.phase_of c h))) refl queued
queued-given d m turns h s queued = queued-still turns (Gave d m) h (λ c. still-at (eqb d c) (of.phase_of c h) (of.phase_of c h) (λ f. still-same (of.phase_of c h))) refl queued

pub queued-step : (m : Move) (turns : Turns) (h : History) → Suits m h → Queued turns h → Queued (turns_after m (λ c. of.phase_of c h) (λ x. may_interact (of.wanted h) x) turns) (m ▷ h)
queued-step (Outside event) turns h s queued = queued-heard event turns h queued
queued-step (Gave d m) turns h s queued = queued-given d m turns h s queued
queued-step (Closed d) turns h s queued = queued-out d (λ c. None) turns (Closed d) h (λ c. refl) (λ c. refl) (λ c. refl) refl queued
queued-step (Unset d) turns h s queued =
    queued-still turns (Unset d) h (λ c. still-at (eqb d c) (of.phase_of c h) None (λ f. still-unset (of.phase_of c h) (phase-there c d h (Some Unregistered) s f))) refl queued
queued-step m turns h s queued = queued-still turns m h (λ c. still-same (of.phase_of c h)) refl queued
