-- The round that is held takes the steps that the history says.
use Rattle.std.proofs.Common.{◌≡◌, refl, ℕ, Bool, true, false, cond, not, List, [], ◌∷◌, map, eqb, sym, ap, subst, ◌∙◌, arith}
use Rattle.std.specs.Prelude.{Option, Some, None, is_some, if◌then◌else◌, ◌==◌}
use Rattle.std.proofs.lemmas.Bool.Decides.{nat_tests}
use Rattle.ice_values.specs.declared.property.Property.{Property}
use Rattle.xsmp_messages.specs.declared.message.XsmpMessage.{XsmpMessage}
use Rattle.xsmp_messages.specs.declared.message.XsmpMessage.TheVariants.{Die, Interact, InteractDone, InteractRequest, RegisterClientReply, SaveComplete, SaveYourself, SaveYourselfDone, SaveYourselfPhase2, SaveYourselfPhase2Request, ShutdownCancelled}
use Rattle.round_agreement.specs.declared.round.Member.{Member}
use Rattle.round_agreement.specs.declared.round.Step.{Step}
use Rattle.round_agreement.specs.declared.round.Step.TheVariants.{Done as AllDone, Saving as ToSave, WantsTwo as ToWantTwo}
use Rattle.round_agreement.specs.Agreement.{all_saving, is_nil, second_saving, second_step, with_step, without_member}
use Rattle.interact_queue.specs.Queue.{is_in, without}
use Rattle.session_model.specs.declared.phase.Phase.{Phase}
use Rattle.session_model.specs.declared.phase.Phase.TheVariants.{Asked, AskedTwo, Done, Idle, Interacting, InteractingTwo, Owing, Saving, SavingTwo, Unregistered, WantsTwo}
use Rattle.session_model.specs.declared.events.SessionEvent.{SessionEvent}
use Rattle.session_model.specs.declared.events.SessionEvent.TheVariants.{Joined, Left, Operator, Ready, Said, Tick}
use Rattle.session_model.specs.Phases.{asked_phase, begun_phase, held_phase, is_first_saving, is_saving, may_interact, phase_given, phase_said, ready_phase, registered_phase, saved_phase, second_begun_phase, second_phase, step_of, talked_phase}
use Rattle.session_model.specs.Moves.{Began, Closed, Gave, History, Move, Outside, Unset, ◌▷◌}
use Rattle.session_model.specs.Readings as of
use Rattle.session_model.proofs.Sound.{phase-there}
use Rattle.session_model.proofs.Asked.{is_at_work}
use Rattle.session_state.specs.Session.{in_round, round_after, round_said, with_second_at}
use Rattle.session_state.proofs.Known.{head-in, or-later, test-there}
use Rattle.session_state.proofs.Suits.{Suits, SuitsGiven, is_done}
use Rattle.session_state.proofs.Unsaved.{unsaved}

-- Rows of members

-- how far c is, where it is a member
abbrev at_step : (ℕ → Option Phase) → (ℕ → Option (List Property)) → ℕ → Member
at_step phase saved c = record { conn = c; step = step_of (phase c) (is_some (saved c)) }

rows-same : (p q : ℕ → Option Phase) (s t : ℕ → Option (List Property)) (cs : List ℕ) → ((c : ℕ) → is_in c cs ≡ true → step_of (p c) (is_some (s c)) ≡ step_of (q c) (is_some (t c))) → of.rows p s cs ≡ of.rows q t cs
rows-same p q s t [] k = refl
rows-same p q s t (c ∷ cs) k =
    let head : step_of (p c) (is_some (s c)) ≡ step_of (q c) (is_some (t c)) = k c (head-in c cs) in
    let tail : of.rows p s cs ≡ of.rows q t cs = rows-same p q s t cs (λ d i. k d (or-later (eqb c d) (is_in d cs) i)) in
    λ i. record { conn = c; step = head i } ∷ tail i

rows-mapped : (f : Member → Member) (p q : ℕ → Option Phase) (s t : ℕ → Option (List Property)) (cs : List ℕ) → ((c : ℕ) → f (at_step p s c) ≡ at_step q t c) → map f (of.rows p s cs) ≡ of.rows q t cs
rows-mapped f p q s t [] k = refl
rows-mapped f p q s t (c ∷ cs) k = λ i. k c i ∷ rows-mapped f p q s t cs k i

without-at : (b : Bool) (m n : Member) (ms ns : List Member) → (b ≡ true → m ≡ n) → ms ≡ ns → cond b (m ∷ ms) ms ≡ cond b (n ∷ ns) ns
without-at true m n ms ns k e = λ i. k refl i ∷ e i
without-at false m n ms ns k e = e

rows-kept : (b : Bool) (p : ℕ → Option Phase) (s : ℕ → Option (List Property)) (c : ℕ) (cs : List ℕ) → cond b (at_step p s c ∷ of.rows p s cs) (of.rows p s cs) ≡ of.rows p s (cond b (c ∷ cs) cs)
rows-kept true p s c cs = refl
rows-kept false p s c cs = refl

rows-without : (d : ℕ) (p q : ℕ → Option Phase) (s t : ℕ → Option (List Property)) (cs : List ℕ) → ((c : ℕ) → eqb d c ≡ false → step_of (p c) (is_some (s c)) ≡ step_of (q c) (is_some (t c)))
    → without_member d (of.rows p s cs) ≡ of.rows q t (without d cs)
rows-without d p q s t [] k = refl
rows-without d p q s t (c ∷ cs) k =
    without-at (not (c == d)) (at_step p s c) (at_step q t c) (without_member d (of.rows p s cs)) (of.rows q t (without d cs))
    (λ e i. record { conn = c; step = k c (grind (arith, nat_tests)) i }) (rows-without d p q s t cs k)
    ∙ rows-kept (not (c == d)) q t c (without d cs)

-- One connection comes to a step

if-at : (b : Bool) (c : ℕ) (step old new : Step) → (b ≡ true → step ≡ new) → (b ≡ false → old ≡ new) → if b then step else old ≡ new
if-at true c step old new k l = k refl
if-at false c step old new k l = l refl

rows-stepped : (d : ℕ) (step : Step) (p q : ℕ → Option Phase) (s t : ℕ → Option (List Property)) (cs : List ℕ) → ((c : ℕ) → eqb d c ≡ true → step ≡ step_of (q c) (is_some (t c)))
    → ((c : ℕ) → eqb d c ≡ false → step_of (p c) (is_some (s c)) ≡ step_of (q c) (is_some (t c))) → with_step d step (of.rows p s cs) ≡ of.rows q t cs
rows-stepped d step p q s t cs k l =
    rows-mapped _ p q s t cs (λ c i. record { conn = c; step = if-at (c == d) c step (step_of (p c) (is_some (s c))) (step_of (q c) (is_some (t c))) (λ e. k c (grind (arith, nat_tests))) (λ e. l c (grind (arith, nat_tests))) i })

second-at : (b : Bool) (m n : Member) → (b ≡ true → second_saving m ≡ n) → (b ≡ false → m ≡ n) → cond b (second_saving m) m ≡ n
second-at true m n k l = k refl
second-at false m n k l = l refl

rows-second : (d : ℕ) (p q : ℕ → Option Phase) (s t : ℕ → Option (List Property)) (cs : List ℕ) → ((c : ℕ) → eqb d c ≡ true → second_step (step_of (p c) (is_some (s c))) ≡ step_of (q c) (is_some (t c)))
    → ((c : ℕ) → eqb d c ≡ false → step_of (p c) (is_some (s c)) ≡ step_of (q c) (is_some (t c))) → with_second_at d (of.rows p s cs) ≡ of.rows q t cs
rows-second d p q s t cs k l =
    rows-mapped _ p q s t cs (λ c. second-at (c == d) (at_step p s c) (at_step q t c) (λ e i. record { conn = c; step = k c (grind (arith, nat_tests)) i }) (λ e i. record { conn = c; step = l c (grind (arith, nat_tests)) i }))

-- A round of members

in-course : (f : List Member → List Member) (o : Option of.Begun) (ms : List Member) → in_round f (of.course o ms) ≡ of.course o (f ms)
in-course f None ms = refl
in-course f (Some r) ms = refl

course-same : (o : Option of.Begun) (ms ns : List Member) → ms ≡ ns → of.course o ms ≡ of.course o ns
course-same o ms ns e = ap (λ (x : List Member). of.course o x) e

course-by : (f : List Member → List Member) (o : Option of.Begun) (ms ns : List Member) → f ms ≡ ns → in_round f (of.course o ms) ≡ of.course o ns
course-by f o ms ns e = in-course f o ms ∙ course-same o (f ms) ns e

-- Steps of one

-- b: it is this one that steps
step-at : (b : Bool) (p q : Option Phase) (s t : Option (List Property)) → (b ≡ true → step_of p (is_some s) ≡ step_of q (is_some t)) → step_of p (is_some s) ≡ step_of (cond b q p) (is_some (cond b t s))
step-at true p q s t k = k refl
step-at false p q s t k = refl

phase-at : (b : Bool) (p q : Option Phase) (s : Option (List Property)) → (b ≡ true → step_of p (is_some s) ≡ step_of q (is_some s)) → step_of p (is_some s) ≡ step_of (cond b q p) (is_some s)
phase-at true p q s k = k refl
phase-at false p q s k = refl

same-asked : (p : Option Phase) (x : Bool) → step_of p x ≡ step_of (asked_phase p) x
same-asked (Some Saving) x = refl
same-asked (Some SavingTwo) x = refl
same-asked p x = refl

same-talked : (p : Option Phase) (x : Bool) → step_of p x ≡ step_of (talked_phase p) x
same-talked (Some Interacting) x = refl
same-talked (Some InteractingTwo) x = refl
same-talked p x = refl

same-cond : (b : Bool) (p q : Option Phase) (x : Bool) → step_of p x ≡ step_of q x → step_of p x ≡ step_of (cond b q p) x
same-cond true p q x e = e
same-cond false p q x e = refl

same-ready : (p : Option Phase) (x : Bool) → step_of p x ≡ step_of (ready_phase p) x
same-ready None x = refl
same-ready (Some p) x = refl

same-registered : (p : Option Phase) (x : Bool) → step_of p x ≡ step_of (registered_phase p) x
same-registered (Some Unregistered) x = refl
same-registered p x = refl

same-held : (p : Option Phase) (x : Bool) → step_of p x ≡ step_of (held_phase p) x
same-held (Some Asked) x = refl
same-held (Some AskedTwo) x = refl
same-held p x = refl

same-begun : (p : Option Phase) (x y : Bool) → is_done p ≡ false → step_of p x ≡ step_of (begun_phase p) y
same-begun (Some Idle) x y e = refl
same-begun (Some Done) x y e = absurd (grind arith)
same-begun p x y e = refl

second-begun : (p : Option Phase) (x : Bool) → second_step (step_of p x) ≡ step_of (second_begun_phase p) x
second-begun (Some WantsTwo) x = refl
second-begun p x = refl

-- a success, as the snapshot says it
saved-step : (p : Option Phase) (table : List Property) (saved : Option (List Property)) → is_saving p ≡ true → AllDone true ≡ step_of (saved_phase p) (is_some (cond (is_saving p) (Some table) saved))
saved-step (Some Saving) table saved e = refl
saved-step (Some SavingTwo) table saved e = refl
saved-step p table saved e = absurd (grind arith)

failed-step : (p : Option Phase) (saved : Option (List Property)) → is_saving p ≡ true → saved ≡ None → AllDone false ≡ step_of (saved_phase p) (is_some saved)
failed-step (Some Saving) saved e k = ap (λ (x : Option (List Property)). AllDone (is_some x)) (sym k)
failed-step (Some SavingTwo) saved e k = ap (λ (x : Option (List Property)). AllDone (is_some x)) (sym k)
failed-step p saved e k = absurd (grind arith)

saving-underway : (p : Option Phase) → is_saving p ≡ true → is_at_work p ≡ true
saving-underway (Some Saving) e = refl
saving-underway (Some SavingTwo) e = refl
saving-underway p e = absurd (grind arith)

done-step : (c : ℕ) (success : Bool) (h : History) → is_saving (of.phase_of c h) ≡ true
    → AllDone success ≡ step_of (saved_phase (of.phase_of c h)) (is_some (of.saved_said c (SaveYourselfDone success) (λ x. of.phase_of x h) (λ x. of.table_of x h) (of.saved_of c h)))
done-step c true h e = saved-step (of.phase_of c h) (of.table_of c h) (of.saved_of c h) e
done-step c false h e = failed-step (of.phase_of c h) (of.saved_of c h) e (unsaved h c (saving-underway (of.phase_of c h) e))

-- where it doesn't save, saying so changes nothing
idle-saved : (p : Option Phase) (x : Bool) → is_saving p ≡ false → step_of p x ≡ step_of (saved_phase p) x
idle-saved (Some Saving) x e = absurd (grind arith)
idle-saved (Some SavingTwo) x e = absurd (grind arith)
idle-saved (Some Owing) x e = refl
idle-saved p x e = refl

idle-snapshot : (c : ℕ) (success : Bool) (h : History) → is_saving (of.phase_of c h) ≡ false → of.saved_of c h ≡ of.saved_said c (SaveYourselfDone success) (λ x. of.phase_of x h) (λ x. of.table_of x h) (of.saved_of c h)
idle-snapshot c true h e = sym (ap (λ (b : Bool). cond b (Some (of.table_of c h)) (of.saved_of c h)) e)
idle-snapshot c false h e = refl

idle-step : (c : ℕ) (success : Bool) (h : History) → is_saving (of.phase_of c h) ≡ false
    → step_of (of.phase_of c h) (is_some (of.saved_of c h)) ≡ step_of (saved_phase (of.phase_of c h)) (is_some (of.saved_said c (SaveYourselfDone success) (λ x. of.phase_of x h) (λ x. of.table_of x h) (of.saved_of c h)))
idle-step c success h e =
    idle-saved (of.phase_of c h) (is_some (of.saved_of c h)) e ∙ ap (λ (x : Option (List Property)). step_of (saved_phase (of.phase_of c h)) (is_some x)) (idle-snapshot c success h e)

second-wanted : (p : Option Phase) (x : Bool) → is_first_saving p ≡ true → ToWantTwo ≡ step_of (second_phase p) x
second-wanted (Some Saving) x e = refl
second-wanted p x e = absurd (grind arith)

second-unwanted : (p : Option Phase) (x : Bool) → is_first_saving p ≡ false → step_of p x ≡ step_of (second_phase p) x
second-unwanted (Some Saving) x e = absurd (grind arith)
second-unwanted p x e = refl

-- Messages of clients

-- the phases and snapshots after d said this
abbrev said_phases : ℕ → XsmpMessage → History → ℕ → Option Phase
said_phases d m h c = cond (eqb d c) (phase_said (λ dialog. may_interact (of.wanted h) dialog) m (of.phase_of c h)) (of.phase_of c h)

abbrev said_snapshots : ℕ → XsmpMessage → History → ℕ → Option (List Property)
said_snapshots d m h c = cond (eqb d c) (of.saved_said c m (λ x. of.phase_of x h) (λ x. of.table_of x h) (of.saved_of c h)) (of.saved_of c h)

-- the members after it
abbrev said_rows : ℕ → XsmpMessage → History → List Member
said_rows d m h = of.rows (λ c. said_phases d m h c) (λ c. said_snapshots d m h c) (of.members h)

abbrev rows_now : History → List Member
rows_now h = of.rows (λ c. of.phase_of c h) (λ c. of.saved_of c h) (of.members h)

other-at : (b : Bool) (p q : Option Phase) (s t : Option (List Property)) → b ≡ false → step_of p (is_some s) ≡ step_of (cond b q p) (is_some (cond b t s))
other-at true p q s t e = absurd (grind arith)
other-at false p q s t e = refl

this-at : (b : Bool) (step : Step) (p q : Option Phase) (s t : Option (List Property)) → b ≡ true → step ≡ step_of q (is_some t) → step ≡ step_of (cond b q p) (is_some (cond b t s))
this-at true step p q s t e k = k
this-at false step p q s t e k = absurd (grind arith)

-- nothing changes that counts
said-same : (d : ℕ) (m : XsmpMessage) (h : History) → ((c : ℕ) → eqb d c ≡ true → step_of (of.phase_of c h) (is_some (of.saved_of c h)) ≡ step_of (phase_said (λ dialog. may_interact (of.wanted h) dialog) m (of.phase_of c h)) (is_some (of.saved_said c m (λ x. of.phase_of x h) (λ x. of.table_of x h) (of.saved_of c h))))
    → of.round h ≡ of.course (of.running h) (said_rows d m h)
said-same d m h k =
    course-same (of.running h) (rows_now h) (said_rows d m h)
    (rows-same (λ c. of.phase_of c h) (λ c. said_phases d m h c) (λ c. of.saved_of c h) (λ c. said_snapshots d m h c) (of.members h)
    (λ c i. step-at (eqb d c) (of.phase_of c h) (phase_said (λ dialog. may_interact (of.wanted h) dialog) m (of.phase_of c h)) (of.saved_of c h) (of.saved_said c m (λ x. of.phase_of x h) (λ x. of.table_of x h) (of.saved_of c h)) (k c)))

-- d comes to a step
said-step : (d : ℕ) (m : XsmpMessage) (step : Step) (h : History) → ((c : ℕ) → eqb d c ≡ true → step ≡ step_of (phase_said (λ dialog. may_interact (of.wanted h) dialog) m (of.phase_of c h)) (is_some (of.saved_said c m (λ x. of.phase_of x h) (λ x. of.table_of x h) (of.saved_of c h))))
    → in_round (with_step d step) (of.round h) ≡ of.course (of.running h) (said_rows d m h)
said-step d m step h k =
    course-by (with_step d step) (of.running h) (rows_now h) (said_rows d m h)
    (rows-stepped d step (λ c. of.phase_of c h) (λ c. said_phases d m h c) (λ c. of.saved_of c h) (λ c. said_snapshots d m h c) (of.members h)
    (λ c e. this-at (eqb d c) step (of.phase_of c h) (phase_said (λ dialog. may_interact (of.wanted h) dialog) m (of.phase_of c h)) (of.saved_of c h) (of.saved_said c m (λ x. of.phase_of x h) (λ x. of.table_of x h) (of.saved_of c h)) e (k c e))
    (λ c e. other-at (eqb d c) (of.phase_of c h) (phase_said (λ dialog. may_interact (of.wanted h) dialog) m (of.phase_of c h)) (of.saved_of c h) (of.saved_said c m (λ x. of.phase_of x h) (λ x. of.table_of x h) (of.saved_of c h)) e))

done-round : (b : Bool) (d : ℕ) (success : Bool) (h : History) → is_saving (of.phase_of d h) ≡ b → cond b (in_round (with_step d (AllDone success)) (of.round h)) (of.round h) ≡ of.course (of.running h) (said_rows d (SaveYourselfDone success) h)
done-round true d success h e = said-step d (SaveYourselfDone success) (AllDone success) h (λ c f. done-step c success h (test-there (λ p. is_saving p) true d h e c f))
done-round false d success h e = said-same d (SaveYourselfDone success) h (λ c f. idle-step c success h (test-there (λ p. is_saving p) false d h e c f))

second-round : (b : Bool) (d : ℕ) (h : History) → is_first_saving (of.phase_of d h) ≡ b → cond b (in_round (with_step d ToWantTwo) (of.round h)) (of.round h) ≡ of.course (of.running h) (said_rows d SaveYourselfPhase2Request h)
second-round true d h e = said-step d SaveYourselfPhase2Request ToWantTwo h (λ c f. second-wanted (of.phase_of c h) (is_some (of.saved_of c h)) (test-there (λ p. is_first_saving p) true d h e c f))
second-round false d h e = said-same d SaveYourselfPhase2Request h (λ c f. second-unwanted (of.phase_of c h) (is_some (of.saved_of c h)) (test-there (λ p. is_first_saving p) false d h e c f))

said-round : (d : ℕ) (m : XsmpMessage) (h : History) → round_said d m (λ c. of.phase_of c h) (of.round h) ≡ of.course (of.running h) (said_rows d m h)
said-round d (SaveYourselfDone success) h = done-round (is_saving (of.phase_of d h)) d success h refl
said-round d SaveYourselfPhase2Request h = second-round (is_first_saving (of.phase_of d h)) d h refl
said-round d (InteractRequest dialog) h =
    said-same d (InteractRequest dialog) h (λ c f. same-cond (may_interact (of.wanted h) dialog) (of.phase_of c h) (asked_phase (of.phase_of c h)) (is_some (of.saved_of c h)) (same-asked (of.phase_of c h) (is_some (of.saved_of c h))))
said-round d (InteractDone false) h = said-same d (InteractDone false) h (λ c f. same-talked (of.phase_of c h) (is_some (of.saved_of c h)))
said-round d (InteractDone true) h = said-same d (InteractDone true) h (λ c f. refl)
said-round d m h = said-same d m h (λ c f. refl)

-- Messages to clients

abbrev given_rows : ℕ → XsmpMessage → History → List Member
given_rows d m h = of.rows (λ c. cond (eqb d c) (phase_given m (of.phase_of c h)) (of.phase_of c h)) (λ c. cond (eqb d c) (of.saved_given m (of.saved_of c h)) (of.saved_of c h)) (of.members h)

given-same : (d : ℕ) (m : XsmpMessage) (h : History) → ((c : ℕ) → is_in c (of.members h) ≡ true → eqb d c ≡ true → step_of (of.phase_of c h) (is_some (of.saved_of c h)) ≡ step_of (phase_given m (of.phase_of c h)) (is_some (of.saved_given m (of.saved_of c h))))
    → of.round h ≡ of.course (of.running h) (given_rows d m h)
given-same d m h k =
    course-same (of.running h) (rows_now h) (given_rows d m h)
    (rows-same (λ c. of.phase_of c h) (λ c. cond (eqb d c) (phase_given m (of.phase_of c h)) (of.phase_of c h)) (λ c. of.saved_of c h) (λ c. cond (eqb d c) (of.saved_given m (of.saved_of c h)) (of.saved_of c h)) (of.members h)
    (λ c i. step-at (eqb d c) (of.phase_of c h) (phase_given m (of.phase_of c h)) (of.saved_of c h) (of.saved_given m (of.saved_of c h)) (k c i)))

-- who isn't a member isn't one of the members
no-member : (c d : ℕ) (h : History) → is_in d (of.members h) ≡ false → is_in c (of.members h) ≡ true → eqb d c ≡ true → ⊥
no-member c d h n i e = let k : d ≡ c = grind (arith, nat_tests) in let j : is_in c (of.members h) ≡ false = subst (λ (x : ℕ). is_in x (of.members h) ≡ false) k n in grind arith

given-round : (d : ℕ) (m : XsmpMessage) (h : History) → SuitsGiven d m h → round_after (Gave d m) (λ c. of.phase_of c h) (of.round h) ≡ of.course (of.running h) (given_rows d m h)
given-round d SaveYourselfPhase2 h s =
    course-by (with_second_at d) (of.running h) (rows_now h) (given_rows d SaveYourselfPhase2 h)
    (rows-second d (λ c. of.phase_of c h) (λ c. cond (eqb d c) (second_begun_phase (of.phase_of c h)) (of.phase_of c h)) (λ c. of.saved_of c h) (λ c. cond (eqb d c) (of.saved_of c h) (of.saved_of c h)) (of.members h)
    (λ c e. this-at (eqb d c) (second_step (step_of (of.phase_of c h) (is_some (of.saved_of c h)))) (of.phase_of c h) (second_begun_phase (of.phase_of c h)) (of.saved_of c h) (of.saved_of c h) e (second-begun (of.phase_of c h) (is_some (of.saved_of c h))))
    (λ c e. other-at (eqb d c) (of.phase_of c h) (second_begun_phase (of.phase_of c h)) (of.saved_of c h) (of.saved_of c h) e))
given-round d (RegisterClientReply id) h s = given-same d (RegisterClientReply id) h (λ c i e. same-registered (of.phase_of c h) (is_some (of.saved_of c h)))
given-round d (SaveYourself kind shutdown style fast) h s =
    given-same d (SaveYourself kind shutdown style fast) h (λ c i e. same-begun (of.phase_of c h) (is_some (of.saved_of c h)) false (test-there (λ p. is_done p) false d h s c e))
given-round d Interact h s = given-same d Interact h (λ c i e. same-held (of.phase_of c h) (is_some (of.saved_of c h)))
given-round d SaveComplete h s = given-same d SaveComplete h (λ c i e. absurd (no-member c d h s i e))
given-round d ShutdownCancelled h s = given-same d ShutdownCancelled h (λ c i e. absurd (no-member c d h s i e))
given-round d Die h s = given-same d Die h (λ c i e. absurd (no-member c d h s i e))
given-round d m h s = given-same d m h (λ c i e. refl)

-- A beginning

idle-at : (p : Option Phase) (x : Bool) → p ≡ Some Idle → ToSave ≡ step_of p x
idle-at p x e = sym (ap (λ (q : Option Phase). step_of q x) e)

begun-rows : (conns : List ℕ) (h : History) → ((c : ℕ) → is_in c conns ≡ true → of.phase_of c h ≡ Some Idle) → all_saving conns ≡ of.rows (λ c. of.phase_of c h) (λ c. of.saved_of c h) conns
begun-rows [] h k = refl
begun-rows (c ∷ conns) h k =
    let head : ToSave ≡ step_of (of.phase_of c h) (is_some (of.saved_of c h)) = idle-at (of.phase_of c h) (is_some (of.saved_of c h)) (k c (head-in c conns)) in
    let tail : all_saving conns ≡ of.rows (λ d. of.phase_of d h) (λ d. of.saved_of d h) conns = begun-rows conns h (λ d i. k d (or-later (eqb c d) (is_in d conns) i)) in
    λ i. record { conn = c; step = head i } ∷ tail i

-- Departures

left-round : (d : ℕ) (h : History)
    → in_round (without_member d) (of.round h) ≡ of.course (of.running h) (of.rows (λ c. cond (eqb d c) None (of.phase_of c h)) (λ c. cond (eqb d c) None (of.saved_of c h)) (without d (of.members h)))
left-round d h =
    course-by (without_member d) (of.running h) (rows_now h) (of.rows (λ c. cond (eqb d c) None (of.phase_of c h)) (λ c. cond (eqb d c) None (of.saved_of c h)) (without d (of.members h)))
    (rows-without d (λ c. of.phase_of c h) (λ c. cond (eqb d c) None (of.phase_of c h)) (λ c. of.saved_of c h) (λ c. cond (eqb d c) None (of.saved_of c h)) (of.members h)
    (λ c e. other-at (eqb d c) (of.phase_of c h) None (of.saved_of c h) None e))

-- of one connection the phase alone changes
phase-round : (d : ℕ) (q : ℕ → Option Phase) (h : History) → ((c : ℕ) → eqb d c ≡ true → step_of (of.phase_of c h) (is_some (of.saved_of c h)) ≡ step_of (q c) (is_some (of.saved_of c h)))
    → of.round h ≡ of.course (of.running h) (of.rows (λ c. cond (eqb d c) (q c) (of.phase_of c h)) (λ c. of.saved_of c h) (of.members h))
phase-round d q h k =
    course-same (of.running h) (rows_now h) (of.rows (λ c. cond (eqb d c) (q c) (of.phase_of c h)) (λ c. of.saved_of c h) (of.members h))
    (rows-same (λ c. of.phase_of c h) (λ c. cond (eqb d c) (q c) (of.phase_of c h)) (λ c. of.saved_of c h) (λ c. of.saved_of c h) (of.members h)
    (λ c i. phase-at (eqb d c) (of.phase_of c h) (q c) (of.saved_of c h) (k c)))

unset-same : (p : Option Phase) (x : Bool) → p ≡ Some Unregistered → step_of p x ≡ step_of None x
unset-same p x e = ap (λ (q : Option Phase). step_of q x) e

heard-round : (event : SessionEvent) (h : History) → round_after (Outside event) (λ c. of.phase_of c h) (of.round h) ≡ of.round (Outside event ▷ h)
heard-round (Joined d) h = refl
heard-round (Ready d) h = phase-round d (λ c. ready_phase (of.phase_of c h)) h (λ c e. same-ready (of.phase_of c h) (is_some (of.saved_of c h)))
heard-round (Said d m sequence frame) h = said-round d m h
heard-round (Left d) h = left-round d h
heard-round (Operator order) h = refl
heard-round (Tick milliseconds) h = refl

pub round-step : (m : Move) (h : History) → Suits m h → round_after m (λ c. of.phase_of c h) (of.round h) ≡ of.round (m ▷ h)
round-step (Outside event) h s = heard-round event h
round-step (Gave d m) h s = given-round d m h s
round-step (Closed d) h s = left-round d h
round-step (Unset d) h s = phase-round d (λ c. None) h (λ c e. unset-same (of.phase_of c h) (is_some (of.saved_of c h)) (phase-there c d h (Some Unregistered) s e))
round-step (Began conns wanted) h s = λ i. Some (record { members = begun-rows conns h s i; began_empty = is_nil conns; wanted = wanted })
round-step m h s = refl
