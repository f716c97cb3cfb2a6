-- The requests that are open are those of the clients that wait.
use Rattle.std.proofs.Common.{◌≡◌, refl, ℕ, Bool, true, false, cond, not, ◌&&◌, ◌||◌, List, [], ◌∷◌, ◌++◌, filter, eqb, sym, ap, ◌∙◌, arith}
use Rattle.std.specs.Prelude.{Option, Some, None}
use Rattle.std.proofs.lemmas.Bool.Decides.{nat_tests}
use Rattle.ice_values.specs.declared.saves.Dialog.{Dialog}
use Rattle.xsmp_messages.specs.declared.message.XsmpMessage.{XsmpMessage}
use Rattle.xsmp_messages.specs.declared.message.XsmpMessage.TheVariants.{RegisterClientReply, SaveYourself, InteractRequest, Interact, InteractDone, SaveYourselfDone, Die, ShutdownCancelled, SaveYourselfPhase2Request, SaveYourselfPhase2, SaveComplete}
use Rattle.interact_queue.specs.Queue.{is_in, without}
use Rattle.session_model.specs.declared.phase.Phase.{Phase}
use Rattle.session_model.specs.declared.phase.Phase.TheVariants.{Unregistered, Idle, Saving, Asked, Interacting, WantsTwo, SavingTwo, AskedTwo, InteractingTwo, Done, Owing}
use Rattle.session_model.specs.declared.events.SessionEvent.TheVariants.{Ready, Said}
use Rattle.session_model.specs.Phases.{is_asked, is_dying, is_owing, is_saving, may_interact, asked_phase, cancelled_phase, held_phase, phase_given, phase_said, ready_phase}
use Rattle.session_model.specs.Moves.{Outside, Gave, Unset, History, ◌▷◌}
use Rattle.session_model.specs.Readings as of
use Rattle.session_model.proofs.Asked.{cancelled-asked, phases-tell, saving-asked}
use Rattle.session_model.proofs.Sound.{phase-there, DieAtEnd}
use Rattle.session_notes.specs.Notes.{Note, Heard, Given, Gone}
use Rattle.session_notes.specs.Watching.{was_asked, requests}
use Rattle.session_notes.proofs.Steps.{saving-member, saving-not-asked}
use Rattle.session_notes.proofs.Told.{AskedTold, OwingTold}
use Rattle.session_notes.proofs.Tests.{filter-same, own, same-there}

-- Filters

other-way : (c d : ℕ) → eqb c d ≡ false → eqb d c ≡ false
other-way c d e = grind (arith, nat_tests)

dropped : (b : Bool) (d c : ℕ) (cs : List ℕ) → eqb c d ≡ true → without d (cond b (c ∷ cs) cs) ≡ without d cs
dropped true d c cs e = ap (λ (b : Bool). cond (not b) (c ∷ without d cs) (without d cs)) e
dropped false d c cs e = refl

kept : (b : Bool) (d c : ℕ) (cs : List ℕ) → eqb c d ≡ false → without d (cond b (c ∷ cs) cs) ≡ cond b (c ∷ without d cs) (without d cs)
kept true d c cs e = ap (λ (b : Bool). cond (not b) (c ∷ without d cs) (without d cs)) e
kept false d c cs e = refl

-- one item more fails the test
pub filter-less : (p q : ℕ → Bool) (d : ℕ) (cs : List ℕ) → q d ≡ false → ((c : ℕ) → eqb c d ≡ false → q c ≡ p c) → filter q cs ≡ without d (filter p cs)
filter-less p q d [] f k = refl
filter-less p q d (c ∷ cs) f k = less-at (eqb c d) refl (filter-less p q d cs f k) where
  less-at : (b : Bool) → eqb c d ≡ b → filter q cs ≡ without d (filter p cs) → cond (q c) (c ∷ filter q cs) (filter q cs) ≡ without d (cond (p c) (c ∷ filter p cs) (filter p cs))
  less-at true e r =
      ap (λ (b : Bool). cond b (c ∷ filter q cs) (filter q cs)) (same-there q d c e ∙ f) ∙ r ∙ sym (dropped (p c) d c (filter p cs) e)
  less-at false e r =
      ap (λ (b : Bool). cond b (c ∷ filter q cs) (filter q cs)) (k c e) ∙ ap (λ (xs : List ℕ). cond (p c) (c ∷ xs) xs) r ∙ sym (kept (p c) d c (filter p cs) e)

-- where an item is taken out that fails the one test, the other test of the rest is as good
filter-rest : (p q : ℕ → Bool) (d : ℕ) (cs : List ℕ) → p d ≡ false → ((c : ℕ) → eqb c d ≡ false → q c ≡ p c) → filter q (without d cs) ≡ filter p cs
filter-rest p q d [] f k = refl
filter-rest p q d (c ∷ cs) f k = rest-at (eqb c d) refl (filter-rest p q d cs f k) where
  rest-at : (b : Bool) → eqb c d ≡ b → filter q (without d cs) ≡ filter p cs → filter q (cond (not (eqb c d)) (c ∷ without d cs) (without d cs)) ≡ cond (p c) (c ∷ filter p cs) (filter p cs)
  rest-at true e r =
      ap (λ (b : Bool). filter q (cond (not b) (c ∷ without d cs) (without d cs))) e ∙ r ∙ sym (ap (λ (b : Bool). cond b (c ∷ filter p cs) (filter p cs)) (same-there p d c e ∙ f))
  rest-at false e r =
      ap (λ (b : Bool). filter q (cond (not b) (c ∷ without d cs) (without d cs))) e ∙ ap (λ (b : Bool). cond b (c ∷ filter q (without d cs)) (filter q (without d cs))) (k c e)
      ∙ ap (λ (xs : List ℕ). cond (p c) (c ∷ xs) xs) r

filter-end : (q : ℕ → Bool) (d : ℕ) (cs : List ℕ) → q d ≡ true → filter q (cs ++ d ∷ []) ≡ filter q cs ++ d ∷ []
filter-end q d [] t = ap (λ (b : Bool). cond b (d ∷ []) []) t
filter-end q d (c ∷ cs) t = ap (λ (xs : List ℕ). cond (q c) (c ∷ xs) xs) (filter-end q d cs t) ∙ end-at (q c) where
  end-at : (b : Bool) → cond b (c ∷ filter q cs ++ d ∷ []) (filter q cs ++ d ∷ []) ≡ cond b (c ∷ filter q cs) (filter q cs) ++ d ∷ []
  end-at true = refl
  end-at false = refl

-- Who waits

-- while no shutdown was agreed
abbrev pub WaitsTold : History → List Note → Type 0
WaitsTold h n = of.is_ending h ≡ false → requests n ≡ of.waiting h

-- whether c waits where d is at q and everybody else is where he was
abbrev waits_by : ℕ → (ℕ → Option Phase) → History → ℕ → Bool
waits_by d q h c = is_asked (cond (eqb d c) (q c) (of.phase_of c h))

by-other : (b : Bool) (p q : Option Phase) → b ≡ false → is_asked (cond b q p) ≡ is_asked p
by-other true p q e = absurd (grind arith)
by-other false p q e = refl

by-own : (b : Bool) (p q : Option Phase) → b ≡ true → is_asked (cond b q p) ≡ is_asked q
by-own true p q e = refl
by-own false p q e = absurd (grind arith)

-- d waits no more
less-waits : (d : ℕ) (q : ℕ → Option Phase) (h : History) → is_asked (q d) ≡ false → filter (waits_by d q h) (of.askers h) ≡ without d (of.waiting h)
less-waits d q h f =
    filter-less (λ c. is_asked (of.phase_of c h)) (waits_by d q h) d (of.askers h) (by-own (eqb d d) (of.phase_of d h) (q d) (own d) ∙ f) (λ c e. by-other (eqb d c) (of.phase_of c h) (q c) (other-way c d e))

by-same : (b : Bool) (p q : Option Phase) → (b ≡ true → is_asked q ≡ is_asked p) → is_asked (cond b q p) ≡ is_asked p
by-same true p q k = k refl
by-same false p q k = refl

same-waits : (d : ℕ) (q : ℕ → Option Phase) (h : History) → ((c : ℕ) → eqb d c ≡ true → is_asked (q c) ≡ is_asked (of.phase_of c h)) → filter (waits_by d q h) (of.askers h) ≡ of.waiting h
same-waits d q h k = filter-same (λ c. is_asked (of.phase_of c h)) (waits_by d q h) (of.askers h) (λ c. by-same (eqb d c) (of.phase_of c h) (q c) (k c))

-- What a client is given

held-waits : (p : Option Phase) → is_asked (held_phase p) ≡ false
held-waits None = refl
held-waits (Some Asked) = refl
held-waits (Some AskedTwo) = refl
held-waits (Some p) = refl

-- the messages by which nobody waits less
abbrev pub keeps_waiting : XsmpMessage → Bool
keeps_waiting Interact = false
keeps_waiting ShutdownCancelled = false
keeps_waiting Die = false
keeps_waiting m = true

given-waits : (m : XsmpMessage) (p : Option Phase) → keeps_waiting m ≡ true → is_asked (phase_given m p) ≡ is_asked p
given-waits Interact p k = absurd (grind arith)
given-waits ShutdownCancelled p k = absurd (grind arith)
given-waits Die p k = absurd (grind arith)
given-waits (RegisterClientReply id) None k = refl
given-waits (RegisterClientReply id) (Some Unregistered) k = refl
given-waits (RegisterClientReply id) (Some p) k = refl
given-waits (SaveYourself kind shutdown style fast) None k = refl
given-waits (SaveYourself kind shutdown style fast) (Some Idle) k = refl
given-waits (SaveYourself kind shutdown style fast) (Some p) k = refl
given-waits SaveYourselfPhase2 None k = refl
given-waits SaveYourselfPhase2 (Some WantsTwo) k = refl
given-waits SaveYourselfPhase2 (Some p) k = refl
given-waits SaveComplete None k = refl
given-waits SaveComplete (Some Done) k = refl
given-waits SaveComplete (Some p) k = refl
given-waits m p k = refl

pub waits-interact : (d : ℕ) (h : History) (n : List Note) → WaitsTold h n → WaitsTold (Gave d Interact ▷ h) (Given d Interact ∷ n)
waits-interact d h n t e = ap (λ (cs : List ℕ). without d cs) (t e) ∙ sym (less-waits d (λ c. held_phase (of.phase_of c h)) h (held-waits (of.phase_of d h)))

pub waits-cancelled : (d : ℕ) (h : History) (n : List Note) → WaitsTold h n → WaitsTold (Gave d ShutdownCancelled ▷ h) (Given d ShutdownCancelled ∷ n)
waits-cancelled d h n t e = ap (λ (cs : List ℕ). without d cs) (t e) ∙ sym (less-waits d (λ c. cancelled_phase (of.phase_of c h)) h (cancelled-asked (of.phase_of d h)))

pub waits-given : (d : ℕ) (m : XsmpMessage) (h : History) (n : List Note) → keeps_waiting m ≡ true → WaitsTold h n → WaitsTold (Gave d m ▷ h) (Given d m ∷ n)
waits-given d Interact h n k t e = absurd (grind arith)
waits-given d ShutdownCancelled h n k t e = absurd (grind arith)
waits-given d Die h n k t e = absurd (grind arith)
waits-given d m h n k t e = t e ∙ sym (same-waits d (λ c. phase_given m (of.phase_of c h)) h (λ c s. given-waits m (of.phase_of c h) k))

-- who departs waits no more
pub waits-gone : (d : ℕ) (h : History) (n : List Note) → WaitsTold h n → of.is_ending h ≡ false → requests (Gone d ∷ n) ≡ filter (waits_by d (λ c. None) h) (of.askers h)
waits-gone d h n t e = ap (λ (cs : List ℕ). without d cs) (t e) ∙ sym (less-waits d (λ c. None) h refl)

pub waits-unset : (d : ℕ) (h : History) (n : List Note) → of.phase_of d h ≡ Some Unregistered → WaitsTold h n → WaitsTold (Unset d ▷ h) n
waits-unset d h n u t e = t e ∙ sym (same-waits d (λ c. None) h (λ c s. sym (ap (λ (p : Option Phase). is_asked p) (phase-there c d h (Some Unregistered) u s))))

ready-waits : (p : Option Phase) → is_asked (ready_phase p) ≡ is_asked p
ready-waits None = refl
ready-waits (Some p) = refl

pub waits-ready : (d : ℕ) (h : History) (n : List Note) → WaitsTold h n → WaitsTold (Outside (Ready d) ▷ h) n
waits-ready d h n t e = t e ∙ sym (same-waits d (λ c. ready_phase (of.phase_of c h)) h (λ c s. ready-waits (of.phase_of c h)))

-- What a client says

abbrev pub requests_token : XsmpMessage → Bool
requests_token (InteractRequest dialog) = true
requests_token m = false

said-waits : (allowed : Dialog → Bool) (m : XsmpMessage) (p : Option Phase) → requests_token m ≡ false → is_asked (phase_said allowed m p) ≡ is_asked p
said-waits allowed (InteractRequest dialog) p r = absurd (grind arith)
said-waits allowed (InteractDone false) None r = refl
said-waits allowed (InteractDone false) (Some Interacting) r = refl
said-waits allowed (InteractDone false) (Some InteractingTwo) r = refl
said-waits allowed (InteractDone false) (Some p) r = refl
said-waits allowed (InteractDone true) p r = refl
said-waits allowed (SaveYourselfDone success) None r = refl
said-waits allowed (SaveYourselfDone success) (Some Saving) r = refl
said-waits allowed (SaveYourselfDone success) (Some SavingTwo) r = refl
said-waits allowed (SaveYourselfDone success) (Some Owing) r = refl
said-waits allowed (SaveYourselfDone success) (Some p) r = refl
said-waits allowed SaveYourselfPhase2Request None r = refl
said-waits allowed SaveYourselfPhase2Request (Some Saving) r = refl
said-waits allowed SaveYourselfPhase2Request (Some p) r = refl
said-waits allowed m p r = refl

pub waits-said : (d : ℕ) (m : XsmpMessage) (sequence : ℕ) (frame : List ℕ) (h : History) (n : List Note) → requests_token m ≡ false → WaitsTold h n → WaitsTold (Outside (Said d m sequence frame) ▷ h) (Heard d m ∷ n)
waits-said d (InteractRequest dialog) sequence frame h n r t e = absurd (grind arith)
waits-said d m sequence frame h n r t e =
    t e ∙ sym (same-waits d (λ c. phase_said (λ dialog. may_interact (of.wanted h) dialog) m (of.phase_of c h)) h (λ c s. said-waits (λ dialog. may_interact (of.wanted h) dialog) m (of.phase_of c h) r))

-- A request for the token

-- a request has its place, or nothing comes of it
abbrev pub HasPlace : ℕ → Dialog → History → Type 0
HasPlace d dialog h = (is_dying (of.phase_of d h) || (is_owing (of.phase_of d h) || is_saving (of.phase_of d h) && may_interact (of.wanted h) dialog)) ≡ true

asked-owing : (b : Bool) (p : Option Phase) → is_owing p ≡ true → cond b (asked_phase p) p ≡ p
asked-owing true (Some Owing) e = refl
asked-owing true p e = absurd (grind arith)
asked-owing false p e = refl

-- the phase of c, where it asks for this dialog
abbrev asks : Dialog → History → ℕ → Option Phase
asks dialog h c = cond (may_interact (of.wanted h) dialog) (asked_phase (of.phase_of c h)) (of.phase_of c h)

-- the request of a client that saves is noted as open, and of one that owes an answer it isn't
pub waits-request : (d : ℕ) (dialog : Dialog) (sequence : ℕ) (frame : List ℕ) (h : History) (n : List Note) → HasPlace d dialog h → DieAtEnd h → AskedTold h n → OwingTold h n → WaitsTold h n
    → WaitsTold (Outside (Said d (InteractRequest dialog) sequence frame) ▷ h) (Heard d (InteractRequest dialog) ∷ n)
waits-request d dialog sequence frame h n place die asked owing t e = request-at (is_dying (of.phase_of d h)) (is_owing (of.phase_of d h)) (is_saving (of.phase_of d h)) (may_interact (of.wanted h) dialog) refl refl refl refl place where
  after : List ℕ
  after = cond (was_asked d n && not (is_in d (requests n))) (requests n ++ d ∷ []) (requests n)

  test : ℕ → Bool
  test = waits_by d (asks dialog h) h

  -- it owes an answer
  owes : is_owing (of.phase_of d h) ≡ true → is_saving (of.phase_of d h) ≡ false → after ≡ filter test (cond (is_saving (of.phase_of d h) && may_interact (of.wanted h) dialog) (without d (of.askers h) ++ d ∷ []) (of.askers h))
  owes o s =
      ap (λ (b : Bool). cond (b && not (is_in d (requests n))) (requests n ++ d ∷ []) (requests n)) (owing d o) ∙ t e
      ∙ sym (same-waits d (asks dialog h) h (λ c k. ap (λ (p : Option Phase). is_asked p) (asked-owing (may_interact (of.wanted h) dialog) (of.phase_of c h) (sym (same-there (λ x. is_owing (of.phase_of x h)) c d k) ∙ o))))
      ∙ ap (λ (b : Bool). filter test (cond (b && may_interact (of.wanted h) dialog) (without d (of.askers h) ++ d ∷ []) (of.askers h))) (sym s)

  -- it saves, and may ask
  saves : is_saving (of.phase_of d h) ≡ true → may_interact (of.wanted h) dialog ≡ true → after ≡ filter test (cond (is_saving (of.phase_of d h) && may_interact (of.wanted h) dialog) (without d (of.askers h) ++ d ∷ []) (of.askers h))
  saves s a =
      let absent : is_asked (of.phase_of d h) ≡ false = saving-not-asked (of.phase_of d h) s in
      let new : is_in d (requests n) ≡ false = ap (λ (cs : List ℕ). is_in d cs) (t e) ∙ phases-tell h d ∙ absent in
      let there : test d ≡ true =
      by-own (eqb d d) (of.phase_of d h) (asks dialog h d) (own d) ∙ ap (λ (b : Bool). is_asked (cond b (asked_phase (of.phase_of d h)) (of.phase_of d h))) a ∙ saving-asked (of.phase_of d h) s in
      ap (λ (b : Bool). cond (b && not (is_in d (requests n))) (requests n ++ d ∷ []) (requests n)) (asked d (saving-member (of.phase_of d h) s))
      ∙ ap (λ (b : Bool). cond (not b) (requests n ++ d ∷ []) (requests n)) new
      ∙ ap (λ (cs : List ℕ). cs ++ d ∷ []) (t e ∙ sym (filter-rest (λ c. is_asked (of.phase_of c h)) test d (of.askers h) absent (λ c k. by-other (eqb d c) (of.phase_of c h) (asks dialog h c) (other-way c d k))))
      ∙ sym (filter-end test d (without d (of.askers h)) there)
      ∙ ap (λ (b : Bool). filter test (cond b (without d (of.askers h) ++ d ∷ []) (of.askers h))) (sym a)
      ∙ ap (λ (b : Bool). filter test (cond (b && may_interact (of.wanted h) dialog) (without d (of.askers h) ++ d ∷ []) (of.askers h))) (sym s)

  request-at : (y o s a : Bool) → is_dying (of.phase_of d h) ≡ y → is_owing (of.phase_of d h) ≡ o → is_saving (of.phase_of d h) ≡ s → may_interact (of.wanted h) dialog ≡ a → HasPlace d dialog h
      → after ≡ filter test (cond (is_saving (of.phase_of d h) && may_interact (of.wanted h) dialog) (without d (of.askers h) ++ d ∷ []) (of.askers h))
  request-at true o s a ky ko ks ka p = absurd (grind (arith, die d ky, e))
  request-at false true s a ky ko ks ka p = owes ko (owing-saves (of.phase_of d h) ko) where
    owing-saves : (p : Option Phase) → is_owing p ≡ true → is_saving p ≡ false
    owing-saves (Some Owing) k = refl
    owing-saves p k = absurd (grind arith)
  request-at false false true true ky ko ks ka p = saves ks ka
  request-at false false true false ky ko ks ka p = absurd (grind arith)
  request-at false false false a ky ko ks ka p = absurd (grind arith)
