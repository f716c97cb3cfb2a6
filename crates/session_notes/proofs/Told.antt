-- What the notes say, as far as a history says it too.
use Rattle.std.proofs.Common.{◌≡◌, refl, ℕ, Bool, true, false, cond, not, ◌&&◌, ◌||◌, List, ◌∷◌, eqb, sym, ap, ◌∙◌, arith}
use Rattle.std.specs.Prelude.{Option, Some, None}
use Rattle.xsmp_messages.specs.declared.message.XsmpMessage.{XsmpMessage}
use Rattle.xsmp_messages.specs.declared.message.XsmpMessage.TheVariants.{SaveYourself, Interact, InteractDone, SaveYourselfDone, Die, ShutdownCancelled, SaveYourselfPhase2Request, SaveComplete}
use Rattle.session_model.specs.declared.phase.Phase.{Phase}
use Rattle.session_model.specs.declared.phase.Phase.TheVariants.{Unregistered, Saving}
use Rattle.session_model.specs.declared.events.SessionEvent.TheVariants.{Ready, Said}
use Rattle.session_model.specs.Phases.{is_asked, is_dying, is_first_saving, is_interacting, is_member, is_owing, may_interact, begun_phase, cancelled_phase, held_phase, phase_given, phase_said, ready_phase}
use Rattle.session_model.specs.Moves.{Outside, Gave, Unset, History, ◌▷◌}
use Rattle.session_model.specs.Readings as of
use Rattle.session_model.proofs.PhaseSteps.{quiet-said, quiet-ready}
use Rattle.session_model.proofs.Sound.{phase-there}
use Rattle.session_model.proofs.Asked.{is_at_work}
use Rattle.session_model.proofs.Rest.{asked-held}
use Rattle.session_notes.specs.Notes.{Note, Heard, Given, Gone}
use Rattle.session_notes.specs.Watching.{has_token, was_asked, is_to_save, has_answered}
use Rattle.session_notes.proofs.Steps.{has_replied, is_bound_to_save, talks-works, first-not-owing, first-not-replied, ends_talk, talk-given, member-cancelled, begins, member-given, cancels, owing-given, releases, bound-given, replied-given, work-given, talk-said, owing-said, replied-said, work-said, work-ready, replied-ready, owing-ready, talk-ready}
use Rattle.session_notes.proofs.Tests.{came-one, none-passes, same-there}

-- The token

abbrev pub TokenTold : History → List Note → Type 0
TokenTold h n = (c : ℕ) → has_token c n ≡ true → is_interacting (of.phase_of c h) ≡ true

kept-one : (test : Option Phase → Bool) (b : Bool) (p q : Option Phase) → (test p ≡ true → test q ≡ true) → test p ≡ true → test (cond b q p) ≡ true
kept-one test true p q k e = k e
kept-one test false p q k e = e

-- who is named has it no more
lost-one : (test : Option Phase → Bool) (b t : Bool) (p q : Option Phase) → (t ≡ true → test p ≡ true) → (not b && t) ≡ true → test (cond b q p) ≡ true
lost-one test true t p q k e = absurd (grind arith)
lost-one test false t p q k e = k e

token-at : (b t : Bool) (p : Option Phase) → (b ≡ true → is_asked p ≡ true) → (t ≡ true → is_interacting p ≡ true) → (b || t) ≡ true → is_interacting (cond b (held_phase p) p) ≡ true
token-at true t p a k e = asked-held p (a refl)
token-at false t p a k e = k e

pub token-interact : (d : ℕ) (h : History) (n : List Note) → is_asked (of.phase_of d h) ≡ true → TokenTold h n → TokenTold (Gave d Interact ▷ h) (Given d Interact ∷ n)
token-interact d h n a t c e = token-at (eqb d c) (has_token c n) (of.phase_of c h) (λ k. sym (same-there (λ x. is_asked (of.phase_of x h)) c d k) ∙ a) (t c) e

pub token-given : (d : ℕ) (m : XsmpMessage) (h : History) (n : List Note) → ends_talk m ≡ false → TokenTold h n → TokenTold (Gave d m ▷ h) (Given d m ∷ n)
token-given d Interact h n k t c e = absurd (grind arith)
token-given d ShutdownCancelled h n k t c e = absurd (grind arith)
token-given d Die h n k t c e = absurd (grind arith)
token-given d m h n k t c e = kept-one (λ p. is_interacting p) (eqb d c) (of.phase_of c h) (phase_given m (of.phase_of c h)) (talk-given m (of.phase_of c h) refl) (t c e)

pub token-cancelled : (d : ℕ) (h : History) (n : List Note) → TokenTold h n → TokenTold (Gave d ShutdownCancelled ▷ h) (Given d ShutdownCancelled ∷ n)
token-cancelled d h n t c e = lost-one (λ p. is_interacting p) (eqb d c) (has_token c n) (of.phase_of c h) (cancelled_phase (of.phase_of c h)) (t c) e

-- nobody that is told to die has it
pub token-die : (d : ℕ) (h : History) (n : List Note) → ((c : ℕ) → is_at_work (of.phase_of c h) ≡ false) → TokenTold h n → TokenTold (Gave d Die ▷ h) (Given d Die ∷ n)
token-die d h n w t c e = absurd (grind (arith, talks-works (of.phase_of c h) (t c e), w c))

pub token-said : (d : ℕ) (m : XsmpMessage) (sequence : ℕ) (frame : List ℕ) (h : History) (n : List Note) → TokenTold h n → TokenTold (Outside (Said d m sequence frame) ▷ h) (Heard d m ∷ n)
token-said d (InteractDone cancel) sequence frame h n t c e =
    lost-one (λ p. is_interacting p) (eqb d c) (has_token c n) (of.phase_of c h) (phase_said (λ dialog. may_interact (of.wanted h) dialog) (InteractDone cancel) (of.phase_of c h)) (t c) e
token-said d m sequence frame h n t c e =
    kept-one (λ p. is_interacting p) (eqb d c) (of.phase_of c h) (phase_said (λ dialog. may_interact (of.wanted h) dialog) m (of.phase_of c h)) (talk-said (λ dialog. may_interact (of.wanted h) dialog) m (of.phase_of c h) refl) (t c e)

-- Who was asked to save

abbrev pub AskedTold : History → List Note → Type 0
AskedTold h n = (c : ℕ) → is_member (of.phase_of c h) ≡ true → was_asked c n ≡ true

-- who is named fails the test
gone-one : (test : Option Phase → Bool) (b t : Bool) (p q : Option Phase) → test q ≡ false → (test p ≡ true → t ≡ true) → test (cond b q p) ≡ true → (not b && t) ≡ true
gone-one test true t p q n k e = absurd (grind arith)
gone-one test false t p q n k e = k e

named-or : (test : Option Phase → Bool) (b t : Bool) (p q : Option Phase) → (test p ≡ true → t ≡ true) → test (cond b q p) ≡ true → (b || t) ≡ true
named-or test true t p q k e = refl
named-or test false t p q k e = k e

pub asked-begun : (d : ℕ) (kind : _) (shutdown : Bool) (style : _) (fast : Bool) (h : History) (n : List Note) → AskedTold h n → AskedTold (Gave d (SaveYourself kind shutdown style fast) ▷ h) (Given d (SaveYourself kind shutdown style fast) ∷ n)
asked-begun d kind shutdown style fast h n t c e = named-or (λ p. is_member p) (eqb d c) (was_asked c n) (of.phase_of c h) (begun_phase (of.phase_of c h)) (t c) e

pub asked-cancelled : (d : ℕ) (h : History) (n : List Note) → AskedTold h n → AskedTold (Gave d ShutdownCancelled ▷ h) (Given d ShutdownCancelled ∷ n)
asked-cancelled d h n t c e = gone-one (λ p. is_member p) (eqb d c) (was_asked c n) (of.phase_of c h) (cancelled_phase (of.phase_of c h)) (member-cancelled (of.phase_of c h)) (t c) e

pub asked-given : (d : ℕ) (m : XsmpMessage) (h : History) (n : List Note) → begins m ≡ false → cancels m ≡ false → AskedTold h n → AskedTold (Gave d m ▷ h) (Given d m ∷ n)
asked-given d (SaveYourself kind shutdown style fast) h n b k t c e = absurd (grind arith)
asked-given d ShutdownCancelled h n b k t c e = absurd (grind arith)
asked-given d m h n b k t c e = t c (came-one (λ p. is_member p) (eqb d c) (of.phase_of c h) (phase_given m (of.phase_of c h)) (member-given m (of.phase_of c h) refl) e)

pub asked-said : (d : ℕ) (m : XsmpMessage) (sequence : ℕ) (frame : List ℕ) (h : History) (n : List Note) → AskedTold h n → AskedTold (Outside (Said d m sequence frame) ▷ h) (Heard d m ∷ n)
asked-said d m sequence frame h n t c e =
    t c (came-one (λ p. is_member p) (eqb d c) (of.phase_of c h) (phase_said (λ dialog. may_interact (of.wanted h) dialog) m (of.phase_of c h)) (λ k. sym (quiet-said (λ dialog. may_interact (of.wanted h) dialog) m (of.phase_of c h)).member ∙ k) e)

-- Who owes an answer was asked no more

abbrev pub OwingTold : History → List Note → Type 0
OwingTold h n = (c : ℕ) → is_owing (of.phase_of c h) ≡ true → was_asked c n ≡ false

owing-at : (b t : Bool) (p q : Option Phase) → (b ≡ true → is_owing q ≡ false) → (is_owing p ≡ true → t ≡ false) → is_owing (cond b q p) ≡ true → (b || t) ≡ false
owing-at true t p q f k e = absurd (grind (arith, f refl))
owing-at false t p q f k e = k e

owing-gone : (b t : Bool) (p q : Option Phase) → (is_owing p ≡ true → t ≡ false) → is_owing (cond b q p) ≡ true → (not b && t) ≡ false
owing-gone true t p q k e = refl
owing-gone false t p q k e = k e

-- it begins to save
abbrev pub BeginsToSave : ℕ → History → Type 0
BeginsToSave d h = is_first_saving (begun_phase (of.phase_of d h)) ≡ true

pub begins-there : (c d : ℕ) (h : History) → BeginsToSave d h → eqb d c ≡ true → is_first_saving (begun_phase (of.phase_of c h)) ≡ true
begins-there c d h s k = sym (same-there (λ x. is_first_saving (begun_phase (of.phase_of x h))) c d k) ∙ s

pub owing-begun : (d : ℕ) (kind : _) (shutdown : Bool) (style : _) (fast : Bool) (h : History) (n : List Note) → BeginsToSave d h → OwingTold h n → OwingTold (Gave d (SaveYourself kind shutdown style fast) ▷ h) (Given d (SaveYourself kind shutdown style fast) ∷ n)
owing-begun d kind shutdown style fast h n s t c e = owing-at (eqb d c) (was_asked c n) (of.phase_of c h) (begun_phase (of.phase_of c h)) (λ k. first-not-owing (begun_phase (of.phase_of c h)) (begins-there c d h s k)) (t c) e

pub owing-cancelled : (d : ℕ) (h : History) (n : List Note) → OwingTold h n → OwingTold (Gave d ShutdownCancelled ▷ h) (Given d ShutdownCancelled ∷ n)
owing-cancelled d h n t c e = owing-gone (eqb d c) (was_asked c n) (of.phase_of c h) (cancelled_phase (of.phase_of c h)) (t c) e

pub owing-by : (d : ℕ) (m : XsmpMessage) (h : History) (n : List Note) → begins m ≡ false → cancels m ≡ false → OwingTold h n → OwingTold (Gave d m ▷ h) (Given d m ∷ n)
owing-by d (SaveYourself kind shutdown style fast) h n b k t c e = absurd (grind arith)
owing-by d ShutdownCancelled h n b k t c e = absurd (grind arith)
owing-by d m h n b k t c e = t c (came-one (λ p. is_owing p) (eqb d c) (of.phase_of c h) (phase_given m (of.phase_of c h)) (owing-given m (of.phase_of c h) refl) e)

pub owing-heard : (d : ℕ) (m : XsmpMessage) (sequence : ℕ) (frame : List ℕ) (h : History) (n : List Note) → OwingTold h n → OwingTold (Outside (Said d m sequence frame) ▷ h) (Heard d m ∷ n)
owing-heard d m sequence frame h n t c e =
    t c (came-one (λ p. is_owing p) (eqb d c) (of.phase_of c h) (phase_said (λ dialog. may_interact (of.wanted h) dialog) m (of.phase_of c h)) (owing-said (λ dialog. may_interact (of.wanted h) dialog) m (of.phase_of c h)) e)

-- Who is to save is in the round, or dies

abbrev pub SavesTold : History → List Note → Type 0
SavesTold h n = (c : ℕ) → is_to_save c n ≡ true → is_bound_to_save (of.phase_of c h) ≡ true

saves-at : (b t : Bool) (p q : Option Phase) → (b ≡ true → is_bound_to_save q ≡ true) → (t ≡ true → is_bound_to_save p ≡ true) → (b || t) ≡ true → is_bound_to_save (cond b q p) ≡ true
saves-at true t p q f k e = f refl
saves-at false t p q f k e = k e

first-bound : (p : Option Phase) → is_first_saving p ≡ true → is_bound_to_save p ≡ true
first-bound (Some Saving) e = refl
first-bound p e = absurd (grind arith)

pub saves-begun : (d : ℕ) (kind : _) (shutdown : Bool) (style : _) (fast : Bool) (h : History) (n : List Note) → BeginsToSave d h → SavesTold h n → SavesTold (Gave d (SaveYourself kind shutdown style fast) ▷ h) (Given d (SaveYourself kind shutdown style fast) ∷ n)
saves-begun d kind shutdown style fast h n s t c e = saves-at (eqb d c) (is_to_save c n) (of.phase_of c h) (begun_phase (of.phase_of c h)) (λ k. first-bound (begun_phase (of.phase_of c h)) (begins-there c d h s k)) (t c) e

pub saves-released : (d : ℕ) (m : XsmpMessage) (h : History) (n : List Note) → releases m ≡ true → SavesTold h n → SavesTold (Gave d m ▷ h) (Given d m ∷ n)
saves-released d SaveComplete h n r t c e = lost-one (λ p. is_bound_to_save p) (eqb d c) (is_to_save c n) (of.phase_of c h) (phase_given SaveComplete (of.phase_of c h)) (t c) e
saves-released d ShutdownCancelled h n r t c e = lost-one (λ p. is_bound_to_save p) (eqb d c) (is_to_save c n) (of.phase_of c h) (phase_given ShutdownCancelled (of.phase_of c h)) (t c) e
saves-released d m h n r t c e = absurd (grind arith)

pub saves-given : (d : ℕ) (m : XsmpMessage) (h : History) (n : List Note) → begins m ≡ false → releases m ≡ false → SavesTold h n → SavesTold (Gave d m ▷ h) (Given d m ∷ n)
saves-given d (SaveYourself kind shutdown style fast) h n b r t c e = absurd (grind arith)
saves-given d SaveComplete h n b r t c e = absurd (grind arith)
saves-given d ShutdownCancelled h n b r t c e = absurd (grind arith)
saves-given d m h n b r t c e = kept-one (λ p. is_bound_to_save p) (eqb d c) (of.phase_of c h) (phase_given m (of.phase_of c h)) (bound-given m (of.phase_of c h) refl) (t c e)

bound-by : (p q : Option Phase) → is_member q ≡ is_member p → is_dying q ≡ is_dying p → is_bound_to_save p ≡ true → is_bound_to_save q ≡ true
bound-by p q m d e = ap (λ (b : Bool). b || is_dying q) m ∙ ap (λ (b : Bool). is_member p || b) d ∙ e

pub saves-said : (d : ℕ) (m : XsmpMessage) (sequence : ℕ) (frame : List ℕ) (h : History) (n : List Note) → SavesTold h n → SavesTold (Outside (Said d m sequence frame) ▷ h) (Heard d m ∷ n)
saves-said d m sequence frame h n t c e =
    kept-one (λ p. is_bound_to_save p) (eqb d c) (of.phase_of c h) (phase_said (λ dialog. may_interact (of.wanted h) dialog) m (of.phase_of c h))
    (bound-by (of.phase_of c h) (phase_said (λ dialog. may_interact (of.wanted h) dialog) m (of.phase_of c h)) (quiet-said (λ dialog. may_interact (of.wanted h) dialog) m (of.phase_of c h)).member (quiet-said (λ dialog. may_interact (of.wanted h) dialog) m (of.phase_of c h)).dying)
    (t c e)

pub saves-ready : (d : ℕ) (h : History) (n : List Note) → SavesTold h n → SavesTold (Outside (Ready d) ▷ h) n
saves-ready d h n t c e =
    kept-one (λ p. is_bound_to_save p) (eqb d c) (of.phase_of c h) (ready_phase (of.phase_of c h)) (bound-by (of.phase_of c h) (ready_phase (of.phase_of c h)) (quiet-ready (of.phase_of c h)).member (quiet-ready (of.phase_of c h)).dying) (t c e)

-- Who has answered

abbrev pub AnswersTold : History → List Note → Type 0
AnswersTold h n = (c : ℕ) → has_replied (of.phase_of c h) ≡ true → has_answered c n ≡ true

answers-at : (b t : Bool) (p q : Option Phase) → (b ≡ true → has_replied q ≡ false) → (has_replied p ≡ true → t ≡ true) → has_replied (cond b q p) ≡ true → (not b && t) ≡ true
answers-at true t p q f k e = absurd (grind (arith, f refl))
answers-at false t p q f k e = k e

pub answers-begun : (d : ℕ) (kind : _) (shutdown : Bool) (style : _) (fast : Bool) (h : History) (n : List Note) → BeginsToSave d h → AnswersTold h n → AnswersTold (Gave d (SaveYourself kind shutdown style fast) ▷ h) (Given d (SaveYourself kind shutdown style fast) ∷ n)
answers-begun d kind shutdown style fast h n s t c e = answers-at (eqb d c) (has_answered c n) (of.phase_of c h) (begun_phase (of.phase_of c h)) (λ k. first-not-replied (begun_phase (of.phase_of c h)) (begins-there c d h s k)) (t c) e

pub answers-given : (d : ℕ) (m : XsmpMessage) (h : History) (n : List Note) → begins m ≡ false → AnswersTold h n → AnswersTold (Gave d m ▷ h) (Given d m ∷ n)
answers-given d (SaveYourself kind shutdown style fast) h n b t c e = absurd (grind arith)
answers-given d m h n b t c e = t c (came-one (λ p. has_replied p) (eqb d c) (of.phase_of c h) (phase_given m (of.phase_of c h)) (replied-given m (of.phase_of c h)) e)

pub answers-said : (d : ℕ) (m : XsmpMessage) (sequence : ℕ) (frame : List ℕ) (h : History) (n : List Note) → AnswersTold h n → AnswersTold (Outside (Said d m sequence frame) ▷ h) (Heard d m ∷ n)
answers-said d (SaveYourselfDone success) sequence frame h n t c e = named-or (λ p. has_replied p) (eqb d c) (has_answered c n) (of.phase_of c h) (phase_said (λ dialog. may_interact (of.wanted h) dialog) (SaveYourselfDone success) (of.phase_of c h)) (t c) e
answers-said d SaveYourselfPhase2Request sequence frame h n t c e = named-or (λ p. has_replied p) (eqb d c) (has_answered c n) (of.phase_of c h) (phase_said (λ dialog. may_interact (of.wanted h) dialog) SaveYourselfPhase2Request (of.phase_of c h)) (t c) e
answers-said d m sequence frame h n t c e =
    t c (came-one (λ p. has_replied p) (eqb d c) (of.phase_of c h) (phase_said (λ dialog. may_interact (of.wanted h) dialog) m (of.phase_of c h)) (replied-said (λ dialog. may_interact (of.wanted h) dialog) m (of.phase_of c h) refl) e)

-- Where a shutdown was agreed nobody's save goes on

abbrev pub RestTold : History → Type 0
RestTold h = of.is_ending h ≡ true → (c : ℕ) → is_at_work (of.phase_of c h) ≡ false

rest-one : (b : Bool) (p q : Option Phase) → (is_at_work p ≡ false → is_at_work q ≡ false) → is_at_work p ≡ false → is_at_work (cond b q p) ≡ false
rest-one true p q k e = k e
rest-one false p q k e = e

pub rest-given : (d : ℕ) (m : XsmpMessage) (h : History) → begins m ≡ false → RestTold h → RestTold (Gave d m ▷ h)
rest-given d m h b t e c = rest-one (eqb d c) (of.phase_of c h) (phase_given m (of.phase_of c h)) (work-given m (of.phase_of c h) b) (t e c)

pub rest-said : (d : ℕ) (m : XsmpMessage) (sequence : ℕ) (frame : List ℕ) (h : History) → RestTold h → RestTold (Outside (Said d m sequence frame) ▷ h)
rest-said d m sequence frame h t e c = rest-one (eqb d c) (of.phase_of c h) (phase_said (λ dialog. may_interact (of.wanted h) dialog) m (of.phase_of c h)) (work-said (λ dialog. may_interact (of.wanted h) dialog) m (of.phase_of c h)) (t e c)

pub rest-ready : (d : ℕ) (h : History) → RestTold h → RestTold (Outside (Ready d) ▷ h)
rest-ready d h t e c = rest-one (eqb d c) (of.phase_of c h) (ready_phase (of.phase_of c h)) (work-ready (of.phase_of c h)) (t e c)

pub rest-left : (d : ℕ) (h : History) → RestTold h → of.is_ending h ≡ true → (c : ℕ) → is_at_work (cond (eqb d c) None (of.phase_of c h)) ≡ false
rest-left d h t e c = rest-one (eqb d c) (of.phase_of c h) None (λ k. refl) (t e c)

-- A connection departs, or goes back before it registered

abbrev pub gone_of : ℕ → ℕ → History → Option Phase
gone_of d c h = cond (eqb d c) None (of.phase_of c h)

pub token-gone : (d : ℕ) (h : History) (n : List Note) → TokenTold h n → (c : ℕ) → has_token c (Gone d ∷ n) ≡ true → is_interacting (gone_of d c h) ≡ true
token-gone d h n t c e = lost-one (λ p. is_interacting p) (eqb d c) (has_token c n) (of.phase_of c h) None (t c) e

pub asked-gone : (d : ℕ) (h : History) (n : List Note) → AskedTold h n → (c : ℕ) → is_member (gone_of d c h) ≡ true → was_asked c (Gone d ∷ n) ≡ true
asked-gone d h n t c e = gone-one (λ p. is_member p) (eqb d c) (was_asked c n) (of.phase_of c h) None refl (t c) e

pub owing-left : (d : ℕ) (h : History) (n : List Note) → OwingTold h n → (c : ℕ) → is_owing (gone_of d c h) ≡ true → was_asked c (Gone d ∷ n) ≡ false
owing-left d h n t c e = owing-gone (eqb d c) (was_asked c n) (of.phase_of c h) None (t c) e

pub saves-gone : (d : ℕ) (h : History) (n : List Note) → SavesTold h n → (c : ℕ) → is_to_save c (Gone d ∷ n) ≡ true → is_bound_to_save (gone_of d c h) ≡ true
saves-gone d h n t c e = lost-one (λ p. is_bound_to_save p) (eqb d c) (is_to_save c n) (of.phase_of c h) None (t c) e

pub answers-gone : (d : ℕ) (h : History) (n : List Note) → AnswersTold h n → (c : ℕ) → has_replied (gone_of d c h) ≡ true → has_answered c (Gone d ∷ n) ≡ true
answers-gone d h n t c e = gone-one (λ p. has_replied p) (eqb d c) (has_answered c n) (of.phase_of c h) None refl (t c) e

-- a test that fails before registration
unset-one : (test : Option Phase → Bool) (b t : Bool) (p : Option Phase) → test (Some Unregistered) ≡ false → (b ≡ true → p ≡ Some Unregistered) → (t ≡ true → test p ≡ true) → t ≡ true → test (cond b None p) ≡ true
unset-one test true t p n u k e = absurd (grind (arith, n, ap (λ (q : Option Phase). test q) (u refl), k e))
unset-one test false t p n u k e = k e

pub token-unset : (d : ℕ) (h : History) (n : List Note) → of.phase_of d h ≡ Some Unregistered → TokenTold h n → TokenTold (Unset d ▷ h) n
token-unset d h n u t c e = unset-one (λ p. is_interacting p) (eqb d c) (has_token c n) (of.phase_of c h) refl (phase-there c d h (Some Unregistered) u) (t c) e

pub saves-unset : (d : ℕ) (h : History) (n : List Note) → of.phase_of d h ≡ Some Unregistered → SavesTold h n → SavesTold (Unset d ▷ h) n
saves-unset d h n u t c e = unset-one (λ p. is_bound_to_save p) (eqb d c) (is_to_save c n) (of.phase_of c h) refl (phase-there c d h (Some Unregistered) u) (t c) e

pub asked-unset : (d : ℕ) (h : History) (n : List Note) → AskedTold h n → AskedTold (Unset d ▷ h) n
asked-unset d h n t c e = t c (none-passes (λ p. is_member p) (eqb d c) (of.phase_of c h) refl e)

pub owing-unset : (d : ℕ) (h : History) (n : List Note) → OwingTold h n → OwingTold (Unset d ▷ h) n
owing-unset d h n t c e = t c (none-passes (λ p. is_owing p) (eqb d c) (of.phase_of c h) refl e)

pub answers-unset : (d : ℕ) (h : History) (n : List Note) → AnswersTold h n → AnswersTold (Unset d ▷ h) n
answers-unset d h n t c e = t c (none-passes (λ p. has_replied p) (eqb d c) (of.phase_of c h) refl e)

-- XSMP begins

pub token-ready : (d : ℕ) (h : History) (n : List Note) → TokenTold h n → TokenTold (Outside (Ready d) ▷ h) n
token-ready d h n t c e = kept-one (λ p. is_interacting p) (eqb d c) (of.phase_of c h) (ready_phase (of.phase_of c h)) (talk-ready (of.phase_of c h)) (t c e)

pub asked-ready : (d : ℕ) (h : History) (n : List Note) → AskedTold h n → AskedTold (Outside (Ready d) ▷ h) n
asked-ready d h n t c e = t c (came-one (λ p. is_member p) (eqb d c) (of.phase_of c h) (ready_phase (of.phase_of c h)) (λ k. sym (quiet-ready (of.phase_of c h)).member ∙ k) e)

pub owing-began : (d : ℕ) (h : History) (n : List Note) → OwingTold h n → OwingTold (Outside (Ready d) ▷ h) n
owing-began d h n t c e = t c (came-one (λ p. is_owing p) (eqb d c) (of.phase_of c h) (ready_phase (of.phase_of c h)) (owing-ready (of.phase_of c h)) e)

pub answers-ready : (d : ℕ) (h : History) (n : List Note) → AnswersTold h n → AnswersTold (Outside (Ready d) ▷ h) n
answers-ready d h n t c e = t c (came-one (λ p. has_replied p) (eqb d c) (of.phase_of c h) (ready_phase (of.phase_of c h)) (replied-ready (of.phase_of c h)) e)
