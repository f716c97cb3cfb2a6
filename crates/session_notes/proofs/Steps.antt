-- What the steps of a phase mean for who watches from outside.
use Rattle.std.proofs.Common.{◌≡◌, refl, Bool, true, false, cond, ◌||◌, arith}
use Rattle.std.specs.Prelude.{Option, Some, None}
use Rattle.ice_values.specs.declared.saves.Dialog.{Dialog}
use Rattle.xsmp_messages.specs.declared.message.XsmpMessage.{XsmpMessage}
use Rattle.xsmp_messages.specs.declared.message.XsmpMessage.TheVariants.{RegisterClientReply, SaveYourself, InteractRequest, Interact, InteractDone, SaveYourselfDone, Die, ShutdownCancelled, SaveYourselfPhase2Request, SaveYourselfPhase2, SaveComplete}
use Rattle.session_model.specs.declared.phase.Phase.{Phase}
use Rattle.session_model.specs.declared.phase.Phase.TheVariants.{Unregistered, Idle, Saving, Asked, Interacting, WantsTwo, SavingTwo, AskedTwo, InteractingTwo, Done, Owing, Dying}
use Rattle.session_model.specs.Phases.{is_asked, is_dying, is_first_saving, is_interacting, is_member, is_owing, is_saving, asked_phase, phase_given, phase_said, ready_phase, begun_phase, cancelled_phase, dying_phase}
use Rattle.session_model.proofs.Asked.{is_at_work}

-- it has answered its SaveYourself, and its round still runs
abbrev pub has_replied : Option Phase → Bool
has_replied (Some WantsTwo) = true
has_replied (Some SavingTwo) = true
has_replied (Some AskedTwo) = true
has_replied (Some InteractingTwo) = true
has_replied (Some Done) = true
has_replied phase = false

-- it is in a round, or its round ended with the session
abbrev pub is_bound_to_save : Option Phase → Bool
is_bound_to_save phase = is_member phase || is_dying phase

-- One test brings another

pub talks-works : (p : Option Phase) → is_interacting p ≡ true → is_at_work p ≡ true
talks-works None e = e
talks-works (Some Interacting) e = refl
talks-works (Some InteractingTwo) e = refl
talks-works (Some p) e = absurd (grind arith)

pub asked-works : (p : Option Phase) → is_asked p ≡ true → is_at_work p ≡ true
asked-works None e = e
asked-works (Some Asked) e = refl
asked-works (Some AskedTwo) e = refl
asked-works (Some p) e = absurd (grind arith)

pub works-member : (p : Option Phase) → is_at_work p ≡ true → is_member p ≡ true
works-member None e = e
works-member (Some Unregistered) e = e
works-member (Some Idle) e = e
works-member (Some Owing) e = e
works-member (Some Dying) e = e
works-member (Some p) e = refl

pub saving-member : (p : Option Phase) → is_saving p ≡ true → is_member p ≡ true
saving-member None e = e
saving-member (Some Saving) e = refl
saving-member (Some SavingTwo) e = refl
saving-member (Some p) e = absurd (grind arith)

pub saving-not-asked : (p : Option Phase) → is_saving p ≡ true → is_asked p ≡ false
saving-not-asked None e = refl
saving-not-asked (Some Saving) e = refl
saving-not-asked (Some SavingTwo) e = refl
saving-not-asked (Some p) e = absurd (grind arith)

pub owing-not-saving : (p : Option Phase) → is_owing p ≡ true → is_saving p ≡ false
owing-not-saving (Some Owing) e = refl
owing-not-saving p e = absurd (grind arith)

pub begun-first : (p : Option Phase) → is_member p ≡ false → is_member (begun_phase p) ≡ true → is_first_saving (begun_phase p) ≡ true
begun-first (Some Idle) n e = refl
begun-first None n e = e
begun-first (Some p) n e = absurd (grind arith)

pub first-member : (p : Option Phase) → is_first_saving p ≡ true → is_member p ≡ true
first-member (Some Saving) e = refl
first-member p e = absurd (grind arith)

pub first-not-owing : (p : Option Phase) → is_first_saving p ≡ true → is_owing p ≡ false
first-not-owing (Some Saving) e = refl
first-not-owing p e = absurd (grind arith)

pub first-not-replied : (p : Option Phase) → is_first_saving p ≡ true → has_replied p ≡ false
first-not-replied (Some Saving) e = refl
first-not-replied p e = absurd (grind arith)

-- What a client is given

-- the token, the end of a round by cancelling, and the end of the session
abbrev pub ends_talk : XsmpMessage → Bool
ends_talk Interact = true
ends_talk ShutdownCancelled = true
ends_talk Die = true
ends_talk m = false

pub talk-given : (m : XsmpMessage) (p : Option Phase) → ends_talk m ≡ false → is_interacting p ≡ true → is_interacting (phase_given m p) ≡ true
talk-given Interact p e i = absurd (grind arith)
talk-given ShutdownCancelled p e i = absurd (grind arith)
talk-given Die p e i = absurd (grind arith)
talk-given m (Some Interacting) e i = refl
talk-given m (Some InteractingTwo) e i = refl
talk-given m p e i = absurd (grind arith)

pub member-cancelled : (p : Option Phase) → is_member (cancelled_phase p) ≡ false
member-cancelled None = refl
member-cancelled (Some Done) = refl
member-cancelled (Some p) = refl

abbrev pub begins : XsmpMessage → Bool
begins (SaveYourself kind shutdown style fast) = true
begins m = false

pub member-given : (m : XsmpMessage) (p : Option Phase) → begins m ≡ false → is_member (phase_given m p) ≡ true → is_member p ≡ true
member-given (SaveYourself kind shutdown style fast) p b e = absurd (grind arith)
member-given (RegisterClientReply id) (Some Unregistered) b e = e
member-given Interact None b e = e
member-given Interact (Some Asked) b e = refl
member-given Interact (Some AskedTwo) b e = refl
member-given Interact (Some p) b e = e
member-given SaveYourselfPhase2 None b e = e
member-given SaveYourselfPhase2 (Some WantsTwo) b e = refl
member-given SaveYourselfPhase2 (Some p) b e = e
member-given SaveComplete None b e = e
member-given SaveComplete (Some Done) b e = refl
member-given SaveComplete (Some p) b e = e
member-given ShutdownCancelled p b e = absurd (grind (arith, member-cancelled p))
member-given Die None b e = e
member-given Die (Some Unregistered) b e = e
member-given Die (Some p) b e = absurd (grind arith)
member-given m p b e = e

abbrev pub cancels : XsmpMessage → Bool
cancels ShutdownCancelled = true
cancels m = false

owing-dying : (p : Option Phase) → is_owing (dying_phase p) ≡ true → is_owing p ≡ true
owing-dying None e = e
owing-dying (Some Unregistered) e = e
owing-dying (Some p) e = absurd (grind arith)

pub owing-given : (m : XsmpMessage) (p : Option Phase) → cancels m ≡ false → is_owing (phase_given m p) ≡ true → is_owing p ≡ true
owing-given ShutdownCancelled p c e = absurd (grind arith)
owing-given (RegisterClientReply id) (Some Unregistered) c e = absurd (grind arith)
owing-given (SaveYourself kind shutdown style fast) (Some Idle) c e = absurd (grind arith)
owing-given Interact (Some Asked) c e = absurd (grind arith)
owing-given Interact (Some AskedTwo) c e = absurd (grind arith)
owing-given SaveYourselfPhase2 (Some WantsTwo) c e = absurd (grind arith)
owing-given SaveComplete (Some Done) c e = absurd (grind arith)
owing-given Die p c e = owing-dying p e
owing-given m p c e = e

-- the end of a round
abbrev pub releases : XsmpMessage → Bool
releases SaveComplete = true
releases ShutdownCancelled = true
releases m = false

pub bound-given : (m : XsmpMessage) (p : Option Phase) → releases m ≡ false → is_bound_to_save p ≡ true → is_bound_to_save (phase_given m p) ≡ true
bound-given SaveComplete p r e = absurd (grind arith)
bound-given ShutdownCancelled p r e = absurd (grind arith)
bound-given m None r e = absurd (grind arith)
bound-given m (Some Unregistered) r e = absurd (grind arith)
bound-given m (Some Idle) r e = absurd (grind arith)
bound-given m (Some Owing) r e = absurd (grind arith)
bound-given m (Some Saving) r e = refl
bound-given m (Some Asked) r e = refl
bound-given m (Some Interacting) r e = refl
bound-given m (Some WantsTwo) r e = refl
bound-given m (Some SavingTwo) r e = refl
bound-given m (Some AskedTwo) r e = refl
bound-given m (Some InteractingTwo) r e = refl
bound-given m (Some Done) r e = refl
bound-given m (Some Dying) r e = refl

pub replied-given : (m : XsmpMessage) (p : Option Phase) → has_replied (phase_given m p) ≡ true → has_replied p ≡ true
replied-given m (Some WantsTwo) e = refl
replied-given m (Some SavingTwo) e = refl
replied-given m (Some AskedTwo) e = refl
replied-given m (Some InteractingTwo) e = refl
replied-given m (Some Done) e = refl
replied-given m None e = absurd (grind arith)
replied-given m (Some Unregistered) e = absurd (grind arith)
replied-given m (Some Idle) e = absurd (grind arith)
replied-given m (Some Saving) e = absurd (grind arith)
replied-given m (Some Asked) e = absurd (grind arith)
replied-given m (Some Interacting) e = absurd (grind arith)
replied-given m (Some Owing) e = absurd (grind arith)
replied-given m (Some Dying) e = absurd (grind arith)

pub work-given : (m : XsmpMessage) (p : Option Phase) → begins m ≡ false → is_at_work p ≡ false → is_at_work (phase_given m p) ≡ false
work-given (SaveYourself kind shutdown style fast) p b e = absurd (grind arith)
work-given m None b e = refl
work-given m (Some Unregistered) b e = refl
work-given m (Some Idle) b e = refl
work-given m (Some Done) b e = refl
work-given m (Some Owing) b e = refl
work-given m (Some Dying) b e = refl
work-given m (Some p) b e = absurd (grind arith)

-- What a client says

abbrev pub gives_back : XsmpMessage → Bool
gives_back (InteractDone cancel) = true
gives_back m = false

pub talk-said : (allowed : Dialog → Bool) (m : XsmpMessage) (p : Option Phase) → gives_back m ≡ false → is_interacting p ≡ true → is_interacting (phase_said allowed m p) ≡ true
talk-said allowed (InteractDone cancel) p g e = absurd (grind arith)
talk-said allowed (InteractRequest dialog) p g e = at-one (allowed dialog) p e where
  at-one : (b : Bool) (p : Option Phase) → is_interacting p ≡ true → is_interacting (cond b (asked_phase p) p) ≡ true
  at-one false p e = e
  at-one true None e = e
  at-one true (Some Saving) e = absurd (grind arith)
  at-one true (Some SavingTwo) e = absurd (grind arith)
  at-one true (Some p) e = e
talk-said allowed m (Some Interacting) g e = refl
talk-said allowed m (Some InteractingTwo) g e = refl
talk-said allowed m p g e = absurd (grind arith)

owing-asked : (b : Bool) (p : Option Phase) → is_owing (cond b (asked_phase p) p) ≡ true → is_owing p ≡ true
owing-asked false p e = e
owing-asked true None e = e
owing-asked true (Some Saving) e = absurd (grind arith)
owing-asked true (Some SavingTwo) e = absurd (grind arith)
owing-asked true (Some p) e = e

pub owing-said : (allowed : Dialog → Bool) (m : XsmpMessage) (p : Option Phase) → is_owing (phase_said allowed m p) ≡ true → is_owing p ≡ true
owing-said allowed (InteractRequest dialog) p e = owing-asked (allowed dialog) p e
owing-said allowed (InteractDone false) None e = e
owing-said allowed (InteractDone false) (Some Interacting) e = e
owing-said allowed (InteractDone false) (Some InteractingTwo) e = e
owing-said allowed (InteractDone false) (Some p) e = e
owing-said allowed (InteractDone true) p e = e
owing-said allowed (SaveYourselfDone success) None e = e
owing-said allowed (SaveYourselfDone success) (Some Saving) e = e
owing-said allowed (SaveYourselfDone success) (Some SavingTwo) e = e
owing-said allowed (SaveYourselfDone success) (Some Owing) e = absurd (grind arith)
owing-said allowed (SaveYourselfDone success) (Some p) e = e
owing-said allowed SaveYourselfPhase2Request None e = e
owing-said allowed SaveYourselfPhase2Request (Some Saving) e = e
owing-said allowed SaveYourselfPhase2Request (Some p) e = e
owing-said allowed m p e = e

-- it has saved, or wants to in the second phase
abbrev pub replies : XsmpMessage → Bool
replies (SaveYourselfDone success) = true
replies SaveYourselfPhase2Request = true
replies m = false

replied-asked : (b : Bool) (p : Option Phase) → has_replied (cond b (asked_phase p) p) ≡ true → has_replied p ≡ true
replied-asked false p e = e
replied-asked true None e = e
replied-asked true (Some Saving) e = absurd (grind arith)
replied-asked true (Some SavingTwo) e = refl
replied-asked true (Some p) e = e

pub replied-said : (allowed : Dialog → Bool) (m : XsmpMessage) (p : Option Phase) → replies m ≡ false → has_replied (phase_said allowed m p) ≡ true → has_replied p ≡ true
replied-said allowed (SaveYourselfDone success) p r e = absurd (grind arith)
replied-said allowed SaveYourselfPhase2Request p r e = absurd (grind arith)
replied-said allowed (InteractRequest dialog) p r e = replied-asked (allowed dialog) p e
replied-said allowed (InteractDone false) None r e = e
replied-said allowed (InteractDone false) (Some Interacting) r e = absurd (grind arith)
replied-said allowed (InteractDone false) (Some InteractingTwo) r e = refl
replied-said allowed (InteractDone false) (Some p) r e = e
replied-said allowed (InteractDone true) p r e = e
replied-said allowed m p r e = e

work-asked : (b : Bool) (p : Option Phase) → is_at_work p ≡ false → is_at_work (cond b (asked_phase p) p) ≡ false
work-asked false p e = e
work-asked true None e = e
work-asked true (Some Saving) e = absurd (grind arith)
work-asked true (Some SavingTwo) e = absurd (grind arith)
work-asked true (Some p) e = e

pub work-said : (allowed : Dialog → Bool) (m : XsmpMessage) (p : Option Phase) → is_at_work p ≡ false → is_at_work (phase_said allowed m p) ≡ false
work-said allowed (InteractRequest dialog) p e = work-asked (allowed dialog) p e
work-said allowed (InteractDone false) None e = e
work-said allowed (InteractDone false) (Some Interacting) e = absurd (grind arith)
work-said allowed (InteractDone false) (Some InteractingTwo) e = absurd (grind arith)
work-said allowed (InteractDone false) (Some p) e = e
work-said allowed (InteractDone true) p e = e
work-said allowed (SaveYourselfDone success) None e = e
work-said allowed (SaveYourselfDone success) (Some Saving) e = refl
work-said allowed (SaveYourselfDone success) (Some SavingTwo) e = refl
work-said allowed (SaveYourselfDone success) (Some Owing) e = refl
work-said allowed (SaveYourselfDone success) (Some p) e = e
work-said allowed SaveYourselfPhase2Request None e = e
work-said allowed SaveYourselfPhase2Request (Some Saving) e = absurd (grind arith)
work-said allowed SaveYourselfPhase2Request (Some p) e = e
work-said allowed m p e = e

pub work-ready : (p : Option Phase) → is_at_work p ≡ false → is_at_work (ready_phase p) ≡ false
work-ready None e = refl
work-ready (Some p) e = e

pub replied-ready : (p : Option Phase) → has_replied (ready_phase p) ≡ true → has_replied p ≡ true
replied-ready None e = e
replied-ready (Some p) e = e

pub owing-ready : (p : Option Phase) → is_owing (ready_phase p) ≡ true → is_owing p ≡ true
owing-ready None e = e
owing-ready (Some p) e = e

pub talk-ready : (p : Option Phase) → is_interacting p ≡ true → is_interacting (ready_phase p) ≡ true
talk-ready None e = absurd (grind arith)
talk-ready (Some p) e = e
