-- What the steps of a phase keep.
use Rattle.std.proofs.Common.{◌≡◌, refl, Bool, true, false, cond, not, ◌&&◌, arith}
use Rattle.std.specs.Prelude.{Option, Some, None}
use Rattle.ice_values.specs.declared.saves.Dialog.{Dialog}
use Rattle.xsmp_messages.specs.declared.message.XsmpMessage.{XsmpMessage}
use Rattle.xsmp_messages.specs.declared.message.XsmpMessage.TheVariants.{RegisterClientReply, SaveYourself, InteractRequest, Interact, InteractDone, SaveYourselfDone, Die, ShutdownCancelled, SaveYourselfPhase2Request, SaveYourselfPhase2, SaveComplete}
use Rattle.session_model.specs.declared.phase.Phase.{Phase}
use Rattle.session_model.specs.declared.phase.Phase.TheVariants.{Unregistered, Idle, Saving, Asked, AskedTwo, Done}
use Rattle.session_model.specs.Phases.{is_registered, is_member, is_interacting, is_dying, asked_phase, talked_phase, saved_phase, second_phase, phase_said, registered_phase, begun_phase, held_phase, second_begun_phase, completed_phase, cancelled_phase, dying_phase, phase_given, ready_phase}

-- a step that neither registers a client, nor takes it into a round or out of it, nor gives it the token, nor tells it to die
pub record Quiet (p q : Option Phase) : Type 0 where
  pub registered : is_registered q ≡ is_registered p
  pub member : is_member q ≡ is_member p
  pub token : (is_interacting q && not (is_interacting p)) ≡ false
  pub dying : is_dying q ≡ is_dying p

pub same-token : (b : Bool) → (b && not b) ≡ false
same-token true = refl
same-token false = refl

pub quiet-same : (p : Option Phase) → Quiet p p
quiet-same p = record { registered = refl; member = refl; token = same-token (is_interacting p); dying = refl }

quiet-asked : (p : Option Phase) → Quiet p (asked_phase p)
quiet-asked None = record { registered = refl; member = refl; token = refl; dying = refl }
quiet-asked (Some Saving) = record { registered = refl; member = refl; token = refl; dying = refl }
quiet-asked (Some p) = record { registered = refl; member = refl; token = refl; dying = refl }

quiet-talked : (p : Option Phase) → Quiet p (talked_phase p)
quiet-talked None = record { registered = refl; member = refl; token = refl; dying = refl }
quiet-talked (Some Saving) = record { registered = refl; member = refl; token = refl; dying = refl }
quiet-talked (Some p) = record { registered = refl; member = refl; token = refl; dying = refl }

quiet-saved : (p : Option Phase) → Quiet p (saved_phase p)
quiet-saved None = record { registered = refl; member = refl; token = refl; dying = refl }
quiet-saved (Some Saving) = record { registered = refl; member = refl; token = refl; dying = refl }
quiet-saved (Some p) = record { registered = refl; member = refl; token = refl; dying = refl }

quiet-second : (p : Option Phase) → Quiet p (second_phase p)
quiet-second None = record { registered = refl; member = refl; token = refl; dying = refl }
quiet-second (Some Saving) = record { registered = refl; member = refl; token = refl; dying = refl }
quiet-second (Some p) = record { registered = refl; member = refl; token = refl; dying = refl }

quiet-second_begun : (p : Option Phase) → Quiet p (second_begun_phase p)
quiet-second_begun None = record { registered = refl; member = refl; token = refl; dying = refl }
quiet-second_begun (Some Saving) = record { registered = refl; member = refl; token = refl; dying = refl }
quiet-second_begun (Some p) = record { registered = refl; member = refl; token = refl; dying = refl }

pub quiet-cond : (b : Bool) (p q : Option Phase) → Quiet p q → Quiet p (cond b q p)
quiet-cond true p q k = k
quiet-cond false p q k = quiet-same p

-- whatever a client says is quiet
pub quiet-said : (allowed : Dialog → Bool) (m : XsmpMessage) (p : Option Phase) → Quiet p (phase_said allowed m p)
quiet-said allowed (InteractRequest dialog) p = quiet-cond (allowed dialog) p (asked_phase p) (quiet-asked p)
quiet-said allowed (InteractDone false) p = quiet-talked p
quiet-said allowed (InteractDone true) p = quiet-same p
quiet-said allowed (SaveYourselfDone success) p = quiet-saved p
quiet-said allowed SaveYourselfPhase2Request p = quiet-second p
quiet-said allowed m p = quiet-same p

pub quiet-ready : (p : Option Phase) → Quiet p (ready_phase p)
quiet-ready None = record { registered = refl; member = refl; token = refl; dying = refl }
quiet-ready (Some p) = quiet-same (Some p)

-- What a client is given

abbrev pub is_reply : XsmpMessage → Bool
is_reply (RegisterClientReply id) = true
is_reply m = false

abbrev pub is_token : XsmpMessage → Bool
is_token Interact = true
is_token m = false

abbrev pub is_end : XsmpMessage → Bool
is_end Die = true
is_end m = false

-- the messages that take a client into a round or out of it
abbrev pub is_of_round : XsmpMessage → Bool
is_of_round (SaveYourself kind shutdown style fast) = true
is_of_round SaveComplete = true
is_of_round ShutdownCancelled = true
is_of_round Die = true
is_of_round m = false

-- a step by a message: it registers, gives the token, tells to die and changes rounds only where the message is of that kind
pub record Given (m : XsmpMessage) (p q : Option Phase) : Type 0 where
  pub registered : is_reply m ≡ false → is_registered q ≡ is_registered p
  pub token : is_token m ≡ false → (is_interacting q && not (is_interacting p)) ≡ false
  pub dying : is_end m ≡ false → is_dying q ≡ is_dying p
  pub member : is_of_round m ≡ false → is_member q ≡ is_member p

given-quiet : (m : XsmpMessage) (p q : Option Phase) → Quiet p q → Given m p q
given-quiet m p q k = record { registered = λ e. k.registered; token = λ e. k.token; dying = λ e. k.dying; member = λ e. k.member }

given-reply : (id : _) (p : Option Phase) → Given (RegisterClientReply id) p (registered_phase p)
given-reply id None = record { registered = λ e. refl; token = λ e. refl; dying = λ e. refl; member = λ e. refl }
given-reply id (Some Unregistered) = record { registered = λ e. grind arith; token = λ e. refl; dying = λ e. refl; member = λ e. refl }
given-reply id (Some p) = record { registered = λ e. refl; token = λ e. refl; dying = λ e. refl; member = λ e. refl }

given-begun : (kind : _) (shutdown : _) (style : _) (fast : _) (p : Option Phase) → Given (SaveYourself kind shutdown style fast) p (begun_phase p)
given-begun kind shutdown style fast None = record { registered = λ e. refl; token = λ e. refl; dying = λ e. refl; member = λ e. refl }
given-begun kind shutdown style fast (Some Idle) = record { registered = λ e. refl; token = λ e. refl; dying = λ e. refl; member = λ e. grind arith }
given-begun kind shutdown style fast (Some p) = record { registered = λ e. refl; token = λ e. refl; dying = λ e. refl; member = λ e. refl }

given-held : (p : Option Phase) → Given Interact p (held_phase p)
given-held None = record { registered = λ e. refl; token = λ e. refl; dying = λ e. refl; member = λ e. refl }
given-held (Some Asked) = record { registered = λ e. refl; token = λ e. grind arith; dying = λ e. refl; member = λ e. refl }
given-held (Some AskedTwo) = record { registered = λ e. refl; token = λ e. grind arith; dying = λ e. refl; member = λ e. refl }
given-held (Some p) = record { registered = λ e. refl; token = λ e. refl; dying = λ e. refl; member = λ e. refl }

given-completed : (p : Option Phase) → Given SaveComplete p (completed_phase p)
given-completed None = record { registered = λ e. refl; token = λ e. refl; dying = λ e. refl; member = λ e. refl }
given-completed (Some Done) = record { registered = λ e. refl; token = λ e. refl; dying = λ e. refl; member = λ e. grind arith }
given-completed (Some p) = record { registered = λ e. refl; token = λ e. refl; dying = λ e. refl; member = λ e. refl }

given-cancelled : (p : Option Phase) → Given ShutdownCancelled p (cancelled_phase p)
given-cancelled None = record { registered = λ e. refl; token = λ e. refl; dying = λ e. refl; member = λ e. refl }
given-cancelled (Some Done) = record { registered = λ e. refl; token = λ e. refl; dying = λ e. refl; member = λ e. grind arith }
given-cancelled (Some p) = record { registered = λ e. refl; token = λ e. refl; dying = λ e. refl; member = λ e. grind arith }

given-dying : (p : Option Phase) → Given Die p (dying_phase p)
given-dying None = record { registered = λ e. refl; token = λ e. refl; dying = λ e. refl; member = λ e. refl }
given-dying (Some Unregistered) = record { registered = λ e. refl; token = λ e. refl; dying = λ e. refl; member = λ e. refl }
given-dying (Some p) = record { registered = λ e. refl; token = λ e. refl; dying = λ e. grind arith; member = λ e. grind arith }

pub given-phase : (m : XsmpMessage) (p : Option Phase) → Given m p (phase_given m p)
given-phase (RegisterClientReply id) p = given-reply id p
given-phase (SaveYourself kind shutdown style fast) p = given-begun kind shutdown style fast p
given-phase Interact p = given-held p
given-phase SaveYourselfPhase2 p = given-quiet SaveYourselfPhase2 p (second_begun_phase p) (quiet-second_begun p)
given-phase SaveComplete p = given-completed p
given-phase ShutdownCancelled p = given-cancelled p
given-phase Die p = given-dying p
given-phase m p = given-quiet m p p (quiet-same p)
