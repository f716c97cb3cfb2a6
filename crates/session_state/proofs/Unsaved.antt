-- Who is still to save has no snapshot.
use Rattle.std.proofs.Common.{◌≡◌, refl, ℕ, Bool, true, false, cond, List, eqb, arith}
use Rattle.std.specs.Prelude.{Option, Some, None}
use Rattle.ice_values.specs.declared.saves.Dialog.{Dialog}
use Rattle.ice_values.specs.declared.property.Property.{Property}
use Rattle.xsmp_messages.specs.declared.message.XsmpMessage.{XsmpMessage}
use Rattle.xsmp_messages.specs.declared.message.XsmpMessage.TheVariants.{Die, Interact, InteractDone, InteractRequest, RegisterClientReply, SaveComplete, SaveYourself, SaveYourselfDone, SaveYourselfPhase2, SaveYourselfPhase2Request, ShutdownCancelled}
use Rattle.session_model.specs.declared.phase.Phase.{Phase}
use Rattle.session_model.specs.declared.phase.Phase.TheVariants.{Asked, AskedTwo, Done, Interacting, InteractingTwo, Saving, SavingTwo, Unregistered, WantsTwo}
use Rattle.session_model.specs.declared.events.SessionEvent.{SessionEvent}
use Rattle.session_model.specs.declared.events.SessionEvent.TheVariants.{Joined, Left, Operator, Ready, Said, Tick}
use Rattle.session_model.specs.Phases.{asked_phase, completed_phase, dying_phase, held_phase, is_saving, may_interact, phase_given, phase_said, ready_phase, registered_phase, saved_phase, second_begun_phase, second_phase, talked_phase}
use Rattle.session_model.specs.Moves.{Closed, Gave, History, Move, Opened, Outside, Unset, ◌▷◌}
use Rattle.session_model.specs.Readings as of
use Rattle.session_model.proofs.Asked.{is_at_work}

-- a step by which nobody begins to save
abbrev NoneMore : Option Phase → Option Phase → Type 0
NoneMore p q = is_at_work q ≡ true → is_at_work p ≡ true

none-asked : (p : Option Phase) → NoneMore p (asked_phase p)
none-asked (Some Saving) e = refl
none-asked (Some SavingTwo) e = refl
none-asked p e = e

none-talked : (p : Option Phase) → NoneMore p (talked_phase p)
none-talked (Some Interacting) e = refl
none-talked (Some InteractingTwo) e = refl
none-talked p e = e

none-second : (p : Option Phase) → NoneMore p (second_phase p)
none-second (Some Saving) e = refl
none-second p e = e

none-cond : (b : Bool) (p q : Option Phase) → NoneMore p q → NoneMore p (cond b q p)
none-cond true p q k e = k e
none-cond false p q k e = e

none-ready : (p : Option Phase) → NoneMore p (ready_phase p)
none-ready None e = absurd (grind arith)
none-ready (Some p) e = e

none-registered : (p : Option Phase) → NoneMore p (registered_phase p)
none-registered (Some Unregistered) e = absurd (grind arith)
none-registered p e = e

none-held : (p : Option Phase) → NoneMore p (held_phase p)
none-held (Some Asked) e = refl
none-held (Some AskedTwo) e = refl
none-held p e = e

none-second_begun : (p : Option Phase) → NoneMore p (second_begun_phase p)
none-second_begun (Some WantsTwo) e = refl
none-second_begun p e = e

none-completed : (p : Option Phase) → NoneMore p (completed_phase p)
none-completed (Some Done) e = absurd (grind arith)
none-completed p e = e

none-dying : (p : Option Phase) → NoneMore p (dying_phase p)
none-dying None e = e
none-dying (Some Unregistered) e = e
none-dying (Some p) e = absurd (grind arith)

-- there is no snapshot while the save is still to come
abbrev HasNone : Option Phase → Option (List Property) → Type 0
HasNone p saved = is_at_work p ≡ true → saved ≡ None

none-saved : (p : Option Phase) (table : List Property) (saved : Option (List Property)) → HasNone p saved → HasNone (saved_phase p) (cond (is_saving p) (Some table) saved)
none-saved (Some Saving) table saved k e = absurd (grind arith)
none-saved (Some SavingTwo) table saved k e = absurd (grind arith)
none-saved p table saved k e = k e

none-failed : (p : Option Phase) (saved : Option (List Property)) → HasNone p saved → HasNone (saved_phase p) saved
none-failed (Some Saving) saved k e = absurd (grind arith)
none-failed (Some SavingTwo) saved k e = absurd (grind arith)
none-failed p saved k e = k e

unsaved-said : (c : ℕ) (m : XsmpMessage) (allowed : Dialog → Bool) (phase : ℕ → Option Phase) (table : ℕ → List Property) (saved : Option (List Property)) → HasNone (phase c) saved
    → HasNone (phase_said allowed m (phase c)) (of.saved_said c m phase table saved)
unsaved-said c (InteractRequest dialog) allowed phase table saved k e = k (none-cond (allowed dialog) (phase c) (asked_phase (phase c)) (none-asked (phase c)) e)
unsaved-said c (InteractDone false) allowed phase table saved k e = k (none-talked (phase c) e)
unsaved-said c (InteractDone true) allowed phase table saved k e = k e
unsaved-said c (SaveYourselfDone true) allowed phase table saved k e = none-saved (phase c) (table c) saved k e
unsaved-said c (SaveYourselfDone false) allowed phase table saved k e = none-failed (phase c) saved k e
unsaved-said c SaveYourselfPhase2Request allowed phase table saved k e = k (none-second (phase c) e)
unsaved-said c m allowed phase table saved k e = k e

unsaved-given : (m : XsmpMessage) (p : Option Phase) (saved : Option (List Property)) → HasNone p saved → HasNone (phase_given m p) (of.saved_given m saved)
unsaved-given (RegisterClientReply id) p saved k e = k (none-registered p e)
unsaved-given (SaveYourself kind shutdown style fast) p saved k e = refl
unsaved-given Interact p saved k e = k (none-held p e)
unsaved-given SaveYourselfPhase2 p saved k e = k (none-second_begun p e)
unsaved-given SaveComplete p saved k e = k (none-completed p e)
unsaved-given ShutdownCancelled p saved k e = refl
unsaved-given Die p saved k e = k (none-dying p e)
unsaved-given m p saved k e = k e

-- at one connection both step, and at the others neither does
both-at : (b : Bool) (p q : Option Phase) (s t : Option (List Property)) → HasNone p s → HasNone q t → HasNone (cond b q p) (cond b t s)
both-at true p q s t k l e = l e
both-at false p q s t k l e = k e

one-at : (b : Bool) (p q : Option Phase) (s : Option (List Property)) → HasNone p s → NoneMore p q → HasNone (cond b q p) s
one-at true p q s k l e = k (l e)
one-at false p q s k l e = k e

abbrev pub Unsaved : History → Type 0
Unsaved h = (c : ℕ) → is_at_work (of.phase_of c h) ≡ true → of.saved_of c h ≡ None

unsaved-heard : (event : SessionEvent) (h : History) → Unsaved h → Unsaved (Outside event ▷ h)
unsaved-heard (Joined d) h k c e = k c e
unsaved-heard (Ready d) h k c e = one-at (eqb d c) (of.phase_of c h) (ready_phase (of.phase_of c h)) (of.saved_of c h) (k c) (none-ready (of.phase_of c h)) e
unsaved-heard (Said d m sequence frame) h k c e =
    both-at (eqb d c) (of.phase_of c h) (phase_said (λ dialog. may_interact (of.wanted h) dialog) m (of.phase_of c h)) (of.saved_of c h) (of.saved_said c m (λ x. of.phase_of x h) (λ x. of.table_of x h) (of.saved_of c h)) (k c)
    (unsaved-said c m (λ dialog. may_interact (of.wanted h) dialog) (λ x. of.phase_of x h) (λ x. of.table_of x h) (of.saved_of c h) (k c)) e
unsaved-heard (Left d) h k c e = both-at (eqb d c) (of.phase_of c h) None (of.saved_of c h) None (k c) (λ f. refl) e
unsaved-heard (Operator order) h k c e = k c e
unsaved-heard (Tick milliseconds) h k c e = k c e

unsaved-step : (m : Move) (h : History) → Unsaved h → Unsaved (m ▷ h)
unsaved-step (Outside event) h k c e = unsaved-heard event h k c e
unsaved-step (Gave d m) h k c e =
    both-at (eqb d c) (of.phase_of c h) (phase_given m (of.phase_of c h)) (of.saved_of c h) (of.saved_given m (of.saved_of c h)) (k c) (unsaved-given m (of.phase_of c h) (of.saved_of c h) (k c)) e
unsaved-step (Closed d) h k c e = both-at (eqb d c) (of.phase_of c h) None (of.saved_of c h) None (k c) (λ f. refl) e
unsaved-step (Unset d) h k c e = one-at (eqb d c) (of.phase_of c h) None (of.saved_of c h) (k c) (λ f. absurd (grind arith)) e
unsaved-step m h k c e = k c e

pub unsaved : (h : History) → Unsaved h
unsaved (Opened opening) c e = absurd (grind arith)
unsaved (m ▷ h) c e = unsaved-step m h (unsaved h) c e
