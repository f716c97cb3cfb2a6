-- What holds of rounds at every move: nobody is a member twice, nobody owes an answer while one runs, none runs once a shutdown was
-- agreed, and who saves was asked so by the round that runs.
use Rattle.std.proofs.Common.{◌≡◌, refl, ℕ, Bool, true, false, cond, List, [], ◌∷◌, eqb, arith}
use Rattle.std.specs.Prelude.{Option, Some, None, is_some}
use Rattle.ice_values.specs.declared.saves.Dialog.{Dialog}
use Rattle.xsmp_messages.specs.declared.message.XsmpMessage.{XsmpMessage}
use Rattle.xsmp_messages.specs.declared.message.XsmpMessage.TheVariants.{Die, Interact, InteractDone, InteractRequest, RegisterClientReply, SaveComplete, SaveYourself, SaveYourselfDone, SaveYourselfPhase2, SaveYourselfPhase2Request, ShutdownCancelled}
use Rattle.round_agreement.specs.declared.wanted.Wanted.{Wanted}
use Rattle.session_model.specs.declared.events.SessionEvent.{SessionEvent}
use Rattle.session_model.specs.declared.events.SessionEvent.TheVariants.{Left, Ready, Said}
use Rattle.session_model.specs.declared.phase.Phase.{Phase}
use Rattle.session_model.specs.declared.phase.Phase.TheVariants.{Asked, AskedTwo, Done, Idle, Interacting, InteractingTwo, Owing, Saving, SavingTwo, Unregistered, WantsTwo}
use Rattle.session_model.specs.Moves.{Agreed, Began, Cancelled, Closed, Gave, History, Move, Opened, Outside, Over, Unset, onto, ◌▷◌}
use Rattle.session_model.specs.Phases.{asked_phase, is_owing, may_interact, phase_given, phase_said, ready_phase, saved_phase, second_phase, talked_phase}
use Rattle.session_model.specs.Readings as of
use Rattle.session_model.proofs.Lists.{Once, once-without}
use Rattle.session_model.proofs.Ruled.{differ}
use Rattle.end_agreement.specs.Sides.{is_at_work}
use Rattle.end_schedules.specs.Laws.{IsOfRound}
use Rattle.end_schedules.specs.UnderWay.{Save, save_of}

pub record Steady (h : History) : Type 0 where
  pub once_members : Once (of.members h)
  pub nobody_owes : is_some (of.running h) ≡ true → (c : ℕ) → is_owing (of.phase_of c h) ≡ false
  pub over : of.is_ending h ≡ true → is_some (of.running h) ≡ false
  pub says : (c : ℕ) (wanted : Wanted) → of.wanted h ≡ Some wanted → is_at_work (of.phase_of c h) ≡ true → IsOfRound (save_of c h) wanted

-- What a move asks of the history before it

pub record Begins (conns : List ℕ) (h : History) : Type 0 where
  pub once : Once conns
  pub free : (c : ℕ) → is_owing (of.phase_of c h) ≡ false
  pub idle : (c : ℕ) → is_at_work (of.phase_of c h) ≡ false
  pub goes_on : of.is_ending h ≡ false

abbrev pub NeedsGiven : XsmpMessage → History → Type 0
NeedsGiven ShutdownCancelled h = is_some (of.running h) ≡ false
NeedsGiven (SaveYourself kind shutdown style fast) h = (wanted : Wanted) → of.wanted h ≡ Some wanted → IsOfRound (record { shutdown = shutdown; style = style }) wanted
NeedsGiven m h = Unit {0}

abbrev pub Needs : Move → History → Type 0
Needs (Gave c m) h = NeedsGiven m h
Needs (Began conns wanted) h = Begins conns h
Needs m h = Unit {0}

abbrev pub AllNeed : List Move → History → Type 0
AllNeed [] h = Unit {0}
AllNeed (m ∷ moves) h = Needs m h × AllNeed moves (m ▷ h)

-- Members

members-heard : (event : SessionEvent) (h : History) → Once (of.members h) → Once (of.members (Outside event ▷ h))
members-heard (Left c) h o = once-without c (of.members h) o
members-heard event h o = o

members-step : (m : Move) (h : History) → Needs m h → Once (of.members h) → Once (of.members (m ▷ h))
members-step (Outside event) h n o = members-heard event h o
members-step (Closed c) h n o = once-without c (of.members h) o
members-step (Began conns wanted) h n o = n.once
members-step Over h n o = tt
members-step Agreed h n o = tt
members-step Cancelled h n o = tt
members-step m h n o = o

-- Who owes

owing-cond : (b : Bool) (p q : Option Phase) → is_owing p ≡ false → is_owing q ≡ false → is_owing (cond b q p) ≡ false
owing-cond true p q n k = k
owing-cond false p q n k = n

owing-asked : (p : Option Phase) → is_owing p ≡ false → is_owing (asked_phase p) ≡ false
owing-asked None n = n
owing-asked (Some Saving) n = refl
owing-asked (Some SavingTwo) n = refl
owing-asked (Some p) n = n

owing-talked : (p : Option Phase) → is_owing p ≡ false → is_owing (talked_phase p) ≡ false
owing-talked None n = n
owing-talked (Some Interacting) n = refl
owing-talked (Some InteractingTwo) n = refl
owing-talked (Some p) n = n

owing-saved : (p : Option Phase) → is_owing p ≡ false → is_owing (saved_phase p) ≡ false
owing-saved None n = n
owing-saved (Some Saving) n = refl
owing-saved (Some SavingTwo) n = refl
owing-saved (Some Owing) n = refl
owing-saved (Some p) n = n

owing-second : (p : Option Phase) → is_owing p ≡ false → is_owing (second_phase p) ≡ false
owing-second None n = n
owing-second (Some Saving) n = refl
owing-second (Some p) n = n

owing-said : (allowed : Dialog → Bool) (m : XsmpMessage) (p : Option Phase) → is_owing p ≡ false → is_owing (phase_said allowed m p) ≡ false
owing-said allowed (InteractRequest dialog) p n = owing-cond (allowed dialog) p (asked_phase p) n (owing-asked p n)
owing-said allowed (InteractDone false) p n = owing-talked p n
owing-said allowed (InteractDone true) p n = n
owing-said allowed (SaveYourselfDone success) p n = owing-saved p n
owing-said allowed SaveYourselfPhase2Request p n = owing-second p n
owing-said allowed m p n = n

owing-ready : (p : Option Phase) → is_owing p ≡ false → is_owing (ready_phase p) ≡ false
owing-ready None n = refl
owing-ready (Some p) n = n

owing-given : (m : XsmpMessage) (p : Option Phase) → (m ≡ ShutdownCancelled → ⊥) → is_owing p ≡ false → is_owing (phase_given m p) ≡ false
owing-given ShutdownCancelled p k n = absurd (k refl)
owing-given (RegisterClientReply id) None k n = n
owing-given (RegisterClientReply id) (Some Unregistered) k n = refl
owing-given (RegisterClientReply id) (Some p) k n = n
owing-given (SaveYourself kind shutdown style fast) None k n = n
owing-given (SaveYourself kind shutdown style fast) (Some Idle) k n = refl
owing-given (SaveYourself kind shutdown style fast) (Some p) k n = n
owing-given Interact None k n = n
owing-given Interact (Some Asked) k n = refl
owing-given Interact (Some AskedTwo) k n = refl
owing-given Interact (Some p) k n = n
owing-given SaveYourselfPhase2 None k n = n
owing-given SaveYourselfPhase2 (Some WantsTwo) k n = refl
owing-given SaveYourselfPhase2 (Some p) k n = n
owing-given SaveComplete None k n = n
owing-given SaveComplete (Some Done) k n = refl
owing-given SaveComplete (Some p) k n = n
owing-given Die None k n = n
owing-given Die (Some Unregistered) k n = n
owing-given Die (Some p) k n = refl
owing-given m p k n = n

abbrev pub NobodyOwes : History → Type 0
NobodyOwes h = is_some (of.running h) ≡ true → (c : ℕ) → is_owing (of.phase_of c h) ≡ false

owes-heard : (event : SessionEvent) (h : History) → NobodyOwes h → NobodyOwes (Outside event ▷ h)
owes-heard (Ready d) h k e c = owing-cond (eqb d c) (of.phase_of c h) (ready_phase (of.phase_of c h)) (k e c) (owing-ready (of.phase_of c h) (k e c))
owes-heard (Said d m sequence frame) h k e c =
    owing-cond (eqb d c) (of.phase_of c h) (phase_said (λ dialog. may_interact (of.wanted h) dialog) m (of.phase_of c h)) (k e c)
    (owing-said (λ dialog. may_interact (of.wanted h) dialog) m (of.phase_of c h) (k e c))
owes-heard (Left d) h k e c = owing-cond (eqb d c) (of.phase_of c h) None (k e c) refl
owes-heard event h k e c = k e c

owes-given : (d : ℕ) (m : XsmpMessage) (h : History) → NeedsGiven m h → NobodyOwes h → NobodyOwes (Gave d m ▷ h)
owes-given d ShutdownCancelled h n k e c = absurd (differ e n)
owes-given d m h n k e c = owing-cond (eqb d c) (of.phase_of c h) (phase_given m (of.phase_of c h)) (k e c) (owing-given m (of.phase_of c h) (λ s. absurd cc) (k e c))

owes-step : (m : Move) (h : History) → Needs m h → NobodyOwes h → NobodyOwes (m ▷ h)
owes-step (Outside event) h n k e c = owes-heard event h k e c
owes-step (Gave d m) h n k e c = owes-given d m h n k e c
owes-step (Closed d) h n k e c = owing-cond (eqb d c) (of.phase_of c h) None (k e c) refl
owes-step (Unset d) h n k e c = owing-cond (eqb d c) (of.phase_of c h) None (k e c) refl
owes-step (Began conns wanted) h n k e c = n.free c
owes-step Over h n k e c = absurd (grind arith)
owes-step Agreed h n k e c = absurd (grind arith)
owes-step Cancelled h n k e c = absurd (grind arith)
owes-step m h n k e c = k e c

-- The end

abbrev pub NoneRuns : History → Type 0
NoneRuns h = of.is_ending h ≡ true → is_some (of.running h) ≡ false

over-step : (m : Move) (h : History) → Needs m h → NoneRuns h → NoneRuns (m ▷ h)
over-step (Began conns wanted) h n k e = absurd (differ e n.goes_on)
over-step Over h n k e = refl
over-step Agreed h n k e = refl
over-step Cancelled h n k e = refl
over-step m h n k e = k e

-- Who is at work was so before, unless it was just asked to save.

work-asked : (p : Option Phase) → is_at_work (asked_phase p) ≡ true → is_at_work p ≡ true
work-asked None e = e
work-asked (Some Saving) e = refl
work-asked (Some SavingTwo) e = refl
work-asked (Some p) e = e

work-talked : (p : Option Phase) → is_at_work (talked_phase p) ≡ true → is_at_work p ≡ true
work-talked None e = e
work-talked (Some Interacting) e = refl
work-talked (Some InteractingTwo) e = refl
work-talked (Some p) e = e

work-saved : (p : Option Phase) → is_at_work (saved_phase p) ≡ true → is_at_work p ≡ true
work-saved None e = e
work-saved (Some Saving) e = refl
work-saved (Some SavingTwo) e = refl
work-saved (Some Owing) e = e
work-saved (Some p) e = e

work-second : (p : Option Phase) → is_at_work (second_phase p) ≡ true → is_at_work p ≡ true
work-second None e = e
work-second (Some Saving) e = refl
work-second (Some p) e = e

work-cond : (b : Bool) (p q : Option Phase) → (is_at_work q ≡ true → is_at_work p ≡ true) → is_at_work (cond b q p) ≡ true → is_at_work p ≡ true
work-cond true p q k e = k e
work-cond false p q k e = e

work-said : (allowed : Dialog → Bool) (m : XsmpMessage) (p : Option Phase) → is_at_work (phase_said allowed m p) ≡ true → is_at_work p ≡ true
work-said allowed (InteractRequest dialog) p e = work-cond (allowed dialog) p (asked_phase p) (work-asked p) e
work-said allowed (InteractDone false) p e = work-talked p e
work-said allowed (InteractDone true) p e = e
work-said allowed (SaveYourselfDone success) p e = work-saved p e
work-said allowed SaveYourselfPhase2Request p e = work-second p e
work-said allowed m p e = e

work-ready : (p : Option Phase) → is_at_work (ready_phase p) ≡ true → is_at_work p ≡ true
work-ready None e = e
work-ready (Some p) e = e

abbrev is_save : XsmpMessage → Bool
is_save (SaveYourself kind shutdown style fast) = true
is_save m = false

work-given : (m : XsmpMessage) (p : Option Phase) → is_save m ≡ false → is_at_work (phase_given m p) ≡ true → is_at_work p ≡ true
work-given (RegisterClientReply id) None n e = e
work-given (RegisterClientReply id) (Some Unregistered) n e = e
work-given (RegisterClientReply id) (Some p) n e = e
work-given (SaveYourself kind shutdown style fast) p n e = absurd (grind arith)
work-given Interact None n e = e
work-given Interact (Some Asked) n e = refl
work-given Interact (Some AskedTwo) n e = refl
work-given Interact (Some p) n e = e
work-given SaveYourselfPhase2 None n e = e
work-given SaveYourselfPhase2 (Some WantsTwo) n e = refl
work-given SaveYourselfPhase2 (Some p) n e = e
work-given SaveComplete None n e = e
work-given SaveComplete (Some Done) n e = e
work-given SaveComplete (Some p) n e = e
work-given ShutdownCancelled None n e = e
work-given ShutdownCancelled (Some Done) n e = absurd (grind arith)
work-given ShutdownCancelled (Some p) n e = absurd (grind arith)
work-given Die None n e = e
work-given Die (Some Unregistered) n e = e
work-given Die (Some p) n e = absurd (grind arith)
work-given m p n e = e

-- Rounds

abbrev pub Says : History → Type 0
Says h = (c : ℕ) (wanted : Wanted) → of.wanted h ≡ Some wanted → is_at_work (of.phase_of c h) ≡ true → IsOfRound (save_of c h) wanted

says-heard : (event : SessionEvent) (h : History) → Says h → Says (Outside event ▷ h)
says-heard (Ready d) h k c w e a = k c w e (work-cond (eqb d c) (of.phase_of c h) (ready_phase (of.phase_of c h)) (work-ready (of.phase_of c h)) a)
says-heard (Said d m sequence frame) h k c w e a =
    k c w e (work-cond (eqb d c) (of.phase_of c h) (phase_said (λ dialog. may_interact (of.wanted h) dialog) m (of.phase_of c h)) (work-said (λ dialog. may_interact (of.wanted h) dialog) m (of.phase_of c h)) a)
says-heard (Left d) h k c w e a = k c w e (work-cond (eqb d c) (of.phase_of c h) None (λ n. absurd (grind arith)) a)
says-heard event h k c w e a = k c w e a

kept-save : (b : Bool) (save : Save) (w : Wanted) → IsOfRound save w → IsOfRound (cond b save save) w
kept-save true save w k = k
kept-save false save w k = k

says-new : (b : Bool) (p q : Option Phase) (new save : Save) (w : Wanted) → IsOfRound new w → (is_at_work p ≡ true → IsOfRound save w) → is_at_work (cond b q p) ≡ true → IsOfRound (cond b new save) w
says-new true p q new save w n k a = n
says-new false p q new save w n k a = k a

says-given : (d : ℕ) (m : XsmpMessage) (h : History) → NeedsGiven m h → Says h → Says (Gave d m ▷ h)
says-given d (SaveYourself kind shutdown style fast) h n k c w e a =
    says-new (eqb d c) (of.phase_of c h) (phase_given (SaveYourself kind shutdown style fast) (of.phase_of c h)) (record { shutdown = shutdown; style = style }) (save_of c h) w (n w e) (k c w e) a
says-given d m h n k c w e a =
    kept-save (eqb d c) (save_of c h) w (k c w e (work-cond (eqb d c) (of.phase_of c h) (phase_given m (of.phase_of c h)) (work-given m (of.phase_of c h) refl) a))

says-step : (m : Move) (h : History) → Needs m h → Says h → Says (m ▷ h)
says-step (Outside event) h n k c w e a = says-heard event h k c w e a
says-step (Gave d m) h n k c w e a = says-given d m h n k c w e a
says-step (Closed d) h n k c w e a = k c w e (work-cond (eqb d c) (of.phase_of c h) None (λ x. absurd (grind arith)) a)
says-step (Unset d) h n k c w e a = k c w e (work-cond (eqb d c) (of.phase_of c h) None (λ x. absurd (grind arith)) a)
says-step (Began conns wanted) h n k c w e a = absurd (differ a (n.idle c))
says-step Over h n k c w e a = absurd cc
says-step Agreed h n k c w e a = absurd cc
says-step Cancelled h n k c w e a = absurd cc
says-step m h n k c w e a = k c w e a

pub steady-step : (m : Move) (h : History) → Needs m h → Steady h → Steady (m ▷ h)
steady-step m h n s = record {
  once_members = members-step m h n s.once_members;
  nobody_owes = owes-step m h n s.nobody_owes;
  over = over-step m h n s.over;
  says = says-step m h n s.says;
}

pub steady-onto : (moves : List Move) (h : History) → AllNeed moves h → Steady h → Steady (onto h moves)
steady-onto [] h n s = s
steady-onto (m ∷ moves) h n s = steady-onto moves (m ▷ h) n.1 (steady-step m h n.0 s)

pub steady-opened : (opening : _) → Steady (Opened opening)
steady-opened opening = record {
  once_members = tt;
  nobody_owes = λ e c. refl;
  over = λ e. refl;
  says = λ c w e a. absurd (grind arith);
}
