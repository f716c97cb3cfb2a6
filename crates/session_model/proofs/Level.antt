-- Between events the members of the running round are exactly those that it has asked to save.
use Rattle.std.proofs.Common.{◌≡◌, refl, ℕ, Bool, true, false, cond, not, ◌&&◌, ◌||◌, List, [], ◌∷◌, ◌++◌, eqb, sym, ap, subst, ◌∙◌, arith}
use Rattle.std.specs.Prelude.{Option, Some, None}
use Rattle.xsmp_messages.specs.declared.message.XsmpMessage.{XsmpMessage}
use Rattle.xsmp_messages.specs.declared.message.XsmpMessage.TheVariants.{RegisterClientReply, SaveYourself, Interact, Die, ShutdownCancelled, SaveComplete}
use Rattle.interact_queue.specs.Queue.{is_in, without}
use Rattle.std.specs.List.{AllByRecursion}
use Rattle.session_model.specs.declared.phase.Phase.{Phase}
use Rattle.session_model.specs.declared.phase.Phase.TheVariants.{Unregistered, Idle, Done}
use Rattle.session_model.specs.declared.events.SessionEvent.{SessionEvent}
use Rattle.session_model.specs.declared.events.SessionEvent.TheVariants.{Joined, Ready, Said, Left, Operator, Tick}
use Rattle.session_model.specs.Phases.{is_member, may_interact, phase_said, phase_given, ready_phase, dying_phase, begun_phase, completed_phase, cancelled_phase}
use Rattle.session_model.specs.Moves.{Move, Outside, Gave, Unset, Closed, Began, Over, Cancelled, Agreed, History, ◌▷◌, onto, gave_each}
use Rattle.session_model.specs.Readings as of
use Rattle.session_model.proofs.MoveKinds.{IsWide}
use Rattle.session_model.proofs.Lists.{in-without}
use Rattle.session_model.proofs.PhaseSteps.{quiet-said, quiet-ready, given-phase}
use Rattle.session_model.proofs.Sound.{Fits, AllFit, at-one, phase-there, Sound, sound-onto}

abbrev pub Level : History → Type 0
Level h = (c : ℕ) → is_in c (of.members h) ≡ is_member (of.phase_of c h)

-- One move

member-left : (b i : Bool) (p : Option Phase) → i ≡ is_member p → (not b && i) ≡ is_member (cond b None p)
member-left true i p r = refl
member-left false i p r = r

pub level-left : (d : ℕ) (h : History) → Level h → (c : ℕ) → is_in c (without d (of.members h)) ≡ is_member (cond (eqb d c) None (of.phase_of c h))
level-left d h l c = in-without c d (of.members h) ∙ member-left (eqb d c) (is_in c (of.members h)) (of.phase_of c h) (l c)

pub level-heard : (event : SessionEvent) (h : History) → Level h → Level (Outside event ▷ h)
level-heard (Joined d) h l c = l c
level-heard (Ready d) h l c = l c ∙ sym (at-one (λ p. is_member p) (eqb d c) (of.phase_of c h) (ready_phase (of.phase_of c h)) (quiet-ready (of.phase_of c h)).member)
level-heard (Said d m sequence frame) h l c =
    l c ∙ sym (at-one (λ p. is_member p) (eqb d c) (of.phase_of c h) (phase_said (λ dialog. may_interact (of.wanted h) dialog) m (of.phase_of c h)) (quiet-said (λ dialog. may_interact (of.wanted h) dialog) m (of.phase_of c h)).member)
level-heard (Left d) h l c = level-left d h l c
level-heard (Operator order) h l c = l c
level-heard (Tick milliseconds) h l c = l c

level-by : (d : ℕ) (m : XsmpMessage) (h : History) → ((p : Option Phase) → is_member (phase_given m p) ≡ is_member p) → Level h → Level (Gave d m ▷ h)
level-by d m h k l c = l c ∙ sym (at-one (λ p. is_member p) (eqb d c) (of.phase_of c h) (phase_given m (of.phase_of c h)) (k (of.phase_of c h)))

pub level-reply : (d : ℕ) (id : List ℕ) (h : History) → Level h → Level (Gave d (RegisterClientReply id) ▷ h)
level-reply d id h l = level-by d (RegisterClientReply id) h (λ p. (given-phase (RegisterClientReply id) p).member refl) l

pub level-token : (d : ℕ) (h : History) → Level h → Level (Gave d Interact ▷ h)
level-token d h l = level-by d Interact h (λ p. (given-phase Interact p).member refl) l

member-unset : (b i : Bool) (p : Option Phase) → (b ≡ true → p ≡ Some Unregistered) → i ≡ is_member p → i ≡ is_member (cond b None p)
member-unset true i p e r = r ∙ ap (λ (q : Option Phase). is_member q) (e refl)
member-unset false i p e r = r

pub level-unset : (d : ℕ) (h : History) → of.phase_of d h ≡ Some Unregistered → Level h → Level (Unset d ▷ h)
level-unset d h f l c = member-unset (eqb d c) (is_in c (of.members h)) (of.phase_of c h) (phase-there c d h (Some Unregistered) f) (l c)

-- Plain moves, which fit everywhere

abbrev pub is_plain : XsmpMessage → Bool
is_plain (RegisterClientReply id) = false
is_plain (SaveYourself kind shutdown style fast) = false
is_plain Interact = false
is_plain SaveComplete = false
is_plain ShutdownCancelled = false
is_plain Die = false
is_plain m = true

abbrev pub IsPlain : Move → Type 0
IsPlain (Gave c m) = is_plain m ≡ true
IsPlain (Unset c) = ⊥
IsPlain (Began conns wanted) = ⊥
IsPlain Over = ⊥
IsPlain Agreed = ⊥
IsPlain Cancelled = ⊥
IsPlain m = Unit {0}

plain-fits-given : (c : ℕ) (m : XsmpMessage) (h : History) → is_plain m ≡ true → Fits (Gave c m) h
plain-fits-given c (RegisterClientReply id) h e = absurd (grind arith)
plain-fits-given c Interact h e = absurd (grind arith)
plain-fits-given c Die h e = absurd (grind arith)
plain-fits-given c m h e = tt

plain-fits : (m : Move) (h : History) → IsPlain m → Fits m h
plain-fits (Gave c m) h e = plain-fits-given c m h e
plain-fits (Unset c) h e = absurd e
plain-fits m h e = tt

plain-level-given : (c : ℕ) (m : XsmpMessage) (h : History) → is_plain m ≡ true → Level h → Level (Gave c m ▷ h)
plain-level-given c (RegisterClientReply id) h e l = absurd (grind arith)
plain-level-given c (SaveYourself kind shutdown style fast) h e l = absurd (grind arith)
plain-level-given c Interact h e l = absurd (grind arith)
plain-level-given c SaveComplete h e l = absurd (grind arith)
plain-level-given c ShutdownCancelled h e l = absurd (grind arith)
plain-level-given c Die h e l = absurd (grind arith)
plain-level-given c m h e l = level-by c m h (λ p. (given-phase m p).member refl) l

plain-level : (m : Move) (h : History) → IsPlain m → Level h → Level (m ▷ h)
plain-level (Outside event) h e l = level-heard event h l
plain-level (Gave c m) h e l = plain-level-given c m h e l
plain-level (Closed c) h e l = level-left c h l
plain-level (Unset c) h e l = absurd e
plain-level (Began conns wanted) h e l = absurd e
plain-level Over h e l = absurd e
plain-level Agreed h e l = absurd e
plain-level Cancelled h e l = absurd e
plain-level m h e l = l

abbrev pub AllPlain : List Move → Type 0
AllPlain moves = AllByRecursion IsPlain moves

pub plain-wide : IsWide IsPlain
plain-wide = record { respawned = λ id command. tt; resigned = λ command. tt; closed = λ c. tt; printed = λ text. tt }

-- What holds between events

pub record Good (h : History) : Type 0 where
  pub sound : Sound h
  pub level : Level h

pub good-by : (moves : List Move) (h : History) → AllFit moves h → Sound h → Level (onto h moves) → Good (onto h moves)
good-by moves h f s l = record { sound = sound-onto moves h f s; level = l }

fit-plain : (moves : List Move) (h : History) → AllPlain moves → AllFit moves h
fit-plain [] h e = tt
fit-plain (m ∷ moves) h e = (plain-fits m h e.0, fit-plain moves (m ▷ h) e.1)

pub level-plain : (moves : List Move) (h : History) → AllPlain moves → Level h → Level (onto h moves)
level-plain [] h e l = l
level-plain (m ∷ moves) h e l = level-plain moves (m ▷ h) e.1 (plain-level m h e.0 l)

pub good-plain : (moves : List Move) (h : History) → AllPlain moves → Good h → Good (onto h moves)
good-plain moves h e g = good-by moves h (fit-plain moves h e) g.sound (level-plain moves h e g.level)

pub onto-append : (h : History) (xs ys : List Move) → onto h (xs ++ ys) ≡ onto (onto h xs) ys
onto-append h [] ys = refl
onto-append h (x ∷ xs) ys = onto-append (x ▷ h) xs ys

pub good-append : (h : History) (xs ys : List Move) → Good (onto (onto h xs) ys) → Good (onto h (xs ++ ys))
good-append h xs ys g = subst (λ (x : History). Good x) (sym (onto-append h xs ys)) g

-- The same message to each

-- what a step does twice it does once
abbrev pub IsOnce : XsmpMessage → Type 0
IsOnce m = (p : Option Phase) → phase_given m (phase_given m p) ≡ phase_given m p

phase-twice : (m : XsmpMessage) → IsOnce m → (b i : Bool) (p : Option Phase) → cond i (phase_given m (cond b (phase_given m p) p)) (cond b (phase_given m p) p) ≡ cond (b || i) (phase_given m p) p
phase-twice m k true true p = k p
phase-twice m k true false p = refl
phase-twice m k false i p = refl

pub phase-each : (m : XsmpMessage) → IsOnce m → (conns : List ℕ) (h : History) (c : ℕ) → of.phase_of c (onto h (gave_each m conns)) ≡ cond (is_in c conns) (phase_given m (of.phase_of c h)) (of.phase_of c h)
phase-each m k [] h c = refl
phase-each m k (d ∷ conns) h c = phase-each m k conns (Gave d m ▷ h) c ∙ phase-twice m k (eqb d c) (is_in c conns) (of.phase_of c h)

pub members-each : (m : XsmpMessage) (conns : List ℕ) (h : History) → of.members (onto h (gave_each m conns)) ≡ of.members h
members-each m [] h = refl
members-each m (d ∷ conns) h = members-each m conns (Gave d m ▷ h)

pub once-begun : (p : Option Phase) → begun_phase (begun_phase p) ≡ begun_phase p
once-begun None = refl
once-begun (Some Idle) = refl
once-begun (Some p) = refl

pub once-completed : (p : Option Phase) → completed_phase (completed_phase p) ≡ completed_phase p
once-completed None = refl
once-completed (Some Done) = refl
once-completed (Some p) = refl

pub once-cancelled : (p : Option Phase) → cancelled_phase (cancelled_phase p) ≡ cancelled_phase p
once-cancelled None = refl
once-cancelled (Some Done) = refl
once-cancelled (Some p) = refl

pub once-dying : (p : Option Phase) → dying_phase (dying_phase p) ≡ dying_phase p
once-dying None = refl
once-dying (Some Unregistered) = refl
once-dying (Some p) = refl

-- after a message to each of some connections, the round without members is level again
pub level-emptied : (m : XsmpMessage) → IsOnce m → (conns : List ℕ) (h : History) → of.members h ≡ [] → ((c : ℕ) → is_member (cond (is_in c conns) (phase_given m (of.phase_of c h)) (of.phase_of c h)) ≡ false) → Level (onto h (gave_each m conns))
level-emptied m k conns h e f c =
    ap (λ (xs : List ℕ). is_in c xs) (members-each m conns h ∙ e) ∙ sym (f c) ∙ sym (ap (λ (p : Option Phase). is_member p) (phase-each m k conns h c))
