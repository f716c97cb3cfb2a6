-- Who waits for the token.
use Rattle.std.proofs.Common.{◌≡◌, refl, ℕ, Bool, true, false, cond, not, ◌&&◌, ◌||◌, List, [], ◌∷◌, ◌++◌, filter, eqb, sym, ap, ◌∙◌, arith}
use Rattle.std.specs.Prelude.{Option, Some, None}
use Rattle.std.proofs.lemmas.Bool.Decides.{nat_tests}
use Rattle.xsmp_messages.specs.declared.message.XsmpMessage.{XsmpMessage}
use Rattle.xsmp_messages.specs.declared.message.XsmpMessage.TheVariants.{RegisterClientReply, SaveYourself, InteractRequest, Interact, InteractDone, SaveYourselfDone, Die, ShutdownCancelled, SaveYourselfPhase2Request, SaveYourselfPhase2, SaveComplete}
use Rattle.interact_queue.specs.Queue.{is_in, without}
use Rattle.session_model.specs.declared.phase.Phase.{Phase}
use Rattle.session_model.specs.declared.phase.Phase.TheVariants.{Unregistered, Idle, Saving, Asked, Interacting, WantsTwo, SavingTwo, AskedTwo, InteractingTwo, Done, Owing, Dying}
use Rattle.session_model.specs.declared.events.SessionEvent.{SessionEvent}
use Rattle.session_model.specs.declared.events.SessionEvent.TheVariants.{Joined, Ready, Said, Left, Operator, Tick}
use Rattle.session_model.specs.Phases.{is_asked, is_saving, may_interact, asked_phase, talked_phase, saved_phase, second_phase, cancelled_phase, dying_phase, phase_given, ready_phase}
use Rattle.session_model.specs.Moves.{Move, Outside, Gave, Unset, Closed, History, Opened, ◌▷◌}
use Rattle.session_model.specs.Readings as of
use Rattle.session_model.proofs.Lists.{in-without, in-append, Once, once-push, once-without}

-- A step by which nobody begins to wait

abbrev pub NoneMore : Option Phase → Option Phase → Type 0
NoneMore p q = is_asked q ≡ true → is_asked p ≡ true

-- its save goes on: it may yet ask for the token or want the second phase
abbrev pub is_at_work : Option Phase → Bool
is_at_work (Some Saving) = true
is_at_work (Some Asked) = true
is_at_work (Some Interacting) = true
is_at_work (Some WantsTwo) = true
is_at_work (Some SavingTwo) = true
is_at_work (Some AskedTwo) = true
is_at_work (Some InteractingTwo) = true
is_at_work phase = false

pub saving-asked : (p : Option Phase) → is_saving p ≡ true → is_asked (asked_phase p) ≡ true
saving-asked (Some Saving) e = refl
saving-asked (Some SavingTwo) e = refl
saving-asked p e = absurd (grind arith)

pub cancelled-asked : (p : Option Phase) → is_asked (cancelled_phase p) ≡ false
cancelled-asked None = refl
cancelled-asked (Some Done) = refl
cancelled-asked (Some p) = refl

none-talked : (p : Option Phase) → NoneMore p (talked_phase p)
none-talked None e = e
none-talked (Some Asked) e = e
none-talked (Some Interacting) e = absurd (grind arith)
none-talked (Some InteractingTwo) e = absurd (grind arith)
none-talked (Some p) e = e

none-saved : (p : Option Phase) → NoneMore p (saved_phase p)
none-saved None e = e
none-saved (Some Saving) e = absurd (grind arith)
none-saved (Some p) e = e

none-second : (p : Option Phase) → NoneMore p (second_phase p)
none-second None e = e
none-second (Some Saving) e = absurd (grind arith)
none-second (Some p) e = e

none-cancelled : (p : Option Phase) → NoneMore p (cancelled_phase p)
none-cancelled None e = e
none-cancelled (Some Unregistered) e = e
none-cancelled (Some Idle) e = e
none-cancelled (Some Owing) e = e
none-cancelled (Some Dying) e = e
none-cancelled (Some p) e = absurd (grind arith)

none-dying : (p : Option Phase) → NoneMore p (dying_phase p)
none-dying None e = e
none-dying (Some Unregistered) e = e
none-dying (Some p) e = absurd (grind arith)

pub none-given : (m : XsmpMessage) (p : Option Phase) → NoneMore p (phase_given m p)
none-given (RegisterClientReply id) (Some Unregistered) e = absurd (grind arith)
none-given (SaveYourself kind shutdown style fast) (Some Idle) e = absurd (grind arith)
none-given Interact (Some Asked) e = refl
none-given Interact (Some AskedTwo) e = refl
none-given SaveYourselfPhase2 (Some WantsTwo) e = absurd (grind arith)
none-given SaveComplete (Some Done) e = absurd (grind arith)
none-given ShutdownCancelled p e = none-cancelled p e
none-given Die p e = none-dying p e
none-given m p e = e

none-ready : (p : Option Phase) → NoneMore p (ready_phase p)
none-ready None e = absurd (grind arith)
none-ready (Some p) e = e

pub none-at : (b : Bool) (p q : Option Phase) → NoneMore p q → NoneMore p (cond b q p)
none-at true p q k e = k e
none-at false p q k e = e

pub none-gone : (b : Bool) (p : Option Phase) → NoneMore p (cond b None p)
none-gone true p e = absurd (grind arith)
none-gone false p e = e

-- A request for the token

asked-still : (p : Option Phase) → is_saving p ≡ false → is_asked (asked_phase p) ≡ true → is_asked p ≡ true
asked-still None s e = e
asked-still (Some Saving) s e = absurd (grind arith)
asked-still (Some SavingTwo) s e = absurd (grind arith)
asked-still (Some p) s e = e

in-cond : (c : ℕ) (b : Bool) (xs ys : List ℕ) → is_in c (cond b xs ys) ≡ cond b (is_in c xs) (is_in c ys)
in-cond c true xs ys = refl
in-cond c false xs ys = refl

-- b: it is the one that asks; s: it saves; a: the dialog is allowed; i: it asked before
ask-case : (b s a i : Bool) (p : Option Phase) → (b ≡ true → s ≡ is_saving p) → (is_asked p ≡ true → i ≡ true) → is_asked (cond b (cond a (asked_phase p) p) p) ≡ true → cond (s && a) ((not b && i) || (b || false)) i ≡ true
ask-case true true true i p k f e = refl
ask-case true true false i p k f e = f e
ask-case true false true i p k f e = f (asked-still p (sym (k refl)) e)
ask-case true false false i p k f e = f e
ask-case false true true i p k f e = ap (λ (x : Bool). x || false) (f e)
ask-case false true false i p k f e = f e
ask-case false false a i p k f e = f e

in-asked : (c d : ℕ) (s a : Bool) (cs : List ℕ) → is_in c (cond (s && a) (without d cs ++ d ∷ []) cs) ≡ cond (s && a) ((not (eqb d c) && is_in c cs) || (eqb d c || false)) (is_in c cs)
in-asked c d s a cs =
    in-cond c (s && a) (without d cs ++ d ∷ []) cs
    ∙ ap (λ (x : Bool). cond (s && a) x (is_in c cs)) (in-append c (without d cs) (d ∷ []) ∙ ap (λ (x : Bool). x || (eqb d c || false)) (in-without c d cs))

abbrev HaveAsked : History → Type 0
HaveAsked h = (c : ℕ) → is_asked (of.phase_of c h) ≡ true → is_in c (of.askers h) ≡ true

saving-there : (c d : ℕ) (h : History) → eqb d c ≡ true → is_saving (of.phase_of d h) ≡ is_saving (of.phase_of c h)
saving-there c d h e = let k : d ≡ c = grind (arith, nat_tests) in ap (λ (x : ℕ). is_saving (of.phase_of x h)) k

asked-said : (d : ℕ) (m : XsmpMessage) (sequence : ℕ) (frame : List ℕ) (h : History) → HaveAsked h → HaveAsked (Outside (Said d m sequence frame) ▷ h)
asked-said d (InteractRequest dialog) sequence frame h k c e =
    in-asked c d (is_saving (of.phase_of d h)) (may_interact (of.wanted h) dialog) (of.askers h)
    ∙ ask-case (eqb d c) (is_saving (of.phase_of d h)) (may_interact (of.wanted h) dialog) (is_in c (of.askers h)) (of.phase_of c h) (saving-there c d h) (k c) e
asked-said d (InteractDone false) sequence frame h k c e = k c (none-at (eqb d c) (of.phase_of c h) (talked_phase (of.phase_of c h)) (none-talked (of.phase_of c h)) e)
asked-said d (InteractDone true) sequence frame h k c e = k c (none-at (eqb d c) (of.phase_of c h) (of.phase_of c h) (λ x. x) e)
asked-said d (SaveYourselfDone success) sequence frame h k c e = k c (none-at (eqb d c) (of.phase_of c h) (saved_phase (of.phase_of c h)) (none-saved (of.phase_of c h)) e)
asked-said d SaveYourselfPhase2Request sequence frame h k c e = k c (none-at (eqb d c) (of.phase_of c h) (second_phase (of.phase_of c h)) (none-second (of.phase_of c h)) e)
asked-said d m sequence frame h k c e = k c (none-at (eqb d c) (of.phase_of c h) (of.phase_of c h) (λ x. x) e)

asked-heard : (event : SessionEvent) (h : History) → HaveAsked h → HaveAsked (Outside event ▷ h)
asked-heard (Joined d) h k c e = k c e
asked-heard (Ready d) h k c e = k c (none-at (eqb d c) (of.phase_of c h) (ready_phase (of.phase_of c h)) (none-ready (of.phase_of c h)) e)
asked-heard (Said d m sequence frame) h k c e = asked-said d m sequence frame h k c e
asked-heard (Left d) h k c e = k c (none-gone (eqb d c) (of.phase_of c h) e)
asked-heard (Operator order) h k c e = k c e
asked-heard (Tick milliseconds) h k c e = k c e

asked-step : (m : Move) (h : History) → HaveAsked h → HaveAsked (m ▷ h)
asked-step (Outside event) h k c e = asked-heard event h k c e
asked-step (Gave d m) h k c e = k c (none-at (eqb d c) (of.phase_of c h) (phase_given m (of.phase_of c h)) (none-given m (of.phase_of c h)) e)
asked-step (Unset d) h k c e = k c (none-gone (eqb d c) (of.phase_of c h) e)
asked-step (Closed d) h k c e = k c (none-gone (eqb d c) (of.phase_of c h) e)
asked-step m h k c e = k c e

have-asked : (h : History) → HaveAsked h
have-asked (Opened opening) c e = absurd (grind arith)
have-asked (m ▷ h) c e = asked-step m h (have-asked h) c e

and-false : (b : Bool) → false ≡ (b && false)
and-false true = refl
and-false false = refl

filter-case : (t b i u f : Bool) → (b ≡ true → t ≡ u) → f ≡ (u && i) → cond t (b || f) f ≡ (u && (b || i))
filter-case true true i true f e k = refl
filter-case true true i false f e k = e refl
filter-case true false i u f e k = k
filter-case false true i true f e k = absurd (grind (arith, e refl))
filter-case false true i false f e k = k
filter-case false false i u f e k = k

test-there : (test : ℕ → Bool) (c d : ℕ) → eqb d c ≡ true → test d ≡ test c
test-there test c d e = let k : d ≡ c = grind (arith, nat_tests) in ap (λ (x : ℕ). test x) k

pub in-filter : (test : ℕ → Bool) (c : ℕ) (cs : List ℕ) → is_in c (filter test cs) ≡ (test c && is_in c cs)
in-filter test c [] = and-false (test c)
in-filter test c (d ∷ cs) =
    in-cond c (test d) (d ∷ filter test cs) (filter test cs)
    ∙ filter-case (test d) (eqb d c) (is_in c cs) (test c) (is_in c (filter test cs)) (test-there test c d) (in-filter test c cs)

waits-case : (a i : Bool) → (a ≡ true → i ≡ true) → (a && i) ≡ a
waits-case true i k = k refl
waits-case false i k = refl

pub phases-tell : (h : History) (c : ℕ) → is_in c (of.waiting h) ≡ is_asked (of.phase_of c h)
phases-tell h c = in-filter (λ d. is_asked (of.phase_of d h)) c (of.askers h) ∙ waits-case (is_asked (of.phase_of c h)) (is_in c (of.askers h)) (have-asked h c)

-- Nobody waits twice

in-own : (d : ℕ) (cs : List ℕ) → is_in d (without d cs) ≡ false
in-own d cs = in-without d d cs ∙ grind (arith, nat_tests)

once-cond : (b : Bool) (xs ys : List ℕ) → Once xs → Once ys → Once (cond b xs ys)
once-cond true xs ys p q = p
once-cond false xs ys p q = q

once-said : (d : ℕ) (m : XsmpMessage) (sequence : ℕ) (frame : List ℕ) (h : History) → Once (of.askers h) → Once (of.askers (Outside (Said d m sequence frame) ▷ h))
once-said d (InteractRequest dialog) sequence frame h o =
    once-cond (is_saving (of.phase_of d h) && may_interact (of.wanted h) dialog) (without d (of.askers h) ++ d ∷ []) (of.askers h) (once-push d (without d (of.askers h)) (once-without d (of.askers h) o) (in-own d (of.askers h))) o
once-said d m sequence frame h o = o

once-heard : (event : SessionEvent) (h : History) → Once (of.askers h) → Once (of.askers (Outside event ▷ h))
once-heard (Said d m sequence frame) h o = once-said d m sequence frame h o
once-heard event h o = o

once-step : (m : Move) (h : History) → Once (of.askers h) → Once (of.askers (m ▷ h))
once-step (Outside event) h o = once-heard event h o
once-step m h o = o

once-askers : (h : History) → Once (of.askers h)
once-askers (Opened opening) = tt
once-askers (m ▷ h) = once-step m h (once-askers h)

in-fewer : (x i : Bool) → i ≡ false → (x && i) ≡ false
in-fewer true i e = e
in-fewer false i e = refl

once-kept : (b : Bool) (test : ℕ → Bool) (d : ℕ) (cs : List ℕ) → is_in d cs ≡ false → Once (filter test cs) → Once (cond b (d ∷ filter test cs) (filter test cs))
once-kept true test d cs e o = (in-filter test d cs ∙ in-fewer (test d) (is_in d cs) e, o)
once-kept false test d cs e o = o

once-filter : (test : ℕ → Bool) (cs : List ℕ) → Once cs → Once (filter test cs)
once-filter test [] o = tt
once-filter test (d ∷ cs) o = once-kept (test d) test d cs o.0 (once-filter test cs o.1)

pub once-waiting : (h : History) → Once (of.waiting h)
once-waiting h = once-filter (λ d. is_asked (of.phase_of d h)) (of.askers h) (once-askers h)
