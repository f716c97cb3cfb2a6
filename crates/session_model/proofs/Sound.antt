-- What holds at every move of a run.
use Rattle.std.proofs.Common.{◌≡◌, refl, ℕ, Bool, true, false, cond, not, ◌&&◌, ◌||◌, List, [], ◌∷◌, ◌++◌, map, filter, drop, eqb, sym, ap, subst, ◌∙◌, arith}
use Rattle.std.specs.Prelude.{Option, Some, None, is_some}
use Rattle.std.specs.List.{list_any}
use Rattle.std.proofs.lemmas.Bool.Decides.{nat_tests}
use Rattle.sm_world.specs.declared.events.Order.{Order}
use Rattle.sm_world.specs.declared.events.Order.TheVariants.{Checkpoint, Shutdown}
use Rattle.xsmp_messages.specs.declared.message.XsmpMessage.{XsmpMessage}
use Rattle.xsmp_messages.specs.declared.message.XsmpMessage.TheVariants.{RegisterClientReply, SaveYourselfRequest, Interact, Die}
use Rattle.interact_queue.specs.Queue.{is_in, without}
use Rattle.session_model.specs.declared.phase.Phase.{Phase}
use Rattle.session_model.specs.declared.phase.Phase.TheVariants.{Unregistered}
use Rattle.ice_values.specs.declared.saves.SaveKind.{SaveKind}
use Rattle.ice_values.specs.declared.saves.SaveStyle.{SaveStyle}
use Rattle.session_model.specs.declared.waits.Wait.{Wait}
use Rattle.session_model.specs.declared.events.SessionEvent.{SessionEvent}
use Rattle.session_model.specs.declared.events.SessionEvent.TheVariants.{Joined, Ready, Said, Left, Operator, Tick}
use Rattle.session_model.specs.Phases.{is_registered, is_interacting, is_dying, is_bound, is_shutdown, may_interact, phase_said, phase_given, registered_phase, ready_phase, held_phase}
use Rattle.session_model.specs.Moves.{Move, Outside, Gave, Unset, Closed, Began, Over, Cancelled, Agreed, History, ◌▷◌, onto}
use Rattle.session_model.specs.Waits.{first_save, checkpoint_wait, shutdown_wait, lone_wait, global_wait, is_only, is_sender, is_busy, with_request, waits_said, waits_ordered, disowned, waits_left}
use Rattle.session_model.specs.Readings as of
use Rattle.session_model.proofs.Lists.{in-without, in-append, Once, once-push, once-without}
use Rattle.session_model.proofs.PhaseSteps.{quiet-said, quiet-ready, same-token, given-phase}

-- what a move asks of the history before it
abbrev pub Fits : Move → History → Type 0
Fits (Gave c (RegisterClientReply id)) h = of.phase_of c h ≡ Some Unregistered
Fits (Gave c Interact) h = (d : ℕ) → is_interacting (of.phase_of d h) ≡ false
Fits (Gave c Die) h = of.is_ending h ≡ true
Fits (Unset c) h = of.phase_of c h ≡ Some Unregistered
Fits m h = Unit {0}

abbrev pub AllFit : List Move → History → Type 0
AllFit [] h = Unit {0}
AllFit (m ∷ moves) h = Fits m h × AllFit moves (m ▷ h)

-- A test of phases goes on through a step of one connection.

pub at-one : (test : Option Phase → Bool) (b : Bool) (p q : Option Phase) → test q ≡ test p → test (cond b q p) ≡ test p
at-one test true p q e = e
at-one test false p q e = refl

-- Who is registered

abbrev pub AreRegistered : History → Type 0
AreRegistered h = (c : ℕ) → is_in c (of.registered h) ≡ is_registered (of.phase_of c h)

or-false : (b : Bool) → (b || false) ≡ b
or-false true = refl
or-false false = refl

pub or-true : (b : Bool) → (b || true) ≡ true
or-true true = refl
or-true false = refl

joined-by : (b i : Bool) (p : Option Phase) → (b ≡ true → p ≡ Some Unregistered) → i ≡ is_registered p → (i || (b || false)) ≡ is_registered (cond b (registered_phase p) p)
joined-by true i p e r = or-true i ∙ sym (ap (λ (q : Option Phase). is_registered (registered_phase q)) (e refl))
joined-by false i p e r = or-false i ∙ r

left-by : (b i : Bool) (p : Option Phase) → i ≡ is_registered p → (not b && i) ≡ is_registered (cond b None p)
left-by true i p r = refl
left-by false i p r = r

unset-by : (b i : Bool) (p : Option Phase) → (b ≡ true → p ≡ Some Unregistered) → i ≡ is_registered p → i ≡ is_registered (cond b None p)
unset-by true i p e r = r ∙ ap (λ (q : Option Phase). is_registered q) (e refl)
unset-by false i p e r = r

-- where c is this connection, what is known of the one is known of the other
pub phase-there : (c d : ℕ) (h : History) (p : Option Phase) → of.phase_of d h ≡ p → eqb d c ≡ true → of.phase_of c h ≡ p
phase-there c d h p f e = let k : d ≡ c = grind (arith, nat_tests) in subst (λ (x : ℕ). of.phase_of x h ≡ p) k f

registered-heard : (event : SessionEvent) (h : History) → AreRegistered h → AreRegistered (Outside event ▷ h)
registered-heard (Joined d) h r c = r c
registered-heard (Ready d) h r c = r c ∙ sym (at-one (λ p. is_registered p) (eqb d c) (of.phase_of c h) (ready_phase (of.phase_of c h)) (quiet-ready (of.phase_of c h)).registered)
registered-heard (Said d m sequence frame) h r c =
    r c ∙ sym (at-one (λ p. is_registered p) (eqb d c) (of.phase_of c h) (phase_said (λ dialog. may_interact (of.wanted h) dialog) m (of.phase_of c h)) (quiet-said (λ dialog. may_interact (of.wanted h) dialog) m (of.phase_of c h)).registered)
registered-heard (Left d) h r c = in-without c d (of.registered h) ∙ left-by (eqb d c) (is_in c (of.registered h)) (of.phase_of c h) (r c)
registered-heard (Operator order) h r c = r c
registered-heard (Tick milliseconds) h r c = r c

given-registered : (d : ℕ) (m : XsmpMessage) (h : History) (c : ℕ) → (is_registered (phase_given m (of.phase_of c h)) ≡ is_registered (of.phase_of c h)) → AreRegistered h → is_in c (of.registered h) ≡ is_registered (cond (eqb d c) (phase_given m (of.phase_of c h)) (of.phase_of c h))
given-registered d m h c e r = r c ∙ sym (at-one (λ p. is_registered p) (eqb d c) (of.phase_of c h) (phase_given m (of.phase_of c h)) e)

registered-given : (d : ℕ) (m : XsmpMessage) (h : History) → Fits (Gave d m) h → AreRegistered h → AreRegistered (Gave d m ▷ h)
registered-given d (RegisterClientReply id) h f r c = in-append c (of.registered h) (d ∷ []) ∙ joined-by (eqb d c) (is_in c (of.registered h)) (of.phase_of c h) (phase-there c d h (Some Unregistered) f) (r c)
registered-given d m h f r c = given-registered d m h c ((given-phase m (of.phase_of c h)).registered refl) r

pub registered-step : (m : Move) (h : History) → Fits m h → AreRegistered h → AreRegistered (m ▷ h)
registered-step (Outside event) h f r c = registered-heard event h r c
registered-step (Gave d m) h f r c = registered-given d m h f r c
registered-step (Unset d) h f r c = unset-by (eqb d c) (is_in c (of.registered h)) (of.phase_of c h) (phase-there c d h (Some Unregistered) f) (r c)
registered-step (Closed d) h f r c = in-without c d (of.registered h) ∙ left-by (eqb d c) (is_in c (of.registered h)) (of.phase_of c h) (r c)
registered-step m h f r c = r c

-- Nobody is registered twice

free-place : (d : ℕ) (h : History) → of.phase_of d h ≡ Some Unregistered → AreRegistered h → is_in d (of.registered h) ≡ false
free-place d h f r = r d ∙ ap (λ (q : Option Phase). is_registered q) f

once-heard : (event : SessionEvent) (h : History) → Once (of.registered h) → Once (of.registered (Outside event ▷ h))
once-heard (Left d) h o = once-without d (of.registered h) o
once-heard event h o = o

once-given : (d : ℕ) (m : XsmpMessage) (h : History) → Fits (Gave d m) h → AreRegistered h → Once (of.registered h) → Once (of.registered (Gave d m ▷ h))
once-given d (RegisterClientReply id) h f r o = once-push d (of.registered h) o (free-place d h f r)
once-given d m h f r o = o

pub once-step : (m : Move) (h : History) → Fits m h → AreRegistered h → Once (of.registered h) → Once (of.registered (m ▷ h))
once-step (Outside event) h f r o = once-heard event h o
once-step (Gave d m) h f r o = once-given d m h f r o
once-step (Closed d) h f r o = once-without d (of.registered h) o
once-step m h f r o = o

-- One has the token at most

abbrev pub HasOne : History → Type 0
HasOne h = (c d : ℕ) → is_interacting (of.phase_of c h) ≡ true → is_interacting (of.phase_of d h) ≡ true → c ≡ d

-- a step that gives the token to nobody
abbrev pub KeepsTokens : Move → History → Type 0
KeepsTokens m h = (c : ℕ) → (is_interacting (of.phase_of c (m ▷ h)) && not (is_interacting (of.phase_of c h))) ≡ false

had-before : (b a : Bool) → (b && not a) ≡ false → b ≡ true → a ≡ true
had-before b true k e = refl
had-before true false k e = sym k
had-before false false k e = e

one-kept : (m : Move) (h : History) → KeepsTokens m h → HasOne h → HasOne (m ▷ h)
one-kept m h k o c d e f = o c d (had-before (is_interacting (of.phase_of c (m ▷ h))) (is_interacting (of.phase_of c h)) (k c) e) (had-before (is_interacting (of.phase_of d (m ▷ h))) (is_interacting (of.phase_of d h)) (k d) f)

tokens-at : (b : Bool) (p q : Option Phase) → (is_interacting q && not (is_interacting p)) ≡ false → (is_interacting (cond b q p) && not (is_interacting p)) ≡ false
tokens-at true p q e = e
tokens-at false p q e = same-token (is_interacting p)

tokens-heard : (event : SessionEvent) (h : History) → KeepsTokens (Outside event) h
tokens-heard (Joined d) h c = same-token (is_interacting (of.phase_of c h))
tokens-heard (Ready d) h c = tokens-at (eqb d c) (of.phase_of c h) (ready_phase (of.phase_of c h)) (quiet-ready (of.phase_of c h)).token
tokens-heard (Said d m sequence frame) h c =
    tokens-at (eqb d c) (of.phase_of c h) (phase_said (λ dialog. may_interact (of.wanted h) dialog) m (of.phase_of c h)) (quiet-said (λ dialog. may_interact (of.wanted h) dialog) m (of.phase_of c h)).token
tokens-heard (Left d) h c = tokens-at (eqb d c) (of.phase_of c h) None refl
tokens-heard (Operator order) h c = same-token (is_interacting (of.phase_of c h))
tokens-heard (Tick milliseconds) h c = same-token (is_interacting (of.phase_of c h))

tokens-given : (d : ℕ) (m : XsmpMessage) (h : History) → ((p : Option Phase) → (is_interacting (phase_given m p) && not (is_interacting p)) ≡ false) → KeepsTokens (Gave d m) h
tokens-given d m h k c = tokens-at (eqb d c) (of.phase_of c h) (phase_given m (of.phase_of c h)) (k (of.phase_of c h))

got-token : (b : Bool) (p q : Option Phase) → is_interacting p ≡ false → is_interacting (cond b q p) ≡ true → b ≡ true
got-token true p q n e = refl
got-token false p q n e = sym n ∙ e

one-given-token : (d : ℕ) (h : History) → Fits (Gave d Interact) h → HasOne (Gave d Interact ▷ h)
one-given-token d h f c e i j =
    let k : eqb d c ≡ true = got-token (eqb d c) (of.phase_of c h) (held_phase (of.phase_of c h)) (f c) i in
    let l : eqb d e ≡ true = got-token (eqb d e) (of.phase_of e h) (held_phase (of.phase_of e h)) (f e) j in
    grind (arith, nat_tests)

one-given : (d : ℕ) (m : XsmpMessage) (h : History) → Fits (Gave d m) h → HasOne h → HasOne (Gave d m ▷ h)
one-given d Interact h f o = one-given-token d h f
one-given d m h f o = one-kept (Gave d m) h (tokens-given d m h (λ p. (given-phase m p).token refl)) o

pub one-step : (m : Move) (h : History) → Fits m h → HasOne h → HasOne (m ▷ h)
one-step (Outside event) h f o = one-kept (Outside event) h (tokens-heard event h) o
one-step (Gave d m) h f o = one-given d m h f o
one-step (Unset d) h f o = one-kept (Unset d) h (λ c. tokens-at (eqb d c) (of.phase_of c h) None refl) o
one-step (Closed d) h f o = one-kept (Closed d) h (λ c. tokens-at (eqb d c) (of.phase_of c h) None refl) o
one-step m h f o = o

-- Who was told to die was told so because a shutdown was agreed

abbrev pub DieAtEnd : History → Type 0
DieAtEnd h = (c : ℕ) → is_dying (of.phase_of c h) ≡ true → of.is_ending h ≡ true

pub ends-later : (m : Move) (h : History) → of.is_ending h ≡ true → of.is_ending (m ▷ h) ≡ true
ends-later Agreed h e = ap (λ (b : Bool). b || is_shutdown (of.wanted h)) e
ends-later m h e = e

dies-before : (b : Bool) (p q : Option Phase) → is_dying q ≡ is_dying p → is_dying (cond b q p) ≡ true → is_dying p ≡ true
dies-before true p q k e = sym k ∙ e
dies-before false p q k e = e

dies-left : (b : Bool) (p : Option Phase) → is_dying (cond b None p) ≡ true → is_dying p ≡ true
dies-left true p e = absurd (grind arith)
dies-left false p e = e

die-heard : (event : SessionEvent) (h : History) → DieAtEnd h → DieAtEnd (Outside event ▷ h)
die-heard (Joined d) h k c e = k c e
die-heard (Ready d) h k c e = k c (dies-before (eqb d c) (of.phase_of c h) (ready_phase (of.phase_of c h)) (quiet-ready (of.phase_of c h)).dying e)
die-heard (Said d m sequence frame) h k c e =
    k c (dies-before (eqb d c) (of.phase_of c h) (phase_said (λ dialog. may_interact (of.wanted h) dialog) m (of.phase_of c h)) (quiet-said (λ dialog. may_interact (of.wanted h) dialog) m (of.phase_of c h)).dying e)
die-heard (Left d) h k c e = k c (dies-left (eqb d c) (of.phase_of c h) e)
die-heard (Operator order) h k c e = k c e
die-heard (Tick milliseconds) h k c e = k c e

die-given : (d : ℕ) (m : XsmpMessage) (h : History) → Fits (Gave d m) h → DieAtEnd h → DieAtEnd (Gave d m ▷ h)
die-given d Die h f k c e = f
die-given d m h f k c e = k c (dies-before (eqb d c) (of.phase_of c h) (phase_given m (of.phase_of c h)) ((given-phase m (of.phase_of c h)).dying refl) e)

pub die-step : (m : Move) (h : History) → Fits m h → DieAtEnd h → DieAtEnd (m ▷ h)
die-step (Outside event) h f k c e = die-heard event h k c e
die-step (Gave d m) h f k c e = die-given d m h f k c e
die-step (Unset d) h f k c e = k c (dies-left (eqb d c) (of.phase_of c h) e)
die-step (Closed d) h f k c e = k c (dies-left (eqb d c) (of.phase_of c h) e)
die-step Agreed h f k c e = ends-later Agreed h (k c e)
die-step m h f k c e = k c e

-- Where no round runs there are no members

abbrev pub IdleIsEmpty : History → Type 0
IdleIsEmpty h = is_some (of.running h) ≡ false → of.members h ≡ []

without-nobody : (d : ℕ) (cs : List ℕ) → cs ≡ [] → without d cs ≡ []
without-nobody d cs e = ap (λ (xs : List ℕ). without d xs) e

idle-heard : (event : SessionEvent) (h : History) → IdleIsEmpty h → IdleIsEmpty (Outside event ▷ h)
idle-heard (Left d) h k e = without-nobody d (of.members h) (k e)
idle-heard event h k e = k e

pub idle-step : (m : Move) (h : History) → IdleIsEmpty h → IdleIsEmpty (m ▷ h)
idle-step (Outside event) h k e = idle-heard event h k e
idle-step (Closed d) h k e = without-nobody d (of.members h) (k e)
idle-step (Began conns wanted) h k e = absurd (grind arith)
idle-step Over h k e = refl
idle-step Agreed h k e = refl
idle-step Cancelled h k e = refl
idle-step m h k e = k e

-- Rounds of one wait for registered clients alone

-- some round is for this one client
abbrev pub is_wanted_alone : ℕ → List Wait → Bool
is_wanted_alone c waits = list_any (λ wait. is_only c wait.wanted.only) waits

abbrev pub WaitForRegistered : History → Type 0
WaitForRegistered h = (c : ℕ) → is_wanted_alone c (of.waits h) ≡ true → is_registered (of.phase_of c h) ≡ true

alone-append : (c : ℕ) (ws vs : List Wait) → is_wanted_alone c (ws ++ vs) ≡ (is_wanted_alone c ws || is_wanted_alone c vs)
alone-append c [] vs = refl
alone-append c (w ∷ ws) vs = grind (arith, nat_tests, alone-append c ws vs)

or-second : (x y z : Bool) → (x || z) ≡ true → (x || (y || z)) ≡ true
or-second true y z e = refl
or-second false true z e = refl
or-second false false z e = e

or-later : (x y z v : Bool) → (v ≡ true → (x || z) ≡ true) → (y || v) ≡ true → (x || (y || z)) ≡ true
or-later true y z v k e = refl
or-later false true z v k e = refl
or-later false false z v k e = k e

pub or-either : {P : Type 0} (x y : Bool) → (x ≡ true → P) → (y ≡ true → P) → (x || y) ≡ true → P
or-either true y f g e = f refl
or-either false y f g e = g e

-- one of two lists stands, by a test
alone-cond : {P : Type 0} (b : Bool) (d : ℕ) (vs ws : List Wait) → (b ≡ true → is_wanted_alone d vs ≡ true → P) → (is_wanted_alone d ws ≡ true → P) → is_wanted_alone d (cond b vs ws) ≡ true → P
alone-cond true d vs ws f g e = f refl e
alone-cond false d vs ws f g e = g e

request-at : (b : Bool) (d : ℕ) (r w : Wait) (ws vs : List Wait) → (is_wanted_alone d vs ≡ true → (is_only d r.wanted.only || is_wanted_alone d ws) ≡ true) → is_wanted_alone d (cond b (r ∷ ws) (w ∷ vs)) ≡ true
    → (is_only d r.wanted.only || (is_only d w.wanted.only || is_wanted_alone d ws)) ≡ true
request-at true d r w ws vs k e = or-second (is_only d r.wanted.only) (is_only d w.wanted.only) (is_wanted_alone d ws) e
request-at false d r w ws vs k e = or-later (is_only d r.wanted.only) (is_only d w.wanted.only) (is_wanted_alone d ws) (is_wanted_alone d vs) k e

-- a request brings nobody new but its own
alone-request : (c d : ℕ) (r : Wait) (ws : List Wait) → is_wanted_alone d (with_request c r ws) ≡ true → (is_only d r.wanted.only || is_wanted_alone d ws) ≡ true
alone-request c d r [] e = e
alone-request c d r (w ∷ ws) e = request-at (is_sender c w.owner) d r w ws (with_request c r ws) (alone-request c d r ws) e

bound-registered : (p : Option Phase) → is_bound p ≡ true → is_registered p ≡ true
bound-registered None e = e
bound-registered (Some Unregistered) e = e
bound-registered (Some p) e = refl

-- P of d where it is said of c, and they are one
only-there : (c d : ℕ) (phase : ℕ → Option Phase) → is_registered (phase c) ≡ true → is_only d (Some c) ≡ true → is_registered (phase d) ≡ true
only-there c d phase r e = let k : c ≡ d = grind (arith, nat_tests) in subst (λ (x : ℕ). is_registered (phase x) ≡ true) k r

request-alone : (c d : ℕ) (r : Wait) (phase : ℕ → Option Phase) (ws : List Wait) → (is_only d r.wanted.only ≡ true → is_registered (phase d) ≡ true) → (is_wanted_alone d ws ≡ true → is_registered (phase d) ≡ true)
    → is_wanted_alone d (with_request c r ws) ≡ true → is_registered (phase d) ≡ true
request-alone c d r phase ws f g e = or-either (is_only d r.wanted.only) (is_wanted_alone d ws) f g (alone-request c d r ws e)

lone-alone : (c d : ℕ) (kind : SaveKind) (style : SaveStyle) (fast : Bool) (phase : ℕ → Option Phase) (ws : List Wait) → (is_wanted_alone d ws ≡ true → is_registered (phase d) ≡ true)
    → is_wanted_alone d (cond (is_bound (phase c)) (with_request c (lone_wait c kind style fast) ws) ws) ≡ true → is_registered (phase d) ≡ true
lone-alone c d kind style fast phase ws k e =
    alone-cond (is_bound (phase c)) d (with_request c (lone_wait c kind style fast) ws) ws
    (λ b. request-alone c d (lone_wait c kind style fast) phase ws (only-there c d phase (bound-registered (phase c) b)) k) k e

global-alone : (c d : ℕ) (kind : SaveKind) (shutdown : Bool) (style : SaveStyle) (fast : Bool) (phase : ℕ → Option Phase) (ws : List Wait) → (is_wanted_alone d ws ≡ true → is_registered (phase d) ≡ true)
    → is_wanted_alone d (cond (is_bound (phase c)) (with_request c (global_wait c kind shutdown style fast) ws) ws) ≡ true → is_registered (phase d) ≡ true
global-alone c d kind shutdown style fast phase ws k e =
    alone-cond (is_bound (phase c)) d (with_request c (global_wait c kind shutdown style fast) ws) ws
    (λ b. request-alone c d (global_wait c kind shutdown style fast) phase ws (λ n. absurd (grind arith)) k) k e

said-alone : (c d : ℕ) (m : XsmpMessage) (phase : ℕ → Option Phase) (ws : List Wait) → (is_wanted_alone d ws ≡ true → is_registered (phase d) ≡ true)
    → is_wanted_alone d (waits_said c m phase ws) ≡ true → is_registered (phase d) ≡ true
said-alone c d (SaveYourselfRequest kind false style fast false) phase ws k e = lone-alone c d kind style fast phase ws k e
said-alone c d (SaveYourselfRequest kind true style fast false) phase ws k e = k e
said-alone c d (SaveYourselfRequest kind shutdown style fast true) phase ws k e = global-alone c d kind shutdown style fast phase ws k e
said-alone c d m phase ws k e = k e

more-alone : {P : Type 0} (b : Bool) (d : ℕ) (ws : List Wait) (w : Wait) → is_only d w.wanted.only ≡ false → (is_wanted_alone d ws ≡ true → P) → is_wanted_alone d (cond b ws (ws ++ w ∷ [])) ≡ true → P
more-alone true d ws w n k e = k e
more-alone false d ws w n k e = k (sym (or-false (is_wanted_alone d ws)) ∙ sym (ap (λ (x : Bool). is_wanted_alone d ws || (x || false)) n) ∙ sym (alone-append d ws (w ∷ [])) ∙ e)

ordered-alone : {P : Type 0} (d : ℕ) (order : Order) (ending : Bool) (ws : List Wait) → (is_wanted_alone d ws ≡ true → P) → is_wanted_alone d (waits_ordered order ending ws) ≡ true → P
ordered-alone d Checkpoint ending ws k e = more-alone (is_busy ending ws) d ws checkpoint_wait refl k e
ordered-alone d Shutdown ending ws k e = more-alone (is_busy ending ws) d ws shutdown_wait refl k e
ordered-alone d order ending ws k e = k e

pub or-after : (x y z : Bool) → (y ≡ true → z ≡ true) → (x || y) ≡ true → (x || z) ≡ true
or-after true y z k e = refl
or-after false y z k e = k e

or-none : (x y : Bool) → x ≡ false → y ≡ false → (x || y) ≡ false
or-none true y e f = e
or-none false y e f = f

left-at : (b : Bool) (c d : ℕ) (w : Wait) (vs ws : List Wait) → (is_wanted_alone d (map (disowned c) vs) ≡ true → is_wanted_alone d ws ≡ true) → is_wanted_alone d (map (disowned c) (cond b (w ∷ vs) vs)) ≡ true
    → (is_only d w.wanted.only || is_wanted_alone d ws) ≡ true
left-at true c d w vs ws k e = or-after (is_only d w.wanted.only) (is_wanted_alone d (map (disowned c) vs)) (is_wanted_alone d ws) k e
left-at false c d w vs ws k e = ap (λ (x : Bool). is_only d w.wanted.only || x) (k e) ∙ or-true (is_only d w.wanted.only)

left-alone : (c d : ℕ) (ws : List Wait) → is_wanted_alone d (waits_left c ws) ≡ true → is_wanted_alone d ws ≡ true
left-alone c d [] e = e
left-alone c d (w ∷ ws) e = left-at (not (is_only c w.wanted.only)) c d w (filter (λ wait. not (is_only c wait.wanted.only)) ws) ws (left-alone c d ws) e

gone-at : (x : Bool) (c : ℕ) (w : Wait) (vs : List Wait) → is_only c w.wanted.only ≡ x → is_wanted_alone c (map (disowned c) vs) ≡ false → is_wanted_alone c (map (disowned c) (cond (not x) (w ∷ vs) vs)) ≡ false
gone-at true c w vs e k = k
gone-at false c w vs e k = or-none (is_only c w.wanted.only) (is_wanted_alone c (map (disowned c) vs)) e k

left-gone : (c : ℕ) (ws : List Wait) → is_wanted_alone c (waits_left c ws) ≡ false
left-gone c [] = refl
left-gone c (w ∷ ws) = gone-at (is_only c w.wanted.only) c w (filter (λ wait. not (is_only c wait.wanted.only)) ws) refl (left-gone c ws)

dropped-alone : (d : ℕ) (ws : List Wait) → is_wanted_alone d (drop 1 ws) ≡ true → is_wanted_alone d ws ≡ true
dropped-alone d [] e = e
dropped-alone d (w ∷ ws) e = ap (λ (x : Bool). is_only d w.wanted.only || x) e ∙ or-true (is_only d w.wanted.only)

emptied-alone : (b : Bool) (d : ℕ) (ws : List Wait) → is_wanted_alone d (cond b [] ws) ≡ true → is_wanted_alone d ws ≡ true
emptied-alone true d ws e = absurd (grind arith)
emptied-alone false d ws e = e

-- c is gone, so no round waits for it alone
gone-phase : (b : Bool) (p : Option Phase) → (b ≡ true → ⊥) → is_registered p ≡ true → is_registered (cond b None p) ≡ true
gone-phase true p n r = absurd (n refl)
gone-phase false p n r = r

not-left : (c d : ℕ) (ws : List Wait) → is_wanted_alone d (waits_left c ws) ≡ true → eqb c d ≡ true → ⊥
not-left c d ws e f = let k : c ≡ d = grind (arith, nat_tests) in let g : is_wanted_alone d (waits_left d ws) ≡ false = left-gone d ws in
    let i : is_wanted_alone d (waits_left d ws) ≡ true = subst (λ (x : ℕ). is_wanted_alone d (waits_left x ws) ≡ true) k e in
    absurd (grind arith)

wait-left : (c d : ℕ) (h : History) → WaitForRegistered h → is_wanted_alone d (waits_left c (of.waits h)) ≡ true → is_registered (cond (eqb c d) None (of.phase_of d h)) ≡ true
wait-left c d h k e = gone-phase (eqb c d) (of.phase_of d h) (not-left c d (of.waits h) e) (k d (left-alone c d (of.waits h) e))

wait-heard : (event : SessionEvent) (h : History) → WaitForRegistered h → WaitForRegistered (Outside event ▷ h)
wait-heard (Joined c) h k d e = k d e
wait-heard (Ready c) h k d e = at-one (λ p. is_registered p) (eqb c d) (of.phase_of d h) (ready_phase (of.phase_of d h)) (quiet-ready (of.phase_of d h)).registered ∙ k d e
wait-heard (Said c m sequence frame) h k d e =
    at-one (λ p. is_registered p) (eqb c d) (of.phase_of d h) (phase_said (λ dialog. may_interact (of.wanted h) dialog) m (of.phase_of d h)) (quiet-said (λ dialog. may_interact (of.wanted h) dialog) m (of.phase_of d h)).registered
    ∙ said-alone c d m (λ x. of.phase_of x h) (of.waits h) (k d) e
wait-heard (Left c) h k d e = wait-left c d h k e
wait-heard (Operator order) h k d e = ordered-alone d order (of.is_ending h) (of.waits h) (k d) e
wait-heard (Tick milliseconds) h k d e = k d e

reply-phase : (b : Bool) (p : Option Phase) → (b ≡ true → p ≡ Some Unregistered) → (b ≡ false → is_registered p ≡ true) → is_registered (cond b (registered_phase p) p) ≡ true
reply-phase true p e f = ap (λ (q : Option Phase). is_registered (registered_phase q)) (e refl)
reply-phase false p e f = f refl

reply-alone : (anew : Bool) (c d : ℕ) (ws : List Wait) → eqb c d ≡ false → is_wanted_alone d (cond anew (ws ++ first_save c ∷ []) ws) ≡ true → is_wanted_alone d ws ≡ true
reply-alone true c d ws n e = more-alone false d ws (first_save c) n (λ x. x) e
reply-alone false c d ws n e = e

wait-given : (c : ℕ) (m : XsmpMessage) (h : History) → Fits (Gave c m) h → WaitForRegistered h → WaitForRegistered (Gave c m ▷ h)
wait-given c (RegisterClientReply id) h f k d e =
    reply-phase (eqb c d) (of.phase_of d h) (phase-there d c h (Some Unregistered) f) (λ n. k d (reply-alone (of.asks_anew c h) c d (of.waits h) n e))
wait-given c m h f k d e = at-one (λ p. is_registered p) (eqb c d) (of.phase_of d h) (phase_given m (of.phase_of d h)) ((given-phase m (of.phase_of d h)).registered refl) ∙ k d e

unset-phase : (b : Bool) (p : Option Phase) → (b ≡ true → p ≡ Some Unregistered) → is_registered p ≡ true → is_registered (cond b None p) ≡ true
unset-phase true p e r = sym (ap (λ (q : Option Phase). is_registered q) (e refl)) ∙ r
unset-phase false p e r = r

pub wait-step : (m : Move) (h : History) → Fits m h → WaitForRegistered h → WaitForRegistered (m ▷ h)
wait-step (Outside event) h f k d e = wait-heard event h k d e
wait-step (Gave c m) h f k d e = wait-given c m h f k d e
wait-step (Unset c) h f k d e = unset-phase (eqb c d) (of.phase_of d h) (phase-there d c h (Some Unregistered) f) (k d e)
wait-step (Closed c) h f k d e = wait-left c d h k e
wait-step (Began conns wanted) h f k d e = k d (dropped-alone d (of.waits h) e)
wait-step Agreed h f k d e = k d (emptied-alone (is_shutdown (of.wanted h)) d (of.waits h) e)
wait-step m h f k d e = k d e

-- All of it

pub record Sound (h : History) : Type 0 where
  pub registered_are : AreRegistered h
  pub once : Once (of.registered h)
  pub one_holder : HasOne h
  pub die_at_end : DieAtEnd h
  pub idle_is_empty : IdleIsEmpty h
  pub wait_for_registered : WaitForRegistered h

pub sound-step : (m : Move) (h : History) → Fits m h → Sound h → Sound (m ▷ h)
sound-step m h f s = record {
  registered_are = registered-step m h f s.registered_are;
  once = once-step m h f s.registered_are s.once;
  one_holder = one-step m h f s.one_holder;
  die_at_end = die-step m h f s.die_at_end;
  idle_is_empty = idle-step m h s.idle_is_empty;
  wait_for_registered = wait-step m h f s.wait_for_registered;
}

pub sound-onto : (moves : List Move) (h : History) → AllFit moves h → Sound h → Sound (onto h moves)
sound-onto [] h f s = s
sound-onto (m ∷ moves) h f s = sound-onto moves (m ▷ h) f.1 (sound-step m h f.0 s)
