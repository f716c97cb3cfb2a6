-- The session and the connections agree who is live and who speaks XSMP: at each move, and once an event is taken.
use Rattle.std.proofs.Common.{◌≡◌, inl, inr, ℕ, Bool, true, false, cond, List, [], ◌∷◌, ◌++◌, map, length, drop, Option, Some, None, nat_eq, refl, sym, ◌∙◌, ap, subst, append_assoc}
use Rattle.std.specs.Option.{option_map, is_some}
use Rattle.std.proofs.Math.Seq.{drop-append_seam}
use Rattle.std.proofs.lemmas.List.{map-append}
use Rattle.std.proofs.lemmas.Bool.{cases_eq}
use Rattle.ice_cookie.specs.declared.cookies.Cookie.{Cookie}
use Rattle.ice_setup.specs.declared.states.AnySetup.{AnySetup}
use Rattle.ice_setup.specs.declared.states.AnySetup.TheVariants.{AwaitOrder as AtOrder, AwaitSetup as AtSetup, AwaitCookie as AtCookie, AwaitProtocol as AtProtocol, AwaitProtocolCookie as AtProtocolCookie, Ready as AtReady}
use Rattle.interact_queue.specs.Queue.{is_in, without as conns_without}
use Rattle.ice_values.specs.declared.saves.Dialog.{Dialog}
use Rattle.xsmp_messages.specs.declared.message.XsmpMessage.{XsmpMessage}
use Rattle.xsmp_messages.specs.declared.message.XsmpMessage.TheVariants.{Die, Interact, InteractDone, InteractRequest, RegisterClientReply, SaveComplete, SaveYourself, SaveYourselfDone, SaveYourselfPhase2, SaveYourselfPhase2Request, ShutdownCancelled}
use Rattle.session_model.specs.declared.phase.Phase.{Phase}
use Rattle.session_model.specs.declared.phase.Phase.TheVariants.{Asked, AskedTwo, Done, Idle, Interacting, InteractingTwo, Owing, Saving, SavingTwo, Unregistered, WantsTwo}
use Rattle.session_model.specs.declared.events.Act.{Act as SessionAct}
use Rattle.session_model.specs.declared.events.SessionEvent.{SessionEvent}
use Rattle.session_model.specs.declared.events.SessionEvent.TheVariants.{Joined as HasJoined, Ready, Said, Left, Operator, Tick}
use Rattle.session_model.specs.Moves.{Move, Outside, Gave, Blamed, Unset, Closed, Began, Over, Cancelled, Agreed, Tried, Committed, Printed, Finished, History, ◌▷◌, acts_of, all_acts}
use Rattle.session_model.specs.Phases.{phase_given, phase_said, registered_phase, begun_phase, held_phase, second_begun_phase, completed_phase, cancelled_phase, dying_phase, asked_phase, talked_phase, saved_phase, second_phase, ready_phase, may_interact}
use Rattle.session_model.specs.Readings as of
use Rattle.session_model.specs.Rules.{taken}
use Rattle.session_engine.specs.Answers.{speaks_xsmp, without_xsmp}
use Rattle.session_engine.specs.Machine.{Connection, connection_of, changed, without, joined, counted, unset_on, connections_after, connections_through, acts_since}
use Rattle.session_engine.specs.Shown.{Agrees, is_speaking}
use Rattle.session_engine.proofs.Connections.{same, other, connection_of-changed, connection_of-without, connection_of-append}
use Rattle.session_model.proofs.Inner.{IsInner, kept-taken}

-- ---- numbers

pub numbers-changed : (f : Connection → Connection) → ((k : Connection) → (f k).number ≡ k.number) → (c : ℕ) (ks : List Connection) → map (λ (k : Connection). k.number) (changed f c ks) ≡ map (λ (k : Connection). k.number) ks
numbers-changed f keeps c [] = refl
numbers-changed f keeps c (k ∷ ks) = elim (cases_eq k.number c) [
  | inl e ↦ rw (same k.number c e, keeps k, numbers-changed f keeps c ks) refl
  | inr apart ↦ rw (other k.number c apart, numbers-changed f keeps c ks) refl
]

pub numbers-without : (c : ℕ) (ks : List Connection) → map (λ (k : Connection). k.number) (without c ks) ≡ conns_without c (map (λ (k : Connection). k.number) ks)
numbers-without c [] = refl
numbers-without c (k ∷ ks) = elim (cases_eq k.number c) [
  | inl e ↦ rw (same k.number c e, numbers-without c ks) refl
  | inr apart ↦ rw (other k.number c apart, numbers-without c ks) refl
]

pub numbers-in : (c : ℕ) (ks : List Connection) → is_in c (map (λ (k : Connection). k.number) ks) ≡ is_some (connection_of c ks)
numbers-in c [] = refl
numbers-in c (k ∷ ks) = elim (cases_eq k.number c) [
  | inl e ↦ rw (same k.number c e) refl
  | inr apart ↦ rw (other k.number c apart) (numbers-in c ks)
]

-- ---- phases: a message never begins or ends XSMP

registered-some : (p : Option Phase) → is_some (registered_phase p) ≡ is_some p
registered-some (Some Unregistered) = refl
registered-some None = refl
registered-some (Some p) = refl

begun-some : (p : Option Phase) → is_some (begun_phase p) ≡ is_some p
begun-some (Some Idle) = refl
begun-some None = refl
begun-some (Some p) = refl

held-some : (p : Option Phase) → is_some (held_phase p) ≡ is_some p
held-some (Some Asked) = refl
held-some (Some AskedTwo) = refl
held-some None = refl
held-some (Some p) = refl

second-begun-some : (p : Option Phase) → is_some (second_begun_phase p) ≡ is_some p
second-begun-some (Some WantsTwo) = refl
second-begun-some None = refl
second-begun-some (Some p) = refl

completed-some : (p : Option Phase) → is_some (completed_phase p) ≡ is_some p
completed-some (Some Done) = refl
completed-some None = refl
completed-some (Some p) = refl

cancelled-some : (p : Option Phase) → is_some (cancelled_phase p) ≡ is_some p
cancelled-some (Some Done) = refl
cancelled-some (Some Saving) = refl
cancelled-some (Some Asked) = refl
cancelled-some (Some Interacting) = refl
cancelled-some (Some WantsTwo) = refl
cancelled-some (Some SavingTwo) = refl
cancelled-some (Some AskedTwo) = refl
cancelled-some (Some InteractingTwo) = refl
cancelled-some None = refl
cancelled-some (Some p) = refl

dying-some : (p : Option Phase) → is_some (dying_phase p) ≡ is_some p
dying-some None = refl
dying-some (Some Unregistered) = refl
dying-some (Some p) = refl

given-some : (m : XsmpMessage) (p : Option Phase) → is_some (phase_given m p) ≡ is_some p
given-some (RegisterClientReply id) p = registered-some p
given-some (SaveYourself kind shutdown style fast) p = begun-some p
given-some Interact p = held-some p
given-some SaveYourselfPhase2 p = second-begun-some p
given-some SaveComplete p = completed-some p
given-some ShutdownCancelled p = cancelled-some p
given-some Die p = dying-some p
given-some m p = refl

some-cond : (b : Bool) (p q : Option Phase) → is_some q ≡ is_some p → is_some (cond b q p) ≡ is_some p
some-cond true p q e = e
some-cond false p q e = refl

asked-some : (p : Option Phase) → is_some (asked_phase p) ≡ is_some p
asked-some (Some Saving) = refl
asked-some (Some SavingTwo) = refl
asked-some None = refl
asked-some (Some p) = refl

talked-some : (p : Option Phase) → is_some (talked_phase p) ≡ is_some p
talked-some (Some Interacting) = refl
talked-some (Some InteractingTwo) = refl
talked-some None = refl
talked-some (Some p) = refl

saved-some : (p : Option Phase) → is_some (saved_phase p) ≡ is_some p
saved-some (Some Saving) = refl
saved-some (Some SavingTwo) = refl
saved-some (Some Owing) = refl
saved-some None = refl
saved-some (Some p) = refl

second-some : (p : Option Phase) → is_some (second_phase p) ≡ is_some p
second-some (Some Saving) = refl
second-some None = refl
second-some (Some p) = refl

said-some : (allowed : Dialog → Bool) (m : XsmpMessage) (p : Option Phase) → is_some (phase_said allowed m p) ≡ is_some p
said-some allowed (InteractRequest dialog) p = some-cond (allowed dialog) p (asked_phase p) (asked-some p)
said-some allowed (InteractDone false) p = talked-some p
said-some allowed (InteractDone true) p = refl
said-some allowed (SaveYourselfDone success) p = saved-some p
said-some allowed SaveYourselfPhase2Request p = second-some p
said-some allowed m p = refl

ready-some : (p : Option Phase) → is_some (ready_phase p) ≡ true
ready-some None = refl
ready-some (Some p) = refl

-- ---- moves

unset_silent : (setup : AnySetup) → speaks_xsmp (without_xsmp setup) ≡ false
unset_silent (AtOrder s) = refl
unset_silent (AtSetup s) = refl
unset_silent (AtCookie s) = refl
unset_silent (AtProtocol s) = refl
unset_silent (AtProtocolCookie s) = refl
unset_silent (AtReady s) = refl

unset-speaking : (k : Option Connection) → is_speaking (option_map unset_on k) ≡ false
unset-speaking None = refl
unset-speaking (Some k) = unset_silent k.setup

-- a connection leaves
pub agrees-without : (m : Move) (c : ℕ) (ks : List Connection) (h : History) → ((q : ℕ) → of.phase_of q (m ▷ h) ≡ cond (nat_eq c q) None (of.phase_of q h)) → of.live (m ▷ h) ≡ conns_without c (of.live h) → Agrees ks h → Agrees (without c ks) (m ▷ h)
agrees-without m c ks h phase live agrees = record {
  numbers = numbers-without c ks ∙ (ap (conns_without c) agrees.numbers ∙ sym live);
  phases = λ q. ap is_some (phase q) ∙ elim (cases_eq q c) [
    | inl e ↦ rw (same c q (sym e), connection_of-without c q ks, same q c e) refl
    | inr apart ↦ rw (other c q (λ e. apart (sym e)), connection_of-without c q ks, other q c apart) (agrees.phases q)
  ];
}

agrees-unset : (c : ℕ) (ks : List Connection) (h : History) → Agrees ks h → Agrees (changed unset_on c ks) (Unset c ▷ h)
agrees-unset c ks h agrees = record {
  numbers = numbers-changed unset_on (λ k. refl) c ks ∙ agrees.numbers;
  phases = λ q. elim (cases_eq q c) [
    | inl e ↦ rw (same c q (sym e), connection_of-changed unset_on (λ k. refl) c q ks, same q c e) (sym (unset-speaking (connection_of q ks)))
    | inr apart ↦ rw (other c q (λ e. apart (sym e)), connection_of-changed unset_on (λ k. refl) c q ks, other q c apart) (agrees.phases q)
  ];
}

agrees-moved : (m : Move) (ks : List Connection) (h : History) → IsInner m → Agrees ks h → Agrees (connections_through (acts_of m) ks) (m ▷ h)
agrees-moved (Outside event) ks h inner agrees = elim inner [ ]
agrees-moved (Gave c message) ks h inner agrees = record { numbers = agrees.numbers; phases = λ q. some-cond (nat_eq c q) (of.phase_of q h) (phase_given message (of.phase_of q h)) (given-some message (of.phase_of q h)) ∙ agrees.phases q }
agrees-moved (Blamed c error) ks h inner agrees = record { numbers = agrees.numbers; phases = agrees.phases }
agrees-moved (Unset c) ks h inner agrees = agrees-unset c ks h agrees
agrees-moved (Closed c) ks h inner agrees = agrees-without (Closed c) c ks h (λ q. refl) refl agrees
agrees-moved (Began conns wanted) ks h inner agrees = record { numbers = agrees.numbers; phases = agrees.phases }
agrees-moved Over ks h inner agrees = record { numbers = agrees.numbers; phases = agrees.phases }
agrees-moved Cancelled ks h inner agrees = record { numbers = agrees.numbers; phases = agrees.phases }
agrees-moved Agreed ks h inner agrees = record { numbers = agrees.numbers; phases = agrees.phases }
agrees-moved (Tried cause command) ks h inner agrees = record { numbers = agrees.numbers; phases = agrees.phases }
agrees-moved (Committed book) ks h inner agrees = record { numbers = agrees.numbers; phases = agrees.phases }
agrees-moved (Printed text) ks h inner agrees = record { numbers = agrees.numbers; phases = agrees.phases }
agrees-moved Finished ks h inner agrees = record { numbers = agrees.numbers; phases = agrees.phases }

-- ---- events

pub agrees-joined : (cookie : Cookie) (c : ℕ) (ks : List Connection) (h : History) → connection_of c ks ≡ None → Agrees ks h → Agrees (ks ++ joined cookie c ∷ []) (Outside (HasJoined c) ▷ h)
agrees-joined cookie c ks h none agrees = record {
  numbers = map-append (λ (k : Connection). k.number) ks (joined cookie c ∷ []) ∙ ap (λ ns. ns ++ c ∷ []) agrees.numbers;
  phases = λ q. agrees.phases q ∙ elim (cases_eq q c) [
    | inl e ↦ rw (connection_of-append q ks (joined cookie c) none, same q c e) (ap (λ n. is_speaking (connection_of n ks)) e ∙ ap is_speaking none)
    | inr apart ↦ rw (connection_of-append q ks (joined cookie c) none, other q c apart) refl
  ];
}

pub agrees-left : (c : ℕ) (ks : List Connection) (h : History) → Agrees ks h → Agrees (without c ks) (Outside (Left c) ▷ h)
agrees-left c ks h agrees = agrees-without (Outside (Left c)) c ks h (λ q. refl) refl agrees

pub agrees-said : (c : ℕ) (m : XsmpMessage) (sequence : ℕ) (frame : List ℕ) (ks : List Connection) (h : History) → Agrees ks h → Agrees ks (Outside (Said c m sequence frame) ▷ h)
agrees-said c m sequence frame ks h agrees = record {
  numbers = agrees.numbers;
  phases = λ q. some-cond (nat_eq c q) (of.phase_of q h) (phase_said (λ dialog. may_interact (of.wanted h) dialog) m (of.phase_of q h)) (said-some (λ dialog. may_interact (of.wanted h) dialog) m (of.phase_of q h)) ∙ agrees.phases q;
}

pub agrees-ordered : (order : _) (ks : List Connection) (h : History) → Agrees ks h → Agrees ks (Outside (Operator order) ▷ h)
agrees-ordered order ks h agrees = record { numbers = agrees.numbers; phases = agrees.phases }

pub agrees-ticked : (milliseconds : ℕ) (ks : List Connection) (h : History) → Agrees ks h → Agrees ks (Outside (Tick milliseconds) ▷ h)
agrees-ticked milliseconds ks h agrees = record { numbers = agrees.numbers; phases = agrees.phases }

some_speaking : (k : Option Connection) (setup : AnySetup) → is_some k ≡ true → speaks_xsmp setup ≡ true → is_speaking (option_map (counted setup) k) ≡ true
some_speaking None setup live speaks = absurd cc
some_speaking (Some k) setup live speaks = speaks

-- XSMP has begun on a connection
pub agrees-ready : (c : ℕ) (setup : AnySetup) (ks : List Connection) (h : History) → is_some (connection_of c ks) ≡ true → speaks_xsmp setup ≡ true → Agrees ks h → Agrees (changed (counted setup) c ks) (Outside (Ready c) ▷ h)
agrees-ready c setup ks h live speaks agrees = record {
  numbers = numbers-changed (counted setup) (λ k. refl) c ks ∙ agrees.numbers;
  phases = λ q. elim (cases_eq q c) [
    | inl e ↦ rw (same c q (sym e), connection_of-changed (counted setup) (λ k. refl) c q ks, same q c e) (ready-some (of.phase_of q h) ∙ sym (some_speaking (connection_of q ks) setup (ap (λ n. is_some (connection_of n ks)) e ∙ live) speaks))
    | inr apart ↦ rw (other c q (λ e. apart (sym e)), connection_of-changed (counted setup) (λ k. refl) c q ks, other q c apart) (agrees.phases q)
  ];
}

-- a change that leaves the numbers and the set-ups
speaking-changed : (f : Connection → Connection) → ((k : Connection) → (f k).setup ≡ k.setup) → (k : Option Connection) → is_speaking (option_map f k) ≡ is_speaking k
speaking-changed f keeps None = refl
speaking-changed f keeps (Some k) = ap speaks_xsmp (keeps k)

pub agrees-changed : (f : Connection → Connection) → ((k : Connection) → (f k).number ≡ k.number) → ((k : Connection) → (f k).setup ≡ k.setup) → (c : ℕ) (ks : List Connection) (h : History) → Agrees ks h → Agrees (changed f c ks) h
agrees-changed f numbered alike c ks h agrees = record {
  numbers = numbers-changed f numbered c ks ∙ agrees.numbers;
  phases = λ q. agrees.phases q ∙ elim (cases_eq q c) [
    | inl e ↦ rw (connection_of-changed f numbered c q ks, same q c e) (sym (speaking-changed f alike (connection_of q ks)))
    | inr apart ↦ rw (connection_of-changed f numbered c q ks, other q c apart) refl
  ];
}

-- a part that leaves whether XSMP is spoken
pub agrees-noted : (c : ℕ) (setup : AnySetup) (ks : List Connection) (h : History) (k : Connection) → connection_of c ks ≡ Some k → speaks_xsmp setup ≡ speaks_xsmp k.setup → Agrees ks h → Agrees (changed (counted setup) c ks) h
agrees-noted c setup ks h k is_k alike agrees = record {
  numbers = numbers-changed (counted setup) (λ k. refl) c ks ∙ agrees.numbers;
  phases = λ q. agrees.phases q ∙ elim (cases_eq q c) [
    | inl e ↦ let is_q : connection_of q ks ≡ Some k = ap (λ n. connection_of n ks) e ∙ is_k in
        rw (connection_of-changed (counted setup) (λ k. refl) c q ks, same q c e, is_q) (sym alike)
    | inr apart ↦ rw (connection_of-changed (counted setup) (λ k. refl) c q ks, other q c apart) refl
  ];
}

-- ---- all that an event brings

pub through-append : (xs ys : List SessionAct) (ks : List Connection) → connections_through (xs ++ ys) ks ≡ connections_through ys (connections_through xs ks)
through-append [] ys ks = refl
through-append (x ∷ xs) ys ks = through-append xs ys (connections_after x ks)

-- so much was done since, and behind that they agree
record AgreesSince (ks : List Connection) (h g : History) : Type 0 where
  acts : List SessionAct
  are : all_acts g ≡ all_acts h ++ acts
  agrees : Agrees (connections_through acts ks) g

since-moved : (ks : List Connection) (h : History) (m : Move) (g : History) → IsInner m → AgreesSince ks h g → AgreesSince ks h (m ▷ g)
since-moved ks h m g inner since = record {
  acts = since.acts ++ acts_of m;
  are = ap (λ xs. xs ++ acts_of m) since.are ∙ append_assoc (all_acts h) since.acts (acts_of m);
  agrees = rw (through-append since.acts (acts_of m) ks) (agrees-moved m (connections_through since.acts ks) g inner since.agrees);
}

-- what was done since
pub since-is : (h g : History) (acts : List SessionAct) → all_acts g ≡ all_acts h ++ acts → acts_since h g ≡ acts
since-is h g acts are = ap (drop (length (all_acts h))) are ∙ drop-append_seam (all_acts h) acts

pub agrees-told : (event : SessionEvent) (ks : List Connection) (h : History) → Agrees ks (Outside event ▷ h) → Agrees (connections_through (acts_since h (taken event h)) ks) (taken event h)
agrees-told event ks h agrees =
    let since : AgreesSince ks h (taken event h) = kept-taken (AgreesSince ks h) (since-moved ks h) event h (record { acts = []; are = refl; agrees = agrees }) in
    subst (λ (acts : List SessionAct). Agrees (connections_through acts ks) (taken event h)) (sym (since-is h (taken event h) since.acts since.are)) since.agrees
