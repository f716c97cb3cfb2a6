-- What a move asks of the history before it, for what is held to stand for the history after it.
use Rattle.std.proofs.Common.{◌≡◌, ℕ, Bool, true, false, List, [], ◌∷◌, ◌++◌, arith}
use Rattle.std.specs.Prelude.{Option, Some}
use Rattle.std.specs.List.{AllByRecursion}
use Rattle.xsmp_messages.specs.declared.message.XsmpMessage.{XsmpMessage}
use Rattle.xsmp_messages.specs.declared.message.XsmpMessage.TheVariants.{Die, Interact, RegisterClientReply, SaveComplete, SaveYourself, ShutdownCancelled}
use Rattle.interact_queue.specs.Queue.{is_in}
use Rattle.session_model.specs.declared.phase.Phase.{Phase}
use Rattle.session_model.specs.declared.phase.Phase.TheVariants.{Done, Idle, Unregistered}
use Rattle.session_model.specs.declared.events.SessionEvent.TheVariants.{Ready}
use Rattle.session_model.specs.Phases.{is_asked, is_interacting}
use Rattle.session_model.specs.Moves.{Began, Gave, History, Move, Outside, Unset, onto, ◌▷◌}
use Rattle.session_model.specs.Readings as of
use Rattle.session_model.proofs.Level.{is_plain}
use Rattle.session_model.proofs.MoveKinds.{IsWide}

abbrev pub is_done : Option Phase → Bool
is_done (Some Done) = true
is_done phase = false

abbrev pub SuitsGiven : ℕ → XsmpMessage → History → Type 0
SuitsGiven c (RegisterClientReply id) h = of.phase_of c h ≡ Some Unregistered
SuitsGiven c (SaveYourself kind shutdown style fast) h = is_done (of.phase_of c h) ≡ false
SuitsGiven c Interact h = (is_asked (of.phase_of c h) ≡ true) × ((d : ℕ) → is_interacting (of.phase_of d h) ≡ false)
SuitsGiven c SaveComplete h = is_in c (of.members h) ≡ false
SuitsGiven c ShutdownCancelled h = is_in c (of.members h) ≡ false
SuitsGiven c Die h = is_in c (of.members h) ≡ false
SuitsGiven c m h = Unit {0}

abbrev pub Suits : Move → History → Type 0
Suits (Outside (Ready c)) h = is_in c (of.live h) ≡ true
Suits (Gave c m) h = SuitsGiven c m h
Suits (Unset c) h = of.phase_of c h ≡ Some Unregistered
Suits (Began conns wanted) h = (c : ℕ) → is_in c conns ≡ true → of.phase_of c h ≡ Some Idle
Suits m h = Unit {0}

abbrev pub AllSuit : List Move → History → Type 0
AllSuit [] h = Unit {0}
AllSuit (m ∷ moves) h = Suits m h × AllSuit moves (m ▷ h)

pub suit-append : (xs ys : List Move) (h : History) → AllSuit xs h → AllSuit ys (onto h xs) → AllSuit (xs ++ ys) h
suit-append [] ys h p q = q
suit-append (x ∷ xs) ys h p q = (p.0, suit-append xs ys (x ▷ h) p.1 q)

-- Light moves, which suit everywhere

abbrev pub IsLight : Move → Type 0
IsLight (Outside event) = ⊥
IsLight (Gave c m) = is_plain m ≡ true
IsLight (Unset c) = ⊥
IsLight (Began conns wanted) = ⊥
IsLight m = Unit {0}

abbrev pub AllLight : List Move → Type 0
AllLight moves = AllByRecursion IsLight moves

pub light-wide : IsWide IsLight
light-wide = record { respawned = λ id command. tt; resigned = λ command. tt; closed = λ c. tt; printed = λ text. tt }

light-given : (c : ℕ) (m : XsmpMessage) (h : History) → is_plain m ≡ true → SuitsGiven c m h
light-given c (RegisterClientReply id) h e = absurd (grind arith)
light-given c (SaveYourself kind shutdown style fast) h e = absurd (grind arith)
light-given c Interact h e = absurd (grind arith)
light-given c SaveComplete h e = absurd (grind arith)
light-given c ShutdownCancelled h e = absurd (grind arith)
light-given c Die h e = absurd (grind arith)
light-given c m h e = tt

light-suits : (m : Move) (h : History) → IsLight m → Suits m h
light-suits (Outside event) h e = absurd e
light-suits (Gave c m) h e = light-given c m h e
light-suits (Unset c) h e = absurd e
light-suits (Began conns wanted) h e = absurd e
light-suits m h e = tt

pub suit-light : (moves : List Move) (h : History) → AllLight moves → AllSuit moves h
suit-light [] h e = tt
suit-light (m ∷ moves) h e = (light-suits m h e.0, suit-light moves (m ▷ h) e.1)
