-- Laws of one client and of what the manager knows of it: both ends meet as the client registers, and still do after each step of
-- either end.
use Rattle.std.specs.Prelude.{Bool, List, None, Some, [], false, true, ℕ, ◌++◌, ◌+◌, ◌≤◌, ◌∷◌, ◌≡◌, ◌≢◌}
use Rattle.ice_values.specs.declared.saves.SaveStyle.{SaveStyle}
use Rattle.xsmp_messages.specs.declared.message.XsmpMessage.{XsmpMessage}
use Rattle.xsmp_messages.specs.declared.message.XsmpMessage.TheVariants.{ConnectionClosed, RegisterClient, SaveYourself}
use Rattle.session_model.specs.declared.phase.Phase.TheVariants.{Unregistered}
use Rattle.client_machine.specs.Asking.{after_asked, may_ask, requested}
use Rattle.client_machine.specs.Phases.{ClientState, is_dead}
use Rattle.client_machine.specs.Taking.{act_taken, taken}
use Rattle.client_machine.specs.declared.acts.ClientAct.TheVariants.{Unexpected}
use Rattle.client_machine.specs.declared.phase.ClientPhase.{ClientPhase}
use Rattle.client_machine.specs.declared.phase.ClientPhase.TheVariants.{Dead, Done, Idle, Registering}
use Rattle.client_machine.specs.declared.requests.Request.{Request}
use Rattle.client_machine.specs.declared.requests.Request.TheVariants.{Done as SayDone}
use Rattle.client_machine.specs.declared.saves.SaveAsk.{SaveAsk}
use Rattle.end_agreement.specs.Sides.{Agrees, Side, may_give, side_given}
use Rattle.end_agreement.specs.Hearing.{is_again}
use Rattle.end_agreement.specs.Meeting.{EachAnswer, Meets, has_place}

-- a client registers on a connection on which XSMP has begun
abbrev pub CrossingsBegin : Type 0
CrossingsBegin =
    (previous : List ℕ) (asked : SaveAsk) (shutdown : Bool) (style : SaveStyle)
    → Meets (record { phase = Some Unregistered; shutdown = shutdown; style = style }) (record { phase = Registering; id = previous; asked = asked }) (RegisterClient previous ∷ []) []

-- the client asks for something
abbrev pub AskingKeeps : Type 0
AskingKeeps =
    (request : Request) (side : Side) (s : ClientState) (up down : List XsmpMessage) → may_ask request s ≡ true → Meets side s up down
    → Meets side (after_asked request s) (up ++ requested request ∷ []) down

-- the client has said that it closes
abbrev pub after_closed : ClientState → ClientState
after_closed s = record s { phase = Dead }

-- The client closes, wherever it is: one that was told to die says so too, and is dead already.
abbrev pub ClosingKeeps : Type 0
ClosingKeeps =
    (reasons : List (List ℕ)) (side : Side) (s : ClientState) (up down : List XsmpMessage) → Meets side s up down
    → Meets side (after_closed s) (up ++ ConnectionClosed reasons ∷ []) down

-- the manager takes the first message that waits for it, and answers
abbrev pub HearingKeeps : Type 0
HearingKeeps =
    (m : XsmpMessage) (side : Side) (s : ClientState) (up down : List XsmpMessage) → side.phase ≢ None → Meets side s (m ∷ up) down
    → EachAnswer m side (λ after answers. Meets after s up (down ++ answers))

-- a message that the manager takes has its place, so it isn't answered by BadState
abbrev pub NothingIsBadState : Type 0
NothingIsBadState = (m : XsmpMessage) (side : Side) (s : ClientState) (up down : List XsmpMessage) → side.phase ≢ None → Meets side s (m ∷ up) down → has_place m side ≡ true

-- the manager gives something by itself, where it may
abbrev pub GivingKeeps : Type 0
GivingKeeps =
    (m : XsmpMessage) (side : Side) (s : ClientState) (up down : List XsmpMessage) → may_give m side.phase ≡ true → Meets side s up down
    → Meets (side_given m side) s up (down ++ m ∷ [])

-- the client takes the first message that waits for it
abbrev pub TakingKeeps : Type 0
TakingKeeps = (m : XsmpMessage) (side : Side) (s : ClientState) (up down : List XsmpMessage) → Meets side s up (m ∷ down) → Meets side (taken m s) up down

-- the client takes the refusal of its previous ID, and registers once more
abbrev pub RegisteringAgainKeeps : Type 0
RegisteringAgainKeeps =
    (m : XsmpMessage) (side : Side) (s : ClientState) (up down : List XsmpMessage) → is_again m s ≡ true → Meets side s up (m ∷ down)
    → Meets side (taken m s) (up ++ RegisterClient [] ∷ []) down

-- a message that a client takes which is alive has its place, so it doesn't answer by BadState
abbrev pub NothingIsUnexpected : Type 0
NothingIsUnexpected = (m : XsmpMessage) (side : Side) (s : ClientState) (up down : List XsmpMessage) → is_dead s.phase ≡ false → Meets side s up (m ∷ down) → act_taken m s ≢ Unexpected

-- the client after all of this, without its answers
abbrev pub taken_all : List XsmpMessage → ClientState → ClientState
taken_all [] s = s
taken_all (m ∷ down) s = taken_all down (taken m s)

-- where nothing waits for the manager, both agree once the client has taken all that waits for it
abbrev pub EndsAgree : Type 0
EndsAgree = (side : Side) (s : ClientState) (down : List XsmpMessage) → Meets side s [] down → Agrees side (taken_all down s)

-- Answers

-- a SaveYourself that the client was given and hasn't answered
abbrev pub owes : ClientPhase → ℕ
owes Registering = 0
owes Idle = 0
owes Done = 0
owes Dead = 0
owes phase = 1

abbrev pub answers_save : Request → ℕ
answers_save (SayDone success) = 1
answers_save request = 0

abbrev pub asks_save : XsmpMessage → ℕ
asks_save (SaveYourself kind shutdown style fast) = 1
asks_save m = 0

-- who says SaveYourselfDone owed it
abbrev pub AnswersAreOwed : Type 0
AnswersAreOwed = (request : Request) (s : ClientState) → may_ask request s ≡ true → answers_save request + owes (after_asked request s).phase ≤ owes s.phase

-- who owes a SaveYourselfDone was asked to save
abbrev pub SavesAreAsked : Type 0
SavesAreAsked = (m : XsmpMessage) (s : ClientState) → owes (taken m s).phase ≤ owes s.phase + asks_save m
