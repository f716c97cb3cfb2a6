-- Laws of a manager and one of its clients, after every schedule of steps, and of what the manager does to a client by itself.
use Rattle.std.specs.Prelude.{Bool, List, None, Option, Some, [], drop, false, true, ℕ, ◌+◌, ◌==◌, ◌≤◌, ◌∷◌, ◌≡◌, ◌≢◌}
use Rattle.std.specs.List.{list_any}
use Rattle.ice_values.specs.Classes.{class_number}
use Rattle.ice_values.specs.declared.class.ErrorClass.TheVariants.{BadState}
use Rattle.xsmp_messages.specs.declared.message.XsmpMessage.{XsmpMessage}
use Rattle.xsmp_messages.specs.declared.message.XsmpMessage.TheVariants.{Error}
use Rattle.round_agreement.specs.declared.wanted.Wanted.{Wanted}
use Rattle.interact_queue.specs.Queue.{is_in}
use Rattle.session_model.specs.declared.events.SessionEvent.{SessionEvent}
use Rattle.session_model.specs.declared.events.SessionEvent.TheVariants.{Said}
use Rattle.session_model.specs.declared.phase.Phase.{Phase}
use Rattle.session_model.specs.Laws.{Always}
use Rattle.session_model.specs.Moves.{Blamed, Gave, History, Move, Outside, Unset, onto, ◌▷◌}
use Rattle.session_model.specs.Reading.{reading}
use Rattle.session_model.specs.Readings as of
use Rattle.session_model.specs.Replies.{reply}
use Rattle.session_model.specs.Rules.{taken}
use Rattle.client_machine.specs.Phases.{is_dead}
use Rattle.client_machine.specs.Taking.{act_taken}
use Rattle.client_machine.specs.declared.acts.ClientAct.TheVariants.{Unexpected}
use Rattle.end_agreement.specs.Laws.{taken_all}
use Rattle.end_agreement.specs.Sides.{Agrees, is_at_work, may_give}
use Rattle.end_schedules.specs.Pairs.{InEveryPair, Pair, down_of, is_of}
use Rattle.end_schedules.specs.Schedules.{InEverySchedule}
use Rattle.end_schedules.specs.UnderWay.{Save, save_of, sent_to, side_of}

-- the Error of a message that has no place
abbrev pub is_bad_state : XsmpMessage → Bool
is_bad_state (Error error) = error.class == class_number BadState
is_bad_state m = false

-- the connection stands
abbrev pub is_live : ℕ → Pair → Bool
is_live c p = is_in c (of.live p.history)

-- an event and the direct answer to it, before anything settles
abbrev pub answered_to : SessionEvent → History → History
answered_to event h = onto (Outside event ▷ h) (reply (reading h) event)

abbrev pub unless_ended_at : Option Phase → History → History → History
unless_ended_at None h g = h
unless_ended_at (Some phase) h g = g

-- the manager takes all of this from c, whatever the numbers and the frames
abbrev pub heard_all : ℕ → (ℕ → ℕ) → (ℕ → List ℕ) → ℕ → List XsmpMessage → History → History
heard_all c numbers frames k [] h = h
heard_all c numbers frames k (m ∷ up) h = unless_ended_at (of.phase_of c h) h (heard_all c numbers frames (k + 1) up (answered_to (Said c m (numbers k) (frames k)) h))

-- What both ends keep, of a manager and a client

-- the manager has never answered the client by BadState
abbrev pub HearsNoBadState : ℕ → Pair → Type 0
HearsNoBadState c p = list_any is_bad_state (sent_to c p.history) ≡ false

-- whatever waits for the client is expected there, as long as it is alive
abbrev pub ExpectsWhatWaits : ℕ → Pair → Type 0
ExpectsWhatWaits c p = (m : XsmpMessage) (down : List XsmpMessage) → down_of c p ≡ m ∷ down → is_dead p.state.phase ≡ false → act_taken m p.state ≢ Unexpected

-- Let the manager take what is under way to it from the client, and answer, and then the client what is under way to it: both agree.
abbrev pub AgreesOnceTaken : ℕ → Pair → Type 0
AgreesOnceTaken c p =
    (numbers : ℕ → ℕ) (frames : ℕ → List ℕ)
    → Agrees (side_of c (heard_all c numbers frames 0 p.up p.history)) (taken_all (drop p.took (sent_to c (heard_all c numbers frames 0 p.up p.history))) p.state)

-- the client has said SaveYourselfDone at most as often as it has taken SaveYourself
abbrev pub AnswersFew : ℕ → Pair → Type 0
AnswersFew c p = p.answers ≤ p.saves

-- Whatever else happens, be the other clients as they are: the manager never answers this client by BadState, nor as it shuts the
-- connection,
abbrev pub ManagerSendsNoBadState : Type 0
ManagerSendsNoBadState = InEveryPair (λ c p. HearsNoBadState c p)

-- nor is there ever anything that the client had to answer so, also of what it takes after its connection was shut;
abbrev pub ClientSendsNoBadState : Type 0
ClientSendsNoBadState = InEveryPair (λ c p. ExpectsWhatWaits c p)

-- as long as the connection stands, both agree, once all is taken that is under way;
abbrev pub BothEndsAgree : Type 0
BothEndsAgree = InEveryPair (λ c p. is_live c p ≡ true → AgreesOnceTaken c p)

-- and the client answers no save twice.
abbrev pub AnswersAreFew : Type 0
AnswersAreFew = InEveryPair (λ c p. AnswersFew c p)

-- all of this of the manager and each of its clients, also once the connection is shut or broken; but who isn't there any more agrees
-- with nobody
pub record KeepsAll (c : ℕ) (p : Pair) : Type 0 where
  pub no_bad_state : HearsNoBadState c p
  pub expected : ExpectsWhatWaits c p
  pub agree : is_live c p ≡ true → AgreesOnceTaken c p
  pub few : AnswersFew c p

abbrev pub AllEndsAgree : Type 0
AllEndsAgree = InEverySchedule (λ c p. KeepsAll c p)

-- What the manager does to a client by itself

-- What a move that isn't the client's own does to it: it is given something in a phase where that has its place, or its connection
-- is shut.
abbrev pub Passes : ℕ → Move → History → Type 0
Passes c (Outside event) h = is_of c event ≡ false
Passes c (Gave d m) h = d ≡ c → may_give m (of.phase_of c h) ≡ true
Passes c (Blamed d error) h = d ≢ c
Passes c (Unset d) h = d ≢ c
Passes c m h = Unit {0}

abbrev pub AllPass : ℕ → List Move → History → Type 0
AllPass c [] h = Unit {0}
AllPass c (m ∷ moves) h = Passes c m h × AllPass c moves (m ▷ h)

-- such moves alone lead from one history to the other
pub record IsPassed (c : ℕ) (h g : History) : Type 0 where
  pub moves : List Move
  pub there : g ≡ onto h moves
  pub each : AllPass c moves h

-- what comes from elsewhere does nothing else to a client
abbrev pub OthersPass : Type 0
OthersPass = Always (λ h. (c : ℕ) (event : SessionEvent) → is_of c event ≡ false → IsPassed c h (taken event h))

-- nor does anything behind the direct answer to what comes from the client itself
abbrev pub SettlingPasses : Type 0
SettlingPasses = Always (λ h. (c : ℕ) (event : SessionEvent) → IsPassed c (answered_to event h) (taken event h))

-- the same is known of a save and of the round that it is of
pub record IsOfRound (save : Save) (wanted : Wanted) : Type 0 where
  pub shutdown : save.shutdown ≡ wanted.shutdown
  pub style : save.style ≡ wanted.style

-- who saves was asked so by the round that runs
abbrev pub SavesAreOfTheRound : Type 0
SavesAreOfTheRound = Always (λ h. (c : ℕ) (wanted : Wanted) → of.wanted h ≡ Some wanted → is_at_work (of.phase_of c h) ≡ true → IsOfRound (save_of c h) wanted)
