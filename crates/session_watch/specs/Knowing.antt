-- What is known of a client by the messages that passed: each thing by the last message that says it.
use Rattle.std.specs.Prelude.{◌≡◌, ℕ, ◌||◌, Bool, true, false, if◌then◌else◌, List, [], ◌∷◌, take, codes, Option, Some, None, option_map, option_and_then, unwrap_or}
use Rattle.std.specs.Option.{option_or, option_flatten}
use Rattle.std.specs.List.{list_any}
use Rattle.std.specs.Str.{bytes_eq}
use Rattle.ice_values.specs.declared.property.Property.{Property}
use Rattle.ice_framing.specs.Frames.{frames_of, standing_of, is_oversize}
use Rattle.xsmp_messages.specs.declared.message.XsmpMessage.{XsmpMessage}
use Rattle.xsmp_messages.specs.declared.message.XsmpMessage.TheVariants.{RegisterClient, RegisterClientReply, SaveYourself, SaveYourselfRequest, InteractRequest, Interact, InteractDone, SaveYourselfDone, Die, ShutdownCancelled, ConnectionClosed, SetProperties, DeleteProperties, SaveYourselfPhase2Request, SaveYourselfPhase2, SaveComplete}
use Rattle.frame_speech.specs.Speech.{speech_behind}
use Rattle.frame_speech.specs.Streams.{IsAt}
use Rattle.frame_speech.specs.Words.{without_nul}
use Rattle.frame_speech.specs.declared.speech.Speech.{Speech}
use Rattle.frame_speech.specs.declared.speech.Speech.TheVariants.{Silent, Greeted, Speaks, Lost}
use Rattle.session_watch.specs.Story.{Passage, Said, stream_of, messages}
use Rattle.session_watch.specs.declared.party.Party.{Party}
use Rattle.session_watch.specs.declared.party.Party.TheVariants.{Client, Manager}
use Rattle.session_watch.specs.declared.asking.Asked.{Asked}
use Rattle.session_watch.specs.declared.asking.Asked.TheVariants.{Save, Interaction, PhaseTwo, Complete, Cancelled, Death}
use Rattle.session_watch.specs.declared.asking.Answered.{Answered}
use Rattle.session_watch.specs.declared.asking.Answered.TheVariants.{Registered, SaveRequested, InteractRequested, InteractEnded, PhaseTwoRequested, Saved, Failed, Closed}
use Rattle.session_watch.specs.declared.stage.Stage.{Stage}
use Rattle.session_watch.specs.declared.stage.Stage.TheVariants.{Joining, Idle, Saving, Interacting, Waiting, Done, Dying, Unreadable}
use Rattle.session_watch.specs.declared.known.Known.{Known}
use Rattle.session_watch.specs.declared.watch.ClientWatch.{ClientWatch}

-- what the last of these says that says something
abbrev pub latest : {A B : Type 0} → (A → Option B) → List A → Option B
latest say [] = None
latest say (x ∷ xs) = option_or (latest say xs) (say x)

-- ---- the program: the first value of the last property of that name, without a NUL that ends it, of which 255 bytes are kept, unless it was deleted since

abbrev pub name_in : List (List ℕ) → Option (List ℕ)
name_in [] = None
name_in (value ∷ values) = Some (take 255 (without_nul value))

abbrev pub is_program : List ℕ → Bool
is_program name = bytes_eq name (codes "Program")

abbrev pub set_by : Property → Option (Option (List ℕ))
set_by p = if is_program p.name then Some (name_in p.values) else None

-- None where a message says nothing of it
abbrev pub program_in : XsmpMessage → Option (Option (List ℕ))
program_in (SetProperties properties) = latest set_by properties
program_in (DeleteProperties names) = if list_any is_program names then Some None else None
program_in m = None

abbrev pub program_by : Party → XsmpMessage → Option (Option (List ℕ))
program_by Client m = program_in m
program_by Manager m = None

-- ---- the ID that the manager gave it, of which 512 bytes are kept

abbrev pub id_in : XsmpMessage → Option (List ℕ)
id_in (RegisterClientReply id) = Some (take 512 id)
id_in m = None

abbrev pub id_by : Party → XsmpMessage → Option (List ℕ)
id_by Client m = None
id_by Manager m = id_in m

-- ---- what the manager asked, or told it, and what it answered since

abbrev pub asks : XsmpMessage → Option Asked
asks (SaveYourself kind shutdown style fast) = Some (Save kind shutdown style fast)
asks Interact = Some Interaction
asks SaveYourselfPhase2 = Some PhaseTwo
asks SaveComplete = Some Complete
asks ShutdownCancelled = Some Cancelled
asks Die = Some Death
asks m = None

abbrev pub asked_by : Party → XsmpMessage → Option Asked
asked_by Client m = None
asked_by Manager m = asks m

abbrev pub answers : XsmpMessage → Option Answered
answers (RegisterClient previous) = Some Registered
answers (SaveYourselfRequest kind shutdown style fast global) = Some SaveRequested
answers (InteractRequest dialog) = Some InteractRequested
answers (InteractDone cancel) = Some InteractEnded
answers SaveYourselfPhase2Request = Some PhaseTwoRequested
answers (SaveYourselfDone success) = if success then Some Saved else Some Failed
answers (ConnectionClosed reasons) = Some Closed
answers m = None

-- None where a message says nothing of it; what is asked has no answer yet
abbrev pub answered_by : Party → XsmpMessage → Option (Option Answered)
answered_by Client m = option_map Some (answers m)
answered_by Manager m = option_map (λ asked. None) (asks m)

-- ---- whether a logout runs for it

abbrev pub logout_in : Asked → Option Bool
logout_in (Save kind shutdown style fast) = Some shutdown
logout_in Interaction = None
logout_in PhaseTwo = None
logout_in Complete = Some false
logout_in Cancelled = Some false
logout_in Death = Some true

abbrev pub logout_by : Party → XsmpMessage → Option Bool
logout_by Client m = None
logout_by Manager m = option_and_then logout_in (asks m)

-- ---- its stage

abbrev pub worked_in : Answered → Option Stage
worked_in Registered = None
worked_in SaveRequested = None
worked_in InteractRequested = None
worked_in InteractEnded = Some Saving
worked_in PhaseTwoRequested = Some Waiting
worked_in Saved = Some Done
worked_in Failed = Some Done
worked_in Closed = None

abbrev pub work_in : Asked → Option Stage
work_in (Save kind shutdown style fast) = Some Saving
work_in Interaction = Some Interacting
work_in PhaseTwo = Some Saving
work_in Complete = None
work_in Cancelled = None
work_in Death = Some Dying

-- a client that has its ID is idle
abbrev pub told_in : XsmpMessage → Option Stage
told_in (RegisterClientReply id) = Some Idle
told_in m = option_and_then work_in (asks m)

abbrev pub work_by : Party → XsmpMessage → Option Stage
work_by Client m = option_and_then worked_in (answers m)
work_by Manager m = told_in m

-- Who is done is idle again once the manager says that the round is complete or the logout is cancelled. Who waits for the second phase then still owes its SaveYourselfDone.
abbrev pub after_done : Option Asked → Stage
after_done (Some Complete) = Idle
after_done (Some Cancelled) = Idle
after_done asked = Done

abbrev pub after_waiting : Option Asked → Stage
after_waiting (Some Cancelled) = Saving
after_waiting asked = Waiting

abbrev pub staged : Stage → Option Asked → Stage
staged Done asked = after_done asked
staged Waiting asked = after_waiting asked
staged stage asked = stage

abbrev pub stage_from : Option Stage → Option Asked → Stage
stage_from None asked = Joining
stage_from (Some work) asked = staged work asked

-- Somebody waits for it: to answer SaveYourself or SaveYourselfPhase2, to say InteractDone, or to leave.
abbrev pub holds_up : Stage → Bool
holds_up Saving = true
holds_up Interacting = true
holds_up Dying = true
holds_up Joining = false
holds_up Idle = false
holds_up Waiting = false
holds_up Done = false
holds_up Unreadable = false

-- ---- all of this

abbrev pub known_by : List Said → Known
known_by said = record {
  program = option_flatten (latest (λ (s : Said). program_by s.by s.message) said);
  id = latest (λ (s : Said). id_by s.by s.message) said;
  asked = latest (λ (s : Said). asked_by s.by s.message) said;
  answered = option_flatten (latest (λ (s : Said). answered_by s.by s.message) said);
  logout = latest (λ (s : Said). logout_by s.by s.message) said;
  work = latest (λ (s : Said). work_by s.by s.message) said;
}

-- what one message more says
abbrev pub noted : Party → XsmpMessage → Known → Known
noted party m k = record {
  program = unwrap_or (program_by party m) k.program;
  id = option_or (id_by party m) k.id;
  asked = option_or (asked_by party m) k.asked;
  answered = unwrap_or (answered_by party m) k.answered;
  logout = option_or (logout_by party m) k.logout;
  work = option_or (work_by party m) k.work;
}

abbrev pub noted_all : Party → List XsmpMessage → Known → Known
noted_all party [] k = k
noted_all party (m ∷ ms) k = noted_all party ms (noted party m k)

-- ---- of a story

abbrev pub is_lost : Speech → Bool
is_lost Silent = false
is_lost Greeted = false
is_lost (Speaks opcode) = false
is_lost Lost = true

-- A stream can't be read any more: a header states too much, or something wasn't understood.
abbrev pub is_unreadable : List ℕ → Bool
is_unreadable stream = is_oversize (standing_of stream) || is_lost (speech_behind Silent (frames_of stream))

abbrev pub program_of : List Passage → Option (List ℕ)
program_of story = (known_by (messages story)).program

abbrev pub id_of : List Passage → Option (List ℕ)
id_of story = (known_by (messages story)).id

abbrev pub asked_of : List Passage → Option Asked
asked_of story = (known_by (messages story)).asked

abbrev pub answered_of : List Passage → Option Answered
answered_of story = (known_by (messages story)).answered

abbrev pub is_logout : List Passage → Bool
is_logout story = unwrap_or (known_by (messages story)).logout false

abbrev pub stage_of : List Passage → Stage
stage_of story =
    if is_unreadable (stream_of Client story) || is_unreadable (stream_of Manager story) then Unreadable
    else stage_from (known_by (messages story)).work (asked_of story)

-- since when nothing was heard of a client that came at this time
abbrev pub heard_at : Party → ℕ → ℕ → ℕ
heard_at Client at start = at
heard_at Manager at start = start

abbrev pub silent_since : ℕ → List Passage → ℕ
silent_since start [] = start
silent_since start (p ∷ ps) = silent_since (heard_at p.by p.at start) ps

-- what is kept of a connection that began then and on which all this passed
pub record Follows (start : ℕ) (story : List Passage) (watch : ClientWatch) : Type 0 where
  pub came : IsAt (stream_of Client story) watch.came
  pub said : watch.said ≡ speech_behind Silent (frames_of (stream_of Client story))
  pub sent : IsAt (stream_of Manager story) watch.sent
  pub told : watch.told ≡ speech_behind Silent (frames_of (stream_of Manager story))
  pub known : watch.known ≡ known_by (messages story)
  pub since : watch.since ≡ silent_since start story
