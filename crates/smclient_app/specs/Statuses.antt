-- What `smclient` sends and prints, and what each of its statuses says.
use Rattle.std.specs.Prelude.{◌≡◌, ◌⊎◌, ℕ, Bool, false, List, [], ◌++◌, Option, Some, Result, Ok, Err}
use Rattle.sm_world.specs.Outside.{Outside, Rose}
use Rattle.sm_world.specs.declared.effects.Effect.{Effect}
use Rattle.sm_world.specs.declared.failures.Failure.{Failure}
use Rattle.sm_world.specs.declared.failures.Failure.TheVariants.{Failed, NoMemory as DeviceMemory}
use Rattle.sm_world.specs.declared.failures.Faults.{Faults}
use Rattle.client_callbacks.specs.Doing.{Desk}
use Rattle.client_callbacks.specs.Running.{Joins}
use Rattle.client_callbacks.specs.declared.ends.ClientEnd.{ClientEnd}
use Rattle.client_callbacks.specs.declared.ends.JoinFault.{JoinFault}
use Rattle.client_callbacks.specs.declared.joiner.Join.{Join}
use Rattle.client_peer.specs.Peers.{Fetches}
use Rattle.client_words.specs.Reading.{AreBad, AreChosen}
use Rattle.client_words.specs.declared.choices.Choices.{Choices}
use Rattle.ice_cookie.specs.declared.cookies.Cookie.{Cookie}
use Rattle.program_frame.specs.Programs.{AnswersAs, status_by, line_by}
use Rattle.smclient_app.specs.Entries.{HasCookie, HasNone}
use Rattle.smclient_app.specs.Faults.{Ending, after_printing, end_of, fault_line, fault_status}
use Rattle.smclient_app.specs.Joining.{AnswersIn, Listens, NoReasons, remembers}
use Rattle.smclient_app.specs.Lines.{PrintsFirst}
use Rattle.smclient_app.specs.declared.fault.Fault.{Fault}
use Rattle.smclient_app.specs.declared.fault.Fault.TheVariants.{BadWords, Refused, StreamEnded, NoEntry, Link, Console, Spent, NoMemory, Malformed}

-- the fault of a peer that failed
abbrev pub peer_fault : Failure → Fault
peer_fault Failed = Link
peer_fault DeviceMemory = NoMemory

-- This holds of the file at the path, which is the one that the peer tells, where it tells its files.
pub record FileIs (files : Option (List (List ℕ × List ℕ))) (path : List ℕ) (Holds : List ℕ → Type 0) : Type 0 where
  pub bytes : List ℕ
  pub fetched : Fetches {E = Failure} files path (Ok bytes)
  pub holds : Holds bytes

-- Why a call stopped before the client said anything: the file has no cookie for it, or the count of the links rose.
abbrev pub IsEarly : Choices → Outside → Outside → Fault → Type 0
IsEarly choices old new BadWords = ⊥
IsEarly choices old new Refused = ⊥
IsEarly choices old new StreamEnded = ⊥
IsEarly choices old new NoEntry = FileIs old.files choices.authority.now (HasNone choices.socket.now)
IsEarly choices old new Link = Rose old.faults.links new.faults.links
IsEarly choices old new Console = ⊥
IsEarly choices old new Spent = ⊥
IsEarly choices old new NoMemory = Unit {0}
IsEarly choices old new Malformed = ⊥

-- what a client joins with: the cookie of the file, and what the words give
pub record IsReady (choices : Choices) (files : Option (List (List ℕ × List ℕ))) (join : Join) : Type 0 where
  pub file : FileIs files choices.authority.now (λ bytes. HasCookie choices.socket.now bytes join.cookie)
  pub is : join ≡ record { cookie = join.cookie; previous = choices.id.now; saves = choices.saves; lines = [] }

-- a client that remembers this, in a world that tells these effects and counts
abbrev pub at_desk : List Effect → Faults → List (List ℕ) → Bool → Desk Bool (Unit {0}) (Unit {0})
at_desk effects faults lines talked = record { told = Some effects; faults = faults; lines = lines; callbacks = remembers talked }

-- The client joined and followed its script, with the answers that the words give, and then the lines that it noted were printed.
pub record Joined (choices : Choices) (old new : Outside) (turns : ℕ) (ending : Ending) (effects : List Effect) : Type 0 where
  pub cookie : Cookie
  pub file : FileIs old.files choices.authority.now (λ bytes. HasCookie choices.socket.now bytes cookie)
  pub answer : Result ClientEnd JoinFault
  pub lines : List (List ℕ)
  pub last : Bool
  pub first : List Effect
  pub joins : Joins (AnswersIn answer choices) NoReasons Listens cookie choices.id.now choices.saves turns (at_desk [] old.faults [] false) (at_desk first new.faults lines last) answer
  pub printed : Result (Unit {0}) Failure
  pub after : List Effect
  pub prints : PrintsFirst lines printed after
  pub cause : printed ≡ Err Failed → Rose old.faults.console new.faults.console
  pub parts : effects ≡ first ++ after
  pub ends : ending ≡ after_printing printed (end_of answer)

-- The client joined, or it stopped before it said anything.
abbrev pub RunsBy : Choices → Outside → Outside → ℕ → Ending → List Effect → Type 0
RunsBy choices old new turns ending effects = Joined choices old new turns ending effects ⊎ ((fault : Fault) × (ending ≡ Err fault) × IsEarly choices old new fault × (effects ≡ []))

-- A run of these words ended so, and its effects are these.
abbrev pub Runs : List (List ℕ) → Outside → Outside → ℕ → Ending → List Effect → Type 0
Runs words old new turns (Err BadWords) effects = AreBad words × (effects ≡ [])
Runs words old new turns ending effects = ((choices : Choices) × AreChosen words choices × RunsBy choices old new turns ending effects) ⊎ ((ending ≡ Err NoMemory) × (effects ≡ []))

-- A call with these words answered this status: it ran, and then tried its ending's line once.
abbrev pub Answers : List (List ℕ) → Outside → Outside → ℕ → ℕ → List Effect → Type 0
Answers words old new turns = AnswersAs (Runs words old new turns) (status_by fault_status) (line_by fault_line)
