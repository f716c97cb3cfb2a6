-- What `smwrap` does to its two worlds, the peer and the files, and what each of its statuses says.
use Rattle.std.specs.Prelude.{◌≡◌, ◌≢◌, ◌⊎◌, ℕ, Bool, false, List, [], ◌∷◌, ◌++◌, map, codes, Option, Some, Err}
use Rattle.sm_world.specs.Outside.{Added, Outside, Rose, adds}
use Rattle.owned_lists.specs.declared.commands.Command.{Command}
use Rattle.sm_world.specs.declared.effects.Effect.{Effect}
use Rattle.sm_world.specs.declared.effects.Effect.TheVariants.{Published, Started}
use Rattle.client_machine.specs.declared.saves.SaveAnswer.{SaveAnswer}
use Rattle.ice_cookie.specs.declared.cookies.Cookie.{Cookie}
use Rattle.named_joiner.specs.Script.{Callbacks}
use Rattle.named_joiner.specs.declared.callbacks.NamedAsk.{NamedAsk}
use Rattle.program_frame.specs.Programs.{AnswersAs, status_by, line_by}
use Rattle.smclient_app.specs.Entries.{HasCookie, HasNone}
use Rattle.state_saver.specs.Files.{Holds}
use Rattle.state_saver.specs.Plans.{copy_path}
use Rattle.state_saver.specs.Saving.{AnswersSo, Shelf, shelf}
use Rattle.state_saver.specs.declared.plan.SavePlan.{SavePlan}
use Rattle.smwrap_app.specs.Copies.{Copy, MakesCopies, copied}
use Rattle.smwrap_app.specs.Faults.{Ending, fault_line, fault_status}
use Rattle.smwrap_app.specs.Running.{Joins}
use Rattle.smwrap_app.specs.Words.{AreBad, AreChosen, Chosen}
use Rattle.smwrap_app.specs.declared.fault.Fault.{Fault}
use Rattle.smwrap_app.specs.declared.fault.Fault.TheVariants.{BadWords, Refused, StreamEnded, NoEntry, Link, Spent, NoMemory, Malformed, Disk}

-- the words before the number in the command that starts the program again
abbrev pub words_before : Chosen → List (List ℕ)
words_before chosen = codes "smwrap" ∷ codes "--socket" ∷ chosen.socket ∷ codes "--authority" ∷ chosen.authority ∷ codes "--state" ∷ chosen.state ∷ []

-- what is saved, and how the program is started again
abbrev pub plan_by : Chosen → SavePlan
plan_by chosen = record { state = chosen.state; from = chosen.from; program = chosen.program; before = words_before chosen }

-- the command that is started: the program's words, no directory and no environment
abbrev pub command_by : List (List ℕ) → Command
command_by words = record { words = words; directory = []; environment = [] }

-- The authority file has this cookie for the manager's socket.
pub record LetsIn (chosen : Chosen) (files : Outside) (cookie : Cookie) : Type 0 where
  pub bytes : List ℕ
  pub held : Holds files chosen.authority bytes
  pub has : HasCookie chosen.socket bytes cookie

-- It has none.
pub record LetsNobodyIn (chosen : Chosen) (files : Outside) : Type 0 where
  pub bytes : List ℕ
  pub held : Holds files chosen.authority bytes
  pub none : HasNone chosen.socket bytes

-- Where the program begins with a copy, that takes the place of its state.
abbrev pub PutsBack : SavePlan → Outside → List Effect → Type 0
PutsBack plan files effects =
    ((plan.from ≡ 0) × (effects ≡ [])) ⊎ ((plan.from ≢ 0) × ((bytes : List ℕ) × Holds files (copy_path plan.state plan.from) bytes × (effects ≡ Published plan.state bytes ∷ [])))

-- What a call did that stopped before the program was started, and why.
abbrev pub StopsEarly : Chosen → Outside → Outside → Fault → List Effect → Type 0
StopsEarly chosen old new NoEntry effects = LetsNobodyIn chosen old × (effects ≡ [])
StopsEarly chosen old new Disk effects = Rose old.faults.disk new.faults.disk × (effects ≡ [])
StopsEarly chosen old new NoMemory effects = (effects ≡ []) ⊎ PutsBack (plan_by chosen) old effects
StopsEarly chosen old new BadWords effects = ⊥
StopsEarly chosen old new Refused effects = ⊥
StopsEarly chosen old new StreamEnded effects = ⊥
StopsEarly chosen old new Link effects = ⊥
StopsEarly chosen old new Spent effects = ⊥
StopsEarly chosen old new Malformed effects = ⊥

-- The program was started once, with its state put back; the spawner refused it only where its count rose.
pub record Begins (chosen : Chosen) (old new : Outside) (cookie : Cookie) (effects : List Effect) : Type 0 where
  pub lets_in : LetsIn chosen old cookie
  pub put : List Effect
  pub puts : PutsBack (plan_by chosen) old put
  pub succeeded : Bool
  pub cause : succeeded ≡ false → Rose old.faults.spawner new.faults.spawner
  pub parts : effects ≡ put ++ (Started (command_by chosen.program) succeeded ∷ [])
  pub files : new.files ≡ old.files

-- The callback that saves is one saver over the files, and the one that says why the client closes gives no reasons.
abbrev pub SavesBy : SavePlan → Shelf → NamedAsk → Option SaveAnswer → Shelf → Type 0
SavesBy plan old ask answer new = AnswersSo answer plan ask old new

abbrev pub NoReasons : Unit {0} → Option (List (List ℕ)) → Unit {0} → Type 0
NoReasons old reasons new = reasons ≡ Some []

abbrev pub keeping : ℕ → Outside → Callbacks Shelf (Unit {0})
keeping number outside = record { save = shelf number outside; die = tt }

-- The client joined with files that are so, and made these copies.
pub record Follows (chosen : Chosen) (cookie : Cookie) (turns : ℕ) (peer_old peer_new files_old files_new : Outside) (ending : Ending) (copies : List Copy) (effects : List Effect) : Type 0 where
  pub last : ℕ
  pub joins : Joins (SavesBy (plan_by chosen)) NoReasons cookie chosen.id turns peer_old peer_new (keeping chosen.from files_old) (keeping last files_new) ending effects
  pub makes : MakesCopies (plan_by chosen) files_old joins.done copies

-- The connection failed, or memory was wanting, before the client said anything.
pub record NeverJoins (peer_old peer_new : Outside) (ending : Ending) (copies : List Copy) (effects : List Effect) : Type 0 where
  pub none : copies ≡ []
  pub silent : effects ≡ []
  pub cause : ((ending ≡ Err Link) × Rose peer_old.faults.links peer_new.faults.links) ⊎ (ending ≡ Err NoMemory)

-- The program was started once, and then the client joined, or couldn't. The files' effects behind the start are the copies.
pub record Wraps (chosen : Chosen) (turns : ℕ) (peer_old peer_new files_old files_new : Outside) (ending : Ending) (effects : List Effect) : Type 0 where
  pub cookie : Cookie
  -- the files as the program is started
  pub middle : Outside
  pub first : List Effect
  pub begins : Begins chosen files_old middle cookie first
  pub told : middle.told ≡ adds files_old.told first
  pub copies : List Copy
  pub parts : effects ≡ first ++ map (copied (plan_by chosen)) copies
  pub run : Added peer_old.told peer_new.told (λ es. Follows chosen cookie turns peer_old peer_new middle files_new ending copies es ⊎ NeverJoins peer_old peer_new ending copies es)

-- Nothing was done to the peer, and the program wasn't started.
pub record Stops (chosen : Chosen) (peer_old peer_new files_old files_new : Outside) (ending : Ending) (effects : List Effect) : Type 0 where
  pub fault : Fault
  pub is : ending ≡ Err fault
  pub early : StopsEarly chosen files_old files_new fault effects
  pub peer : peer_new ≡ peer_old

abbrev pub RunsBy : Chosen → ℕ → Outside → Outside → Outside → Outside → Ending → List Effect → Type 0
RunsBy chosen turns peer_old peer_new files_old files_new ending effects = Wraps chosen turns peer_old peer_new files_old files_new ending effects ⊎ Stops chosen peer_old peer_new files_old files_new ending effects

-- Nothing was done at all.
pub record IsIdle (peer_old peer_new : Outside) (effects : List Effect) : Type 0 where
  pub none : effects ≡ []
  pub peer : peer_new ≡ peer_old

-- A run of these words ended so, and these are its effects on the files. Words that ask for nothing end as bad words, and only those.
abbrev pub Runs : List (List ℕ) → ℕ → Outside → Outside → Outside → Outside → Ending → List Effect → Type 0
Runs words turns peer_old peer_new files_old files_new (Err BadWords) effects = AreBad words × IsIdle peer_old peer_new effects
Runs words turns peer_old peer_new files_old files_new ending effects =
    ((chosen : Chosen) × AreChosen words chosen × RunsBy chosen turns peer_old peer_new files_old files_new ending effects) ⊎ ((ending ≡ Err NoMemory) × IsIdle peer_old peer_new effects)

-- A call with these words answered this status: it ran, and then tried its ending's line once.
abbrev pub Answers : List (List ℕ) → ℕ → Outside → Outside → Outside → Outside → ℕ → List Effect → Type 0
Answers words turns peer_old peer_new files_old files_new = AnswersAs (Runs words turns peer_old peer_new files_old files_new) (status_by fault_status) (line_by fault_line)
