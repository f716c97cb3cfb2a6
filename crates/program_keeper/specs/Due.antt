-- When a keeper does what it does.
use Rattle.std.specs.Prelude.{◌≡◌, ℕ, ◌⊎◌, IsTrue, is_some, Bool, true, false, not, ◌||◌, List}
use Rattle.std.specs.List.{AllByRecursion, list_any}
use Rattle.client_machine.specs.Phases.{is_owing}
use Rattle.client_machine.specs.declared.phase.ClientPhase.{ClientPhase}
use Rattle.client_machine.specs.declared.phase.ClientPhase.TheVariants.{Saving, SavingTwo, WantsTwo, Owing}
use Rattle.client_machine.specs.declared.saves.SaveAsk.{SaveAsk}
use Rattle.client_machine.specs.declared.saves.Stage.{Stage}
use Rattle.client_machine.specs.declared.saves.Stage.TheVariants.{First, Talking, TalkingTwo}
use Rattle.client_engine.specs.Driving.{Step}
use Rattle.client_engine.specs.Speaking.{HasPlace}
use Rattle.client_engine.specs.declared.hearing.Cue.{Cue}
use Rattle.client_engine.specs.declared.hearing.Cue.TheVariants.{Save, Cancelled, Complete, Die}
use Rattle.program_keeper.specs.Programs.{begun, has_main, is_closed, is_gone, is_open, is_over, noted_end, noted_failure, noted_windows, opened}
use Rattle.program_keeper.specs.Script.{Keeper, ended, ending, failed, heeded, is_talking, knows, moving, owing, passing, phase_of, pinging, restarting, settled, shown, ticked}
use Rattle.program_keeper.specs.Talking.{MayMove}
use Rattle.program_keeper.specs.Windows.{is_target}
use Rattle.program_keeper.specs.declared.acts.KeeperAct.{KeeperAct}
use Rattle.program_keeper.specs.declared.acts.KeeperAct.TheVariants.{Close, Term, Start}
use Rattle.program_keeper.specs.declared.program.Life.{Life}
use Rattle.program_keeper.specs.declared.program.Life.TheVariants.{Here, Starting, Gone}
use Rattle.program_keeper.specs.declared.program.Outcome.TheVariants.{Open}
use Rattle.program_keeper.specs.declared.talk.Move.{Move}
use Rattle.program_keeper.specs.declared.talk.Move.TheVariants.{Agree, Wait}
use Rattle.program_keeper.specs.declared.windows.Window.{Window}

-- What comes to a keeper: a cue of its manager's stream, other windows, the program's end, that it couldn't be started, and so many
-- milliseconds, in which it answered its pings or not.
pub data Came : Type 0 where
  Cued : Cue → Came
  Shown : List Window → Came
  HasEnded : Came
  HasFailed : Came
  Passed : ℕ → Bool → Came

-- what is done about it
abbrev pub happened : Came → Keeper → Step Keeper KeeperAct
happened (Cued cue) keeper = heeded keeper cue
happened (Shown windows) keeper = shown windows keeper
happened HasEnded keeper = ended keeper
happened HasFailed keeper = failed keeper
happened (Passed elapsed answered) keeper = ticked elapsed answered keeper

abbrev pub save_noted : Stage → Keeper → Keeper
save_noted Talking keeper = knows (begun keeper.program) keeper
save_noted TalkingTwo keeper = knows (begun keeper.program) keeper
save_noted stage keeper = keeper

abbrev pub cue_noted : Cue → Keeper → Keeper
cue_noted (Save ask) keeper = save_noted ask.stage keeper
cue_noted Cancelled keeper = (restarting (owing keeper).next).next
cue_noted Complete keeper = knows (opened keeper.program) keeper
cue_noted Die keeper = (ending keeper).next
cue_noted cue keeper = keeper

-- the keeper as it knows of this, before it goes on
abbrev pub noted : Came → Keeper → Keeper
noted (Cued cue) keeper = cue_noted cue keeper
noted (Shown windows) keeper = knows (noted_windows windows keeper.program) keeper
noted HasEnded keeper = knows (noted_end keeper.program) keeper
noted HasFailed keeper = knows (noted_failure keeper.program) keeper
noted (Passed elapsed answered) keeper = (passing elapsed answered (pinging elapsed keeper).next).next

-- A window is asked to close while the client has the token, and it is a main window of the program.
pub record MayAsk (keeper : Keeper) (number : ℕ) : Type 0 where
  pub token : IsTrue (is_talking keeper)
  pub main : IsTrue (list_any (is_target number) keeper.program.windows)

-- The program is ended as the client is told to die, where it didn't close its windows by itself; else as its time is over behind that.
abbrev pub MayEnd : Came → Keeper → Type 0
MayEnd (Cued Die) keeper = IsTrue (is_open keeper.program.outcome)
MayEnd (Passed elapsed answered) keeper = IsTrue (is_over elapsed keeper.program.stay)
MayEnd came keeper = ⊥

-- The program is started as a logout is cancelled in which it was asked to close, and it has no main window or has gone.
pub record MayRestart (keeper : Keeper) : Type 0 where
  pub closed : IsTrue (is_closed keeper.program.outcome)
  pub bare : IsTrue (is_gone keeper.program.life || not (has_main keeper.program.windows))

abbrev pub MayStart : Came → Keeper → Type 0
MayStart (Cued Cancelled) keeper = MayRestart keeper
MayStart came keeper = ⊥

abbrev pub IsDue : Came → Keeper → KeeperAct → Type 0
IsDue came keeper (Close number) = MayAsk (noted came keeper) number
IsDue came keeper Term = MayEnd came keeper
IsDue came keeper Start = MayStart came keeper
IsDue came keeper act = Unit {0}

-- Whatever comes to a keeper, it asks windows to close, ends the program and starts it only where that is due.
abbrev pub ActsAreDue : Type 0
ActsAreDue = (came : Came) (keeper : Keeper) → AllByRecursion (IsDue came keeper) (happened came keeper).line

-- what a move is by: the talk with a program that is there, the end of one that has gone, and the wait for one that was started
abbrev pub MayTalk : Life → Keeper → Move → Type 0
MayTalk Here keeper move = MayMove keeper.program.talk keeper.program.windows move
MayTalk Starting keeper move = move ≡ Wait
MayTalk Gone keeper move = move ≡ Agree

-- a move is made that may be made, and nothing else
pub record Moves (keeper : Keeper) : Type 0 where
  pub move : Move
  pub behind : Keeper
  pub may : MayTalk keeper.program.life keeper move
  pub made : settled keeper ≡ moving move behind

-- While the client has the token, each thing that is done is a move that may be made.
abbrev pub TalksEndRightly : Type 0
TalksEndRightly = (keeper : Keeper) → IsTrue (is_talking keeper) → Moves keeper

-- no SaveYourself waits for the keeper: it is answered, or the client waits for the token, or has it
abbrev pub is_answered : ClientPhase → Bool
is_answered Saving = false
is_answered SavingTwo = false
is_answered WantsTwo = false
is_answered Owing = false
is_answered phase = true

-- what may come: a save that is to be answered has its place, and behind a save that was cancelled the answer may be owed
abbrev pub MayCome : Came → Keeper → Type 0
MayCome (Cued (Save ask)) keeper = HasPlace (Save ask) keeper.talk.place
MayCome (Cued Cancelled) keeper = IsTrue (is_answered (phase_of keeper) || is_owing (phase_of keeper))
MayCome came keeper = IsTrue (is_answered (phase_of keeper))

-- Behind all that is done about what came, no SaveYourself waits for the keeper.
abbrev pub SavesAreAnswered : Type 0
SavesAreAnswered = (came : Came) (keeper : Keeper) → MayCome came keeper → IsTrue (is_answered (phase_of (happened came keeper).next))

-- A program counts as closed for a logout only by the talk of that logout, in which a window was asked to close: a new save and a
-- cancelled one forget it. So it is started once at most for each.
pub record StartsAreEarned : Type 0 where
  pub begun : (ask : SaveAsk) (keeper : Keeper) → (happened (Cued (Save (record ask { stage = First }))) keeper).next.program.outcome ≡ Open
  pub spent : (keeper : Keeper) → is_talking (noted (Cued Cancelled) keeper) ≡ false → (happened (Cued Cancelled) keeper).next.program.outcome ≡ Open
  pub earned : (came : Came) (keeper : Keeper) → IsTrue (is_closed (happened came keeper).next.program.outcome)
      → IsTrue (is_closed keeper.program.outcome) ⊎ (IsTrue (is_talking (noted came keeper)) × IsTrue (is_some (happened came keeper).next.program.talk.asked))
