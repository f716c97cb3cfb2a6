-- Worked rows: each place of a keeper with what comes to it, and the talk from window to window.
use Rattle.std.specs.Prelude.{◌≡◌, ℕ, ◌+◌, Bool, true, false, List, [], ◌∷◌, ◌++◌, map, None, Some}
use Rattle.ice_setup.specs.declared.opener.Joined.{Joined as HasJoined}
use Rattle.ice_values.specs.declared.property.Property.{Property}
use Rattle.ice_values.specs.declared.saves.Dialog.TheVariants.{Normal}
use Rattle.ice_values.specs.declared.saves.SaveKind.TheVariants.{Both}
use Rattle.ice_values.specs.declared.saves.SaveStyle.TheVariants.{Any, Nothing as NoDialog}
use Rattle.xsmp_messages.specs.declared.message.XsmpMessage.TheVariants.{InteractDone, InteractRequest, SaveYourselfDone}
use Rattle.client_machine.specs.declared.phase.ClientPhase.{ClientPhase}
use Rattle.client_machine.specs.declared.phase.ClientPhase.TheVariants.{Idle, Interacting, Owing, Saving}
use Rattle.client_machine.specs.declared.saves.SaveAsk.{SaveAsk}
use Rattle.client_machine.specs.declared.saves.Stage.{Stage}
use Rattle.client_machine.specs.declared.saves.Stage.TheVariants.{First, Talking}
use Rattle.client_engine.specs.Answering.{closes, sets}
use Rattle.client_engine.specs.declared.hearing.Cue.TheVariants.{Cancelled, Complete, Die, Save}
use Rattle.client_engine.specs.declared.place.Counts.{Counts}
use Rattle.client_engine.specs.declared.place.Place.{Place}
use Rattle.client_engine.specs.declared.place.Place.TheVariants.{Speaking, Stopped}
use Rattle.protocol_messages.specs.declared.message.Message.TheVariants.{Xsmp}
use Rattle.program_keeper.specs.Due.{Came, happened}
use Rattle.program_keeper.specs.Due.Came.{Cued, Shown, HasEnded, HasFailed, Passed}
use Rattle.program_keeper.specs.Programs.{fresh}
use Rattle.program_keeper.specs.Script.{Keeper, sends}
use Rattle.program_keeper.specs.Talking.{asked_first, start, turn_taken}
use Rattle.program_keeper.specs.declared.acts.KeeperAct.{KeeperAct}
use Rattle.program_keeper.specs.declared.acts.KeeperAct.TheVariants.{Close, Drop, Ping, Start, Term}
use Rattle.program_keeper.specs.declared.program.Life.{Life}
use Rattle.program_keeper.specs.declared.program.Life.TheVariants.{Here, Starting, Gone}
use Rattle.program_keeper.specs.declared.program.Outcome.{Outcome}
use Rattle.program_keeper.specs.declared.program.Outcome.TheVariants.{Open, Agreed, Closed}
use Rattle.program_keeper.specs.declared.program.Program.{Program}
use Rattle.program_keeper.specs.declared.program.Stay.TheVariants.{Ending, Ended}
use Rattle.program_keeper.specs.declared.talk.Move.{Move}
use Rattle.program_keeper.specs.declared.talk.Move.TheVariants.{Agree, Refuse, Close as ToClose, Show as ToShow, Wait}
use Rattle.program_keeper.specs.declared.talk.UserTalk.{UserTalk}
use Rattle.program_keeper.specs.declared.windows.Window.{Window}
use Rattle.program_keeper.specs.declared.windows.WindowKind.TheVariants.{Main, Aux, Fixed}

-- ---- the talk

abbrev pub main : ℕ → Window
main number = record { number = number; kind = Main; modal = false; over = None; title = 0; touched = 0; pings = true }

-- the same window under another title, and one in which a key was pressed
abbrev pub renamed : Window → Window
renamed window = record window { title = window.title + 1 }

abbrev pub touched : Window → Window
touched window = record window { touched = window.touched + 1 }

-- a dialog of another window, modal or not
abbrev pub dialog : Bool → ℕ → ℕ → Window
dialog modal number over = record { number = number; kind = Aux; modal = modal; over = Some over; title = 0; touched = 0; pings = true }

abbrev pub panel : Window
panel = record { number = 9; kind = Fixed; modal = false; over = None; title = 0; touched = 0; pings = false }

-- the window 1 was asked among these, and it was calm for so many milliseconds, of so many since then
abbrev pub asked : List Window → ℕ → ℕ → UserTalk
asked windows calm waited = record (asked_first (main 1) windows) { calm = calm; waited = waited }

abbrev pub move_of : List Window → UserTalk → Move
move_of windows talk = (turn_taken windows talk).move

pub record TalkRows : Type 0 where
  pub nothing : move_of [] start ≡ Agree
  pub fixed : move_of (panel ∷ []) start ≡ Agree
  pub lowest : move_of (main 2 ∷ main 1 ∷ []) start ≡ ToClose 1
  pub busy : move_of (main 1 ∷ main 2 ∷ dialog false 3 1 ∷ []) start ≡ ToClose 2
  pub before : move_of (main 1 ∷ dialog true 3 1 ∷ []) start ≡ ToShow 3
  pub new : move_of (main 1 ∷ dialog false 3 1 ∷ []) (asked (main 1 ∷ []) 0 0) ≡ ToShow 3
  pub old : move_of (main 1 ∷ dialog false 3 1 ∷ []) (asked (main 1 ∷ dialog false 3 1 ∷ []) 0 0) ≡ Wait
  pub second : move_of (main 2 ∷ []) (asked (main 1 ∷ main 2 ∷ []) 0 0) ≡ ToClose 2
  pub silent : move_of (main 1 ∷ []) (asked (main 1 ∷ []) 99000 4999) ≡ Wait
  pub shown : move_of (main 1 ∷ []) (asked (main 1 ∷ []) 99000 5000) ≡ ToShow 1
  pub seen : move_of (main 1 ∷ []) (record (asked (main 1 ∷ []) 4000 9000) { seen = true }) ≡ Refuse
  pub hasty : move_of (main 1 ∷ []) (record (asked (main 1 ∷ []) 3999 9000) { seen = true }) ≡ Wait
  pub again : move_of (renamed (main 1) ∷ []) (asked (main 1 ∷ []) 4000 4000) ≡ ToClose 1
  pub enough : move_of (renamed (main 1) ∷ []) (record (asked (main 1 ∷ []) 4000 4000) { again = 3 }) ≡ Refuse
  pub typing : move_of (touched (main 1) ∷ []) (asked (main 1 ∷ []) 9999 9999) ≡ Wait
  pub typed : move_of (touched (main 1) ∷ []) (asked (main 1 ∷ []) 10000 10000) ≡ Refuse

-- ---- the keeper

-- a logout that allows talk, at a stage of it, and one that doesn't
abbrev pub logout : Stage → SaveAsk
logout stage = record { stage = stage; kind = Both; shutdown = true; style = Any; fast = false }

abbrev pub forced : SaveAsk
forced = record { stage = First; kind = Both; shutdown = true; style = NoDialog; fast = false }

-- a program with the window 1, or none; how it is, and how it went into the logout
abbrev pub program : List Window → Life → Outcome → Program
program windows life outcome = record (fresh windows) { life = life; outcome = outcome }

-- what comes to a keeper in a phase, and one that is told to die
module _ (joined : HasJoined) (counts : Counts) (id : List ℕ) (set : List Property) where
  abbrev pub at : Place → Program → Keeper
  at place known = record { talk = record { place = place; counts = counts }; set = set; program = known }

  abbrev pub in_phase : ClientPhase → Program → Keeper
  in_phase phase known = at (Speaking joined (record { phase = phase; id = id; asked = logout First })) known

  abbrev pub acts : Came → Keeper → List KeeperAct
  acts came keeper = (happened came keeper).line

  abbrev pub leaves : List KeeperAct
  leaves = sends (closes []) ∷ Drop ∷ []

  abbrev pub says_set : List KeeperAct
  says_set = map sends (sets set)

  -- in no save
  pub record IdleRows : Type 0 where
    pub logout : acts (Cued (Save (logout First))) (in_phase Saving (program (main 1 ∷ []) Here Open)) ≡ map sends (sets set ++ Xsmp (InteractRequest Normal) ∷ [])
    pub save : acts (Cued (Save forced)) (in_phase Saving (program (main 1 ∷ []) Here Open)) ≡ map sends (sets set ++ Xsmp (SaveYourselfDone true) ∷ [])
    pub ended : acts HasEnded (in_phase Idle (program (main 1 ∷ []) Here Open)) ≡ leaves
    pub bare : acts (Passed 1 true) (in_phase Idle (record (program [] Here Open) { alone = 4999 })) ≡ leaves
    pub early : acts (Passed 1 true) (in_phase Idle (record (program [] Here Open) { alone = 4998 })) ≡ []
    pub old : acts HasEnded (in_phase Idle (program [] Starting Open)) ≡ []
    pub late : acts (Passed 1 true) (in_phase Idle (record (program [] Starting Open) { alone = 29999 })) ≡ leaves
    pub failed : acts HasFailed (in_phase Idle (program [] Starting Open)) ≡ leaves

  -- with the token
  pub record TalkingRows : Type 0 where
    pub token : acts (Cued (Save (logout Talking))) (in_phase Interacting (program (main 1 ∷ []) Here Open)) ≡ Close 1 ∷ []
    pub gone : acts HasEnded (in_phase Interacting (program (main 1 ∷ []) Here Open)) ≡ map sends (Xsmp (InteractDone false) ∷ Xsmp (SaveYourselfDone true) ∷ [])
    pub starting : acts (Cued (Save (logout Talking))) (in_phase Interacting (program [] Starting Open)) ≡ []
    pub came : acts (Shown (main 1 ∷ [])) (in_phase Interacting (program [] Starting Open)) ≡ Close 1 ∷ []
    pub cancelled : acts (Cued Cancelled) (in_phase Owing (program (main 1 ∷ []) Here Open)) ≡ sends (Xsmp (SaveYourselfDone false)) ∷ []
    pub pinged : acts (Passed 1000 true) (in_phase Interacting (record (program (main 1 ∷ []) Here Open) { talk = asked (main 1 ∷ []) 0 0 })) ≡ Ping 1 ∷ []

  -- behind its answer: the logout is cancelled, which has it in no save again, or all have saved
  pub record AnsweredRows : Type 0 where
    pub stays : acts (Cued Cancelled) (in_phase Idle (program (main 1 ∷ []) Here Open)) ≡ []
    pub restarts : acts (Cued Cancelled) (in_phase Idle (program [] Gone Closed)) ≡ Start ∷ []
    pub left : acts (Cued Cancelled) (in_phase Idle (program [] Gone Agreed)) ≡ leaves
    pub shows : acts (Cued Cancelled) (in_phase Idle (program (main 1 ∷ []) Here Closed)) ≡ []
    pub complete : acts (Cued Complete) (in_phase Idle (program [] Gone Open)) ≡ leaves

  -- told to die
  pub record DyingRows : Type 0 where
    pub plain : acts (Cued Die) (at Stopped (program (main 1 ∷ []) Here Open)) ≡ Term ∷ []
    pub closed : acts (Cued Die) (at Stopped (program [] Here Closed)) ≡ []
    pub gone : acts (Cued Die) (at Stopped (program [] Gone Closed)) ≡ leaves
    pub late : acts (Passed 1 true) (at Stopped (record (program [] Here Closed) { stay = Ending 4999 })) ≡ Term ∷ []
    pub ended : acts HasEnded (at Stopped (record (program (main 1 ∷ []) Here Open) { stay = Ended })) ≡ leaves

-- All rows, for any connection, ID and properties.
pub record WorkedRows : Type 0 where
  pub talk : TalkRows
  pub idle : (joined : HasJoined) (counts : Counts) (id : List ℕ) (set : List Property) → IdleRows joined counts id set
  pub talking : (joined : HasJoined) (counts : Counts) (id : List ℕ) (set : List Property) → TalkingRows joined counts id set
  pub answered : (joined : HasJoined) (counts : Counts) (id : List ℕ) (set : List Property) → AnsweredRows joined counts id set
  pub dying : (joined : HasJoined) (counts : Counts) (id : List ℕ) (set : List Property) → DyingRows joined counts id set
