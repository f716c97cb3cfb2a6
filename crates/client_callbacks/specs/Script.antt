-- The client's script: what it does about the parts of its manager's stream, given what its callbacks say.
use Rattle.std.specs.Prelude.{ℕ, ◌-◌, Bool, true, false, List, [], ◌∷◌, ◌++◌, map, Option, None, Some, ◌==◌, if◌then◌else◌, codes}
use Rattle.ice_cookie.specs.declared.cookies.Cookie.{Cookie}
use Rattle.ice_values.specs.declared.numbers.Endian.TheVariants.{Lsb}
use Rattle.ice_framing.specs.Frames.{beginning}
use Rattle.ice_messages.specs.declared.message.IceMessage.TheVariants.{ByteOrder}
use Rattle.client_machine.specs.Phases.{ClientState, is_owing}
use Rattle.client_machine.specs.Saves.{at_stage}
use Rattle.client_machine.specs.declared.saves.SaveAnswer.{SaveAnswer}
use Rattle.client_machine.specs.declared.saves.SaveAsk.{SaveAsk}
use Rattle.client_machine.specs.declared.saves.Stage.{Stage}
use Rattle.client_engine.specs.Answering.{after_answer, after_owed, answer_messages, changed, closes, owed_messages, stage_again, stopped}
use Rattle.client_engine.specs.Cutting.{opening}
use Rattle.client_engine.specs.Driving.{Run, Step, behind, piece_taken, reacting, stays}
use Rattle.client_engine.specs.Places.{phase_at}
use Rattle.client_engine.specs.declared.hearing.Cue.{Cue}
use Rattle.client_engine.specs.declared.hearing.Cue.TheVariants.{Nothing, Registered, Save, Cancelled, Complete, Die, Properties, Refused as IsRefused, Malformed as IsMalformed}
use Rattle.client_engine.specs.declared.hearing.Heard.{Heard}
use Rattle.protocol_messages.specs.declared.message.Message.{Message}
use Rattle.protocol_messages.specs.declared.message.Message.TheVariants.{Ice}
use Rattle.client_engine.specs.declared.place.Talk.{Talk}
use Rattle.client_callbacks.specs.Answers.{Replies, unasked}
use Rattle.client_callbacks.specs.declared.ends.Ending.{Ending}
use Rattle.client_callbacks.specs.declared.ends.Ending.TheVariants.{Died, Closed, StreamEnded, Refused, Malformed}

-- One thing of a run.
pub data Entry : Type 0 where
  -- a receive gave these bytes, or the stream's end where there are none
  Hears : List ℕ → Entry
  -- a message is sent
  Says : Message → Entry
  -- the client is asked how it saves, and this is its answer
  AsksSave : SaveAsk → SaveAnswer → Entry
  -- the client is asked why it closes, and these are its reasons
  AsksReasons : List (List ℕ) → Entry
  -- the client is told that its save was cancelled
  TellsCancelled : Entry
  -- a line is noted
  Notes : List ℕ → Entry

-- A client whose callbacks are asked: how far it has come, how many saves it waits for still, and its end, once it is at it.
pub record Keeper : Type 0 where
  pub talk : Talk
  pub saves : ℕ
  pub ending : Option Ending

abbrev pub talk_of : Keeper → Talk
talk_of keeper = keeper.talk

-- it stands there
abbrev pub stand_at : Talk → Keeper → Keeper
stand_at talk keeper = record keeper { talk = talk }

-- these things are done, and it is so then
abbrev pub doing : List Entry → Keeper → Step Keeper Entry
doing line keeper = record { line = line; next = keeper }

-- what becomes of the client as XSMP knows it
abbrev pub on_client : (ClientState → ClientState) → Keeper → Keeper
on_client change keeper = record keeper { talk = changed change keeper.talk }

-- it is at its end
abbrev pub over : Ending → Keeper → Keeper
over ending keeper = record keeper { ending = Some ending }

-- and takes nothing more
abbrev pub closed : Ending → Keeper → Keeper
closed ending keeper = record keeper { talk = stopped keeper.talk; ending = Some ending }

-- ---- a save

abbrev pub answer_line : SaveAsk → SaveAnswer → List Entry
answer_line ask answer = AsksSave ask answer ∷ map Says (answer_messages answer)

-- the client's answer is said
abbrev pub answered : Keeper → SaveAsk → SaveAnswer → Step Keeper Entry
answered keeper ask answer = doing (answer_line ask answer) (on_client (after_answer answer) keeper)

-- once the client has talked to the user it is asked again
abbrev pub answered_again : Keeper → SaveAsk → SaveAnswer → Option Stage → Step Keeper Entry
answered_again keeper ask answer None = stays keeper
answered_again keeper ask answer (Some stage) = answered keeper (at_stage stage ask) answer

abbrev pub saved : Keeper → SaveAsk → Replies → Step Keeper Entry
saved keeper ask r = behind (answer_line ask r.first) (answered_again (on_client (after_answer r.first) keeper) ask r.again (stage_again ask.stage))

-- ---- other cues

-- a client whose save was cancelled before it answered answers it now
abbrev pub owes : Keeper → Bool
owes keeper = is_owing (phase_at keeper.talk.place)

abbrev pub cancelled : Keeper → Bool → Step Keeper Entry
cancelled keeper owing = doing (Notes (codes "cancelled") ∷ TellsCancelled ∷ map Says (owed_messages owing)) (on_client (after_owed owing) keeper)

-- one more save is complete, be it the last that the client waits for or not
abbrev pub completed : Keeper → Bool → Step Keeper Entry
completed keeper true = doing (Notes (codes "saved") ∷ Says (closes []) ∷ []) (closed Closed keeper)
completed keeper false = doing (Notes (codes "saved") ∷ []) (record keeper { saves = keeper.saves - 1 })

-- the client is told to die, and closes
abbrev pub died : Keeper → List (List ℕ) → Step Keeper Entry
died keeper reasons = doing (Notes (codes "died") ∷ AsksReasons reasons ∷ Says (closes reasons) ∷ []) (closed Died keeper)

-- what is done about a cue
abbrev pub cued : Keeper → Replies → Cue → Step Keeper Entry
cued keeper r Nothing = stays keeper
cued keeper r (Registered id) = doing (Notes (codes "id " ++ id) ∷ []) keeper
cued keeper r (Save ask) = saved keeper ask r
cued keeper r Cancelled = cancelled keeper (owes keeper)
cued keeper r Complete = completed keeper (keeper.saves == 1)
cued keeper r Die = died keeper r.reasons
cued keeper r (Properties list) = stays keeper
cued keeper r (IsRefused class) = doing [] (over (Refused class) keeper)
cued keeper r (IsMalformed at) = doing [] (over (Malformed at) keeper)

-- What a part of the stream brought: the client says what it says by itself, and then the cue is heeded.
abbrev pub reacts : Keeper → Heard → Replies → Step Keeper Entry
reacts keeper heard r = reacting stand_at Says cued keeper heard r

-- ---- a run

-- what a receive gave, and what the callbacks say as the parts are taken that it completes
pub record Came : Type 0 where
  pub bytes : List ℕ
  pub replies : List Replies

abbrev pub is_over : Option Ending → Bool
is_over (Some ending) = true
is_over None = false

-- the stream's end
abbrev pub ended : Run Keeper → Step (Run Keeper) Entry
ended run = record { line = []; next = record run { keeper = over (StreamEnded (phase_at run.keeper.talk.place)) run.keeper } }

-- what is done about a receive
abbrev pub turn : Run Keeper → List ℕ → List Replies → Step (Run Keeper) Entry
turn run [] rs = ended run
turn run (b ∷ bytes) rs = piece_taken unasked talk_of reacts run (b ∷ bytes) rs

-- each receive, and what is done about it; nothing more is received at the end
abbrev pub script_from : Run Keeper → List Came → List Entry
script_from run [] = []
script_from run (came ∷ more) = if is_over run.keeper.ending then [] else Hears came.bytes ∷ ((turn run came.bytes came.replies).line ++ script_from (turn run came.bytes came.replies).next more)

-- how far the run is then
abbrev pub run_after : Run Keeper → List Came → Run Keeper
run_after run [] = run
run_after run (came ∷ more) = if is_over run.keeper.ending then run else run_after (turn run came.bytes came.replies).next more

-- a client that sends ByteOrder, and then waits for the manager's
abbrev pub start : Cookie → List ℕ → ℕ → Run Keeper
start cookie previous saves = record { standing = beginning; keeper = record { talk = opening cookie previous; saves = saves; ending = None } }

-- The whole script: ByteOrder at once, and then what the receives bring.
abbrev pub script : Cookie → List ℕ → ℕ → List Came → List Entry
script cookie previous saves cames = Says (Ice (ByteOrder Lsb)) ∷ script_from (start cookie previous saves) cames
