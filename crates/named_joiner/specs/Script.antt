-- The script of a client whose callbacks are told its ID and may want for memory: what it does about the parts of its
-- manager's stream, given what its callbacks say.
use Rattle.std.specs.Prelude.{ℕ, Bool, true, false, List, [], ◌∷◌, ◌++◌, map, Option, None, Some, unwrap_or, if◌then◌else◌}
use Rattle.ice_cookie.specs.declared.cookies.Cookie.{Cookie}
use Rattle.ice_values.specs.declared.numbers.Endian.TheVariants.{Lsb}
use Rattle.ice_framing.specs.Frames.{beginning}
use Rattle.ice_messages.specs.declared.message.IceMessage.TheVariants.{ByteOrder}
use Rattle.client_machine.specs.Phases.{ClientState, is_owing}
use Rattle.client_machine.specs.Saves.{at_stage}
use Rattle.client_machine.specs.declared.saves.SaveAnswer.{SaveAnswer}
use Rattle.client_machine.specs.declared.saves.SaveAsk.{SaveAsk}
use Rattle.client_machine.specs.declared.saves.Stage.{Stage}
use Rattle.client_engine.specs.Answering.{after_answer, after_owed, answer_messages, changed, closes, owed_messages, stage_again, stopped}
use Rattle.client_engine.specs.Cutting.{opening}
use Rattle.client_engine.specs.Driving.{Run, Step, behind, piece_taken, reacting, stays}
use Rattle.client_engine.specs.Places.{id_at, phase_at}
use Rattle.client_engine.specs.declared.hearing.Cue.{Cue}
use Rattle.client_engine.specs.declared.hearing.Cue.TheVariants.{Nothing, Registered, Save, Cancelled, Complete, Die, Properties, Refused as IsRefused, Malformed as IsMalformed}
use Rattle.client_engine.specs.declared.hearing.Heard.{Heard}
use Rattle.protocol_messages.specs.declared.message.Message.{Message}
use Rattle.protocol_messages.specs.declared.message.Message.TheVariants.{Ice}
use Rattle.client_engine.specs.declared.place.Talk.{Talk}
use Rattle.named_joiner.specs.declared.callbacks.NamedAsk.{NamedAsk}
use Rattle.named_joiner.specs.declared.ends.Ending.{Ending}
use Rattle.named_joiner.specs.declared.ends.Ending.TheVariants.{Ended, Starved}
use Rattle.named_joiner.specs.declared.ends.NamedEnd.TheVariants.{Died, Refused, Malformed}

-- the callbacks of a client, as they are at a moment
pub record Callbacks (S D : Type 0) : Type 0 where
  pub save : S
  pub die : D

-- What the callbacks say while one part of the stream is taken, as far as they are asked: to a save, to the same save once the
-- client has talked to the user, and as reasons to close. None says that memory was wanting.
pub record Replies : Type 0 where
  pub first : Option SaveAnswer
  pub again : Option SaveAnswer
  pub reasons : Option (List (List ℕ))

-- where nothing is asked
abbrev pub unasked : Replies
unasked = record { first = None; again = None; reasons = None }

-- One thing that a client does.
pub data Entry : Type 0 where
  -- a message is sent
  Says : Message → Entry
  -- under its ID it is asked how it saves, and this is its answer
  AsksSave : NamedAsk → Option SaveAnswer → Entry
  -- it is asked why it closes, and these are its reasons
  AsksReasons : Option (List (List ℕ)) → Entry

-- How far a client has come, and how it is spent, once it is.
pub record Keeper : Type 0 where
  pub talk : Talk
  pub ending : Option Ending

abbrev pub talk_of : Keeper → Talk
talk_of keeper = keeper.talk

-- it stands there
abbrev pub stand_at : Talk → Keeper → Keeper
stand_at talk keeper = record keeper { talk = talk }

-- these things are done, and it is so then
abbrev pub doing : List Entry → Keeper → Step Keeper Entry
doing line keeper = record { line = line; next = keeper }

-- what becomes of the client as XSMP knows it
abbrev pub on_client : (ClientState → ClientState) → Keeper → Keeper
on_client change keeper = record keeper { talk = changed change keeper.talk }

-- it is spent
abbrev pub over : Ending → Keeper → Keeper
over ending keeper = record keeper { ending = Some ending }

-- and takes nothing more
abbrev pub closed : Ending → Keeper → Keeper
closed ending keeper = record keeper { talk = stopped keeper.talk; ending = Some ending }

-- ---- a save

-- the ask with the ID that the manager gave
abbrev pub named : Keeper → SaveAsk → NamedAsk
named keeper ask = record { id = unwrap_or (id_at keeper.talk.place) []; ask = ask }

abbrev pub answer_line : NamedAsk → SaveAnswer → List Entry
answer_line ask answer = AsksSave ask (Some answer) ∷ map Says (answer_messages answer)

-- the client's answer is said; one that wants for memory ends it
abbrev pub answered : Keeper → SaveAsk → Option SaveAnswer → Step Keeper Entry
answered keeper ask None = doing (AsksSave (named keeper ask) None ∷ []) (closed Starved keeper)
answered keeper ask (Some answer) = doing (answer_line (named keeper ask) answer) (on_client (after_answer answer) keeper)

abbrev pub answered_again : Keeper → SaveAsk → Option SaveAnswer → Option Stage → Step Keeper Entry
answered_again keeper ask answer None = stays keeper
answered_again keeper ask answer (Some stage) = answered keeper (at_stage stage ask) answer

-- once the client has talked to the user it is asked again
abbrev pub next_stage : Option SaveAnswer → Stage → Option Stage
next_stage None stage = None
next_stage (Some answer) stage = stage_again stage

abbrev pub saved : Keeper → SaveAsk → Replies → Step Keeper Entry
saved keeper ask r = behind (answered keeper ask r.first).line (answered_again (answered keeper ask r.first).next ask r.again (next_stage r.first ask.stage))

-- ---- other cues

-- a client whose save was cancelled before it answered answers it now
abbrev pub cancelled : Keeper → Bool → Step Keeper Entry
cancelled keeper owing = doing (map Says (owed_messages owing)) (on_client (after_owed owing) keeper)

-- the client is told to die, and closes
abbrev pub died : Keeper → Option (List (List ℕ)) → Step Keeper Entry
died keeper None = doing (AsksReasons None ∷ []) (closed Starved keeper)
died keeper (Some reasons) = doing (AsksReasons (Some reasons) ∷ Says (closes reasons) ∷ []) (closed (Ended Died) keeper)

-- what is done about a cue
abbrev pub cued : Keeper → Replies → Cue → Step Keeper Entry
cued keeper r Nothing = stays keeper
cued keeper r (Registered id) = stays keeper
cued keeper r (Save ask) = saved keeper ask r
cued keeper r Cancelled = cancelled keeper (is_owing (phase_at keeper.talk.place))
cued keeper r Complete = stays keeper
cued keeper r Die = died keeper r.reasons
cued keeper r (Properties list) = stays keeper
cued keeper r (IsRefused class) = doing [] (over (Ended (Refused class)) keeper)
cued keeper r (IsMalformed at) = doing [] (over (Ended (Malformed at)) keeper)

-- What a part of the stream brought: the client says what it says by itself, and then the cue is heeded.
abbrev pub reacts : Keeper → Heard → Replies → Step Keeper Entry
reacts keeper heard r = reacting stand_at Says cued keeper heard r

-- ---- pieces

-- a piece of the stream, and what the callbacks say as the parts are taken that it completes
pub record Came : Type 0 where
  pub bytes : List ℕ
  pub replies : List Replies

abbrev pub is_over : Option Ending → Bool
is_over (Some ending) = true
is_over None = false

-- what is done about a piece
abbrev pub piece_heard : Run Keeper → List ℕ → List Replies → Step (Run Keeper) Entry
piece_heard run bytes rs = piece_taken unasked talk_of reacts run bytes rs

-- what is done about pieces, one after the other; a client that is spent hears nothing more
abbrev pub script_from : Run Keeper → List Came → List Entry
script_from run [] = []
script_from run (came ∷ more) = if is_over run.keeper.ending then [] else ((piece_heard run came.bytes came.replies).line ++ script_from (piece_heard run came.bytes came.replies).next more)

-- how far the run is then
abbrev pub run_after : Run Keeper → List Came → Run Keeper
run_after run [] = run
run_after run (came ∷ more) = if is_over run.keeper.ending then run else run_after (piece_heard run came.bytes came.replies).next more

-- a client that has sent ByteOrder, and waits for the manager's
abbrev pub start : Cookie → List ℕ → Run Keeper
start cookie previous = record { standing = beginning; keeper = record { talk = opening cookie previous; ending = None } }

-- The whole script: ByteOrder at once, and then what the pieces bring.
abbrev pub script : Cookie → List ℕ → List Came → List Entry
script cookie previous cames = Says (Ice (ByteOrder Lsb)) ∷ script_from (start cookie previous) cames
