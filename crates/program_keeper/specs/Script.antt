-- The script of a keeper: what is said and done for a program that knows no session, about its manager's stream, its windows, its end
-- and time.
use Rattle.std.specs.Prelude.{ℕ, Bool, true, false, ◌&&◌, cond, List, [], ◌∷◌, map, Option, None, Some, Result, Ok, Err}
use Rattle.ice_cookie.specs.declared.cookies.Cookie.{Cookie}
use Rattle.ice_framing.specs.Frames.{beginning}
use Rattle.ice_values.specs.declared.property.Property.{Property}
use Rattle.ice_values.specs.declared.saves.Dialog.TheVariants.{Normal}
use Rattle.ice_values.specs.declared.saves.SaveStyle.{SaveStyle}
use Rattle.ice_values.specs.declared.saves.SaveStyle.TheVariants.{Any}
use Rattle.client_machine.specs.Phases.{is_interacting, is_owing}
use Rattle.client_machine.specs.Saves.{step_request}
use Rattle.client_machine.specs.declared.phase.ClientPhase.{ClientPhase}
use Rattle.client_machine.specs.declared.phase.ClientPhase.TheVariants.{Idle}
use Rattle.client_machine.specs.declared.requests.AskRefusal.{AskRefusal}
use Rattle.client_machine.specs.declared.requests.Request.{Request}
use Rattle.client_machine.specs.declared.requests.Request.TheVariants.{Close as AskClose}
use Rattle.client_machine.specs.declared.saves.SaveAsk.{SaveAsk}
use Rattle.client_machine.specs.declared.saves.Stage.{Stage}
use Rattle.client_machine.specs.declared.saves.Stage.TheVariants.{First, Second, Talking, TalkingTwo}
use Rattle.client_machine.specs.declared.saves.Step.{Step as SaveStep}
use Rattle.client_machine.specs.declared.saves.Step.TheVariants.{Done, Interact, Talked}
use Rattle.client_engine.specs.Answering.{after_answer, after_owed, after_request, answer_messages, answered_at, changed, closes, owed_messages}
use Rattle.client_engine.specs.Cutting.{opening}
use Rattle.client_engine.specs.Driving.{Run, Step, behind, piece_taken, reacting, stays}
use Rattle.client_engine.specs.Messages.{spelled}
use Rattle.client_engine.specs.Places.{phase_at}
use Rattle.client_engine.specs.declared.hearing.Cue.{Cue}
use Rattle.client_engine.specs.declared.hearing.Cue.TheVariants.{Nothing, Registered, Save, Cancelled, Complete, Die, Properties, Refused, Malformed}
use Rattle.client_engine.specs.declared.hearing.Heard.{Heard}
use Rattle.client_engine.specs.declared.place.Talk.{Talk}
use Rattle.protocol_messages.specs.declared.message.Message.{Message}
use Rattle.program_keeper.specs.Programs.{agreed, begun, cancelled as cancelled_program, died, fresh, is_ended_at_once, is_joined, is_leaving, is_over, is_restart, left, noted_end, noted_failure, noted_time, noted_windows, opened, talked}
use Rattle.program_keeper.specs.Talking.{ping_due, turn_taken}
use Rattle.program_keeper.specs.declared.acts.KeeperAct.{KeeperAct}
use Rattle.program_keeper.specs.declared.acts.KeeperAct.TheVariants.{Send, Close, Show, Ping, Term, Start, Drop}
use Rattle.program_keeper.specs.declared.program.Life.{Life}
use Rattle.program_keeper.specs.declared.program.Life.TheVariants.{Here, Starting, Gone}
use Rattle.program_keeper.specs.declared.program.Program.{Program}
use Rattle.program_keeper.specs.declared.talk.Move.{Move}
use Rattle.program_keeper.specs.declared.talk.Move.TheVariants.{Agree, Refuse, Close as ToClose, Show as ToShow, Wait}
use Rattle.program_keeper.specs.declared.windows.Window.{Window}

-- How far the program's client has come, what it sets as it saves, and what is known of the program.
pub record Keeper : Type 0 where
  pub talk : Talk
  pub set : List Property
  pub program : Program

abbrev pub talk_of : Keeper → Talk
talk_of keeper = keeper.talk

-- it stands there
abbrev pub stand_at : Talk → Keeper → Keeper
stand_at talk keeper = record keeper { talk = talk }

-- so the program is known then
abbrev pub knows : Program → Keeper → Keeper
knows program keeper = record keeper { program = program }

-- these things are done, and it is so then
abbrev pub doing : List KeeperAct → Keeper → Step Keeper KeeperAct
doing line keeper = record { line = line; next = keeper }

-- one thing is done, and then another
abbrev pub followed : Step Keeper KeeperAct → (Keeper → Step Keeper KeeperAct) → Step Keeper KeeperAct
followed first next = behind first.line (next first.next)

-- a message is sent
abbrev pub sends : Message → KeeperAct
sends message = Send (spelled message)

abbrev pub phase_of : Keeper → ClientPhase
phase_of keeper = phase_at keeper.talk.place

-- the client has the token: Interact came, and InteractDone wasn't said since
abbrev pub is_talking : Keeper → Bool
is_talking keeper = is_interacting (phase_of keeper)

abbrev pub is_idle_phase : ClientPhase → Bool
is_idle_phase Idle = true
is_idle_phase phase = false

-- the client is in no save
abbrev pub is_idle : Keeper → Bool
is_idle keeper = is_idle_phase (phase_of keeper)

-- ---- what is said

-- a request is sent where it has its place, and another isn't
abbrev pub sent : Result Message AskRefusal → List KeeperAct
sent (Ok message) = sends message ∷ []
sent (Err refusal) = []

abbrev pub requests : Request → Keeper → Step Keeper KeeperAct
requests request keeper = doing (sent (answered_at request keeper.talk.place)) (stand_at (after_request request keeper.talk) keeper)

abbrev pub says_step : SaveStep → Keeper → Step Keeper KeeperAct
says_step step keeper = requests (step_request step) keeper

-- the talk is over: the logout is cancelled or not, and the program has saved
abbrev pub finishing : Bool → Keeper → Step Keeper KeeperAct
finishing cancel keeper = followed (says_step (Talked cancel) keeper) (says_step (Done true))

-- a save is answered by what the client sets and its step
abbrev pub answering : SaveStep → Keeper → Step Keeper KeeperAct
answering step keeper = doing (map sends (answer_messages (record { set = keeper.set; step = step }))) (stand_at (changed (after_answer (record { set = keeper.set; step = step })) keeper.talk) keeper)

-- the connection is shut
abbrev pub dropping : Keeper → Step Keeper KeeperAct
dropping keeper = doing (Drop ∷ []) (knows (left keeper.program) keeper)

-- it says that it closes
abbrev pub closing : Keeper → Step Keeper KeeperAct
closing keeper = cond (is_joined keeper.program.stay) (requests (AskClose []) keeper) (doing (sends (closes []) ∷ []) keeper)

-- it leaves the session
abbrev pub leaving : Keeper → Step Keeper KeeperAct
leaving keeper = followed (closing keeper) dropping

-- ---- how it goes on

-- what a move of the talk has done
abbrev pub moving : Move → Keeper → Step Keeper KeeperAct
moving Agree keeper = finishing false (knows (agreed keeper.program) keeper)
moving Refuse keeper = finishing true keeper
moving (ToClose number) keeper = doing (Close number ∷ []) keeper
moving (ToShow number) keeper = doing (Show number ∷ []) keeper
moving Wait keeper = stays keeper

-- The client has the token. One that has no window yet is waited for, and one that has gone agrees.
abbrev pub talking : Life → Keeper → Step Keeper KeeperAct
talking Here keeper = moving (turn_taken keeper.program.windows keeper.program.talk).move (knows (talked keeper.program) keeper)
talking Starting keeper = stays keeper
talking Gone keeper = moving Agree keeper

-- What is done as soon as something has changed: the talk goes on, or a program that has gone leaves.
abbrev pub settled : Keeper → Step Keeper KeeperAct
settled keeper = cond (is_talking keeper) (talking keeper.program.life keeper) (cond (is_leaving keeper.program (is_idle keeper)) (leaving keeper) (stays keeper))

-- ---- a part of the manager's stream

abbrev pub is_any : SaveStyle → Bool
is_any Any = true
is_any style = false

-- in a logout that allows talk the program asks for the token; else it has saved
abbrev pub first_step : SaveAsk → SaveStep
first_step ask = cond (ask.shutdown && is_any ask.style) (Interact Normal) (Done true)

abbrev pub saved : SaveAsk → Stage → Keeper → Step Keeper KeeperAct
saved ask First keeper = answering (first_step ask) (knows (opened keeper.program) keeper)
saved ask Second keeper = answering (Done true) keeper
saved ask Talking keeper = settled (knows (begun keeper.program) keeper)
saved ask TalkingTwo keeper = settled (knows (begun keeper.program) keeper)

-- what the client owes behind a save that was cancelled
abbrev pub owing : Keeper → Step Keeper KeeperAct
owing keeper = doing (map sends (owed_messages (is_owing (phase_of keeper)))) (stand_at (changed (after_owed (is_owing (phase_of keeper))) keeper.talk) keeper)

-- a program that closed for this logout is started again
abbrev pub restarting : Keeper → Step Keeper KeeperAct
restarting keeper = doing (cond (is_restart keeper.program) (Start ∷ []) []) (knows (cancelled_program keeper.program) keeper)

abbrev pub cancelled : Keeper → Step Keeper KeeperAct
cancelled keeper = followed (followed (owing keeper) restarting) settled

-- one that didn't close its windows by itself is ended
abbrev pub ending : Keeper → Step Keeper KeeperAct
ending keeper = doing (cond (is_ended_at_once keeper.program) (Term ∷ []) []) (knows (died keeper.program) keeper)

abbrev pub dying : Keeper → Step Keeper KeeperAct
dying keeper = followed (ending keeper) settled

-- all have saved
abbrev pub completed : Keeper → Step Keeper KeeperAct
completed keeper = settled (knows (opened keeper.program) keeper)

-- What is done about a cue. A fatal Error, an unspelled frame and a header that states too much have the connection shut, and nothing
-- is done to the program.
abbrev pub heeded : Keeper → Cue → Step Keeper KeeperAct
heeded keeper Nothing = stays keeper
heeded keeper (Registered id) = settled keeper
heeded keeper (Save ask) = saved ask ask.stage keeper
heeded keeper Cancelled = cancelled keeper
heeded keeper Complete = completed keeper
heeded keeper Die = dying keeper
heeded keeper (Properties list) = stays keeper
heeded keeper (Refused class) = dropping keeper
heeded keeper (Malformed at) = dropping keeper

-- nothing comes to a keeper from without while it hears its manager
abbrev pub cued : Keeper → Unit {0} → Cue → Step Keeper KeeperAct
cued keeper r cue = heeded keeper cue

-- What a part of the stream brought: the client says what it says by itself, and then the cue is heeded.
abbrev pub reacts : Keeper → Heard → Unit {0} → Step Keeper KeeperAct
reacts keeper heard r = reacting stand_at sends cued keeper heard r

-- what is done about a piece of the stream
abbrev pub piece_heard : Run Keeper → List ℕ → Step (Run Keeper) KeeperAct
piece_heard run bytes = piece_taken tt talk_of reacts run bytes []

-- ---- the program

-- its windows have changed, and are these
abbrev pub shown : List Window → Keeper → Step Keeper KeeperAct
shown windows keeper = settled (knows (noted_windows windows keeper.program) keeper)

-- it has ended
abbrev pub ended : Keeper → Step Keeper KeeperAct
ended keeper = settled (knows (noted_end keeper.program) keeper)

-- it couldn't be started
abbrev pub failed : Keeper → Step Keeper KeeperAct
failed keeper = settled (knows (noted_failure keeper.program) keeper)

abbrev pub pings : Option ℕ → List KeeperAct
pings None = []
pings (Some number) = Ping number ∷ []

-- the window that is to be pinged as so many milliseconds go by
abbrev pub ping_of : ℕ → Keeper → Option ℕ
ping_of elapsed keeper = cond (is_talking keeper) (ping_due keeper.program.talk keeper.program.windows elapsed) None

-- the window that is waited for is pinged each second
abbrev pub pinging : ℕ → Keeper → Step Keeper KeeperAct
pinging elapsed keeper = doing (pings (ping_of elapsed keeper)) keeper

-- a program whose time to end is over is ended
abbrev pub passing : ℕ → Bool → Keeper → Step Keeper KeeperAct
passing elapsed answered keeper = doing (cond (is_over elapsed keeper.program.stay) (Term ∷ []) []) (knows (noted_time (is_idle keeper) elapsed answered keeper.program) keeper)

-- so many milliseconds went by, in which the program answered its pings or not
abbrev pub ticked : ℕ → Bool → Keeper → Step Keeper KeeperAct
ticked elapsed answered keeper = followed (followed (pinging elapsed keeper) (passing elapsed answered)) settled

-- the stream stands where it stood
abbrev pub in_run : (Keeper → Step Keeper KeeperAct) → Run Keeper → Step (Run Keeper) KeeperAct
in_run step run = record { line = (step run.keeper).line; next = record run { keeper = (step run.keeper).next } }

-- a client that has sent ByteOrder, and waits for the manager's
abbrev pub begin : Cookie → List ℕ → List Property → List Window → Run Keeper
begin cookie previous set windows = record { standing = beginning; keeper = record { talk = opening cookie previous; set = set; program = fresh windows } }
