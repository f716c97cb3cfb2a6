-- The script of an agent: what a manager that is itself a client does about its outer manager's stream.
use Rattle.std.specs.Prelude.{ℕ, Bool, true, false, List, [], ◌∷◌, ◌++◌, map, Option, None, Some, Result, Ok, Err, unwrap_or}
use Rattle.ice_cookie.specs.declared.cookies.Cookie.{Cookie}
use Rattle.ice_framing.specs.Frames.{beginning}
use Rattle.xsmp_messages.specs.declared.message.XsmpMessage.TheVariants.{SetProperties}
use Rattle.client_machine.specs.Asking.{after_asked}
use Rattle.client_machine.specs.Phases.{is_owing}
use Rattle.client_machine.specs.declared.requests.AskRefusal.{AskRefusal}
use Rattle.client_machine.specs.declared.requests.Request.TheVariants.{Done}
use Rattle.client_machine.specs.declared.saves.Stage.{Stage}
use Rattle.client_machine.specs.declared.saves.Stage.TheVariants.{First, Second, Talking, TalkingTwo}
use Rattle.client_engine.specs.Answering.{after_owed, answered_at, changed, closes, owed_messages, stopped}
use Rattle.client_engine.specs.Cutting.{opening}
use Rattle.client_engine.specs.Driving.{Run, Step, piece_taken, reacting, stays}
use Rattle.client_engine.specs.Messages.{spelled}
use Rattle.client_engine.specs.Places.{id_at, phase_at}
use Rattle.client_engine.specs.declared.hearing.Cue.{Cue}
use Rattle.client_engine.specs.declared.hearing.Cue.TheVariants.{Nothing, Registered, Save, Cancelled, Complete, Die, Properties, Refused, Malformed}
use Rattle.client_engine.specs.declared.hearing.Heard.{Heard}
use Rattle.client_engine.specs.declared.place.Talk.{Talk}
use Rattle.protocol_messages.specs.declared.message.Message.{Message}
use Rattle.protocol_messages.specs.declared.message.Message.TheVariants.{Xsmp}
use Rattle.outer_agent.specs.Words.{command_words, own_properties}
use Rattle.outer_agent.specs.declared.acts.AgentAct.{AgentAct}
use Rattle.outer_agent.specs.declared.acts.AgentAct.TheVariants.{Send, Checkpoint, Forget, Shutdown, Drop}

-- How far the agent's client has come, and the words of the manager's command.
pub record Keeper : Type 0 where
  pub talk : Talk
  pub words : List (List ℕ)

abbrev pub talk_of : Keeper → Talk
talk_of keeper = keeper.talk

-- it stands there
abbrev pub stand_at : Talk → Keeper → Keeper
stand_at talk keeper = record keeper { talk = talk }

-- these things are done, and it is so then
abbrev pub doing : {E : Type 0} → List E → Keeper → Step Keeper E
doing line keeper = record { line = line; next = keeper }

-- a message is sent
abbrev pub sends : Message → AgentAct
sends message = Send (spelled message)

-- ---- a part of the outer manager's stream

-- what the manager sets: who it is, and how it is started again under the ID that it has
abbrev pub own_set : Keeper → Message
own_set keeper = Xsmp (SetProperties (own_properties keeper.words (unwrap_or (id_at keeper.talk.place) [])))

-- it is to save: its own session is saved first, and the end of that will be told
abbrev pub saved : Keeper → Stage → Step Keeper AgentAct
saved keeper First = doing (sends (own_set keeper) ∷ Checkpoint ∷ []) keeper
saved keeper Second = stays keeper
saved keeper Talking = stays keeper
saved keeper TalkingTwo = stays keeper

-- The save was cancelled. Where it hasn't answered, it answers now, and the end isn't told.
abbrev pub cancelled : Keeper → Bool → Step Keeper AgentAct
cancelled keeper false = stays keeper
cancelled keeper true = doing (map sends (owed_messages true) ++ Forget ∷ []) (record keeper { talk = changed (after_owed true) keeper.talk })

-- it is told to die: it closes, and its own session is shut down
abbrev pub died : Keeper → Step Keeper AgentAct
died keeper = doing (sends (closes []) ∷ Shutdown ∷ []) (record keeper { talk = stopped keeper.talk })

-- What is done about a cue. A fatal Error, an unspelled frame and a header that states too much have the connection shut.
abbrev pub heeded : Keeper → Cue → Step Keeper AgentAct
heeded keeper Nothing = stays keeper
heeded keeper (Registered id) = stays keeper
heeded keeper (Save ask) = saved keeper ask.stage
heeded keeper Cancelled = cancelled keeper (is_owing (phase_at keeper.talk.place))
heeded keeper Complete = stays keeper
heeded keeper Die = died keeper
heeded keeper (Properties list) = stays keeper
heeded keeper (Refused class) = doing (Drop ∷ []) keeper
heeded keeper (Malformed at) = doing (Drop ∷ []) keeper

-- nothing comes to an agent from without
abbrev pub cued : Keeper → Unit {0} → Cue → Step Keeper AgentAct
cued keeper r cue = heeded keeper cue

-- What a part of the stream brought: the client says what it says by itself, and then the cue is heeded.
abbrev pub reacts : Keeper → Heard → Unit {0} → Step Keeper AgentAct
reacts keeper heard r = reacting stand_at sends cued keeper heard r

-- what is done about a piece of the stream
abbrev pub piece_heard : Run Keeper → List ℕ → Step (Run Keeper) AgentAct
piece_heard run bytes = piece_taken tt talk_of reacts run bytes []

-- ---- what the manager tells its agent

-- the bytes of a request that has its place, and of another none
abbrev pub bytes_asked : Result Message AskRefusal → List ℕ
bytes_asked (Ok message) = spelled message
bytes_asked (Err refusal) = []

-- the save of the session came to its end, with success or without: that is said where the outer manager waits for it
abbrev pub telling : Keeper → Bool → Step Keeper ℕ
telling keeper success = doing (bytes_asked (answered_at (Done success) keeper.talk.place)) (record keeper { talk = changed (after_asked (Done success)) keeper.talk })

-- the session came to its end: one that has an ID closes
abbrev pub closing_with : Keeper → Option (List ℕ) → Step Keeper ℕ
closing_with keeper None = stays keeper
closing_with keeper (Some id) = doing (spelled (closes [])) (record keeper { talk = stopped keeper.talk })

abbrev pub closing : Keeper → Step Keeper ℕ
closing keeper = closing_with keeper (id_at keeper.talk.place)

-- the stream stands where it stood
abbrev pub in_run : {E : Type 0} → Run Keeper → Step Keeper E → Step (Run Keeper) E
in_run run step = record { line = step.line; next = record run { keeper = step.next } }

abbrev pub told : Run Keeper → Bool → Step (Run Keeper) ℕ
told run success = in_run run (telling run.keeper success)

abbrev pub closed : Run Keeper → Step (Run Keeper) ℕ
closed run = in_run run (closing run.keeper)

-- a client that has sent ByteOrder, and waits for the outer manager's
abbrev pub start : Cookie → List ℕ → List (List ℕ) → Run Keeper
start cookie previous words = record { standing = beginning; keeper = record { talk = opening cookie previous; words = command_words words } }
