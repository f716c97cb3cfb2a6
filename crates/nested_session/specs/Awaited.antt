-- Where the end of a save is awaited, the agent has it due.
use Rattle.std.specs.Prelude.{◌≡◌, ℕ, Bool, true, false, ◌&&◌, List, [], Option, None, Some, if◌then◌else◌}
use Rattle.sm_world.specs.declared.events.Event.{Event}
use Rattle.checkpoint_records.specs.declared.records.Book.{Book}
use Rattle.client_engine.specs.Driving.{Run}
use Rattle.client_engine.specs.Messages.{spelled}
use Rattle.client_engine.specs.Places.{is_listening}
use Rattle.ice_cookie.specs.declared.cookies.Cookie.{Cookie}
use Rattle.outer_agent.specs.Ends.{Came, life_of}
use Rattle.outer_agent.specs.Script.{Keeper, start}
use Rattle.protocol_messages.specs.declared.message.Message.TheVariants.{Xsmp}
use Rattle.session_engine.specs.declared.config.Config.{Config}
use Rattle.xsmp_messages.specs.declared.message.XsmpMessage.TheVariants.{SaveYourselfDone}
use Rattle.nested_session.specs.Nesting.{Nested, ended_for, nested}

abbrev pub is_awaited : Option ℕ → Bool
is_awaited None = false
is_awaited (Some begun) = true

-- All this came to the agent, and the end of a save is due to it as this says.
pub record IsLife (cookie : Cookie) (previous : List ℕ) (words : List (List ℕ)) (run : Run Keeper) (due : Bool) : Type 0 where
  pub came : List Came
  pub run_is : (life_of cookie previous words came).run ≡ run
  pub due_is : (life_of cookie previous words came).due ≡ due

-- how it stands behind these events
abbrev pub nested_by : Config → Book → Cookie → List ℕ → List (List ℕ) → List ℕ → List Event → Nested
nested_by config opening cookie previous words first events = (nested config opening (start cookie previous words) first events).next

-- Whatever comes, as long as the inner session goes on and the agent is there, the end of a save is awaited exactly where it is due to
-- the agent.
abbrev pub AwaitedIsDue : Type 0
AwaitedIsDue =
    (config : Config) (opening : Book) (cookie : Cookie) (previous : List ℕ) (words : List (List ℕ)) (first : List ℕ) (events : List Event) (run : Run Keeper)
    → (nested_by config opening cookie previous words first events).finished ≡ false → (nested_by config opening cookie previous words first events).agent ≡ Some run
    → IsLife cookie previous words run (is_awaited (nested_by config opening cookie previous words first events).awaited)

-- So an end that it is told is said where it is awaited and the outer manager is still heard, and nowhere else.
abbrev pub AwaitedEndsAreSaid : Type 0
AwaitedEndsAreSaid =
    (config : Config) (opening : Book) (cookie : Cookie) (previous : List ℕ) (words : List (List ℕ)) (first : List ℕ) (events : List Event) (run : Run Keeper) (success : Bool)
    → (nested_by config opening cookie previous words first events).finished ≡ false → (nested_by config opening cookie previous words first events).agent ≡ Some run
    → (ended_for success (Some run)).line ≡ (if is_awaited (nested_by config opening cookie previous words first events).awaited && is_listening run.keeper.talk.place then spelled (Xsmp (SaveYourselfDone success)) else [])
