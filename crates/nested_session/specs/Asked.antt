-- Each order to save that is put to the inner session answers a piece of the outer manager's.
use Rattle.std.specs.Prelude.{◌≡◌, ◌==◌, ℕ, true, List, ◌∷◌, ◌++◌, Some}
use Rattle.std.specs.List.{AllByRecursion}
use Rattle.sm_world.specs.declared.events.Event.{Event}
use Rattle.sm_world.specs.declared.events.Event.TheVariants.{Piece}
use Rattle.sm_world.specs.declared.events.Order.TheVariants.{Checkpoint as ToCheckpoint}
use Rattle.checkpoint_records.specs.declared.records.Book.{Book}
use Rattle.client_engine.specs.Driving.{Run}
use Rattle.outer_agent.specs.Script.{Keeper, piece_heard}
use Rattle.outer_agent.specs.declared.acts.AgentAct.{AgentAct}
use Rattle.outer_agent.specs.declared.acts.AgentAct.TheVariants.{Checkpoint}
use Rattle.session_engine.specs.Machine.{Came, Item}
use Rattle.session_engine.specs.declared.config.Config.{Config}
use Rattle.nested_session.specs.Nesting.{Nested, all_taken, nested}
use Rattle.nested_session.specs.Woven.{Inner, Outer, Put, Woven}

-- it isn't that something came
abbrev pub IsNoEvent : Woven Item → Type 0
IsNoEvent (Inner (Came event)) = ⊥
IsNoEvent (Outer (Came event)) = ⊥
IsNoEvent item = Unit {0}

-- by this piece the agent is asked for a save
pub record AsksForSave (run : Run Keeper) (bytes : List ℕ) : Type 0 where
  pub earlier : List AgentAct
  pub later : List AgentAct
  pub acts : earlier ++ Checkpoint ∷ later ≡ (piece_heard run bytes).line

-- What was shown of a session from here on ends with a piece of the outer manager's, behind which nothing came yet, and by which the agent
-- is asked for a save, as it stands then.
pub record IsAskedFor (n : Nested) (events : List Event) (front : List (Woven Item)) : Type 0 where
  pub before : List Event
  pub conn : ℕ
  pub bytes : List ℕ
  pub after : List Event
  pub are : before ++ Piece conn bytes ∷ after ≡ events
  pub is_outer : (conn == 0) ≡ true
  pub run : Run Keeper
  pub stood : (all_taken before n).next.agent ≡ Some run
  pub asks : AsksForSave run bytes
  pub now : List (Woven Item)
  pub parts : front ≡ (all_taken before n).line ++ Outer (Came (Piece conn bytes)) ∷ now
  pub only : AllByRecursion IsNoEvent now

-- the same of a whole run
pub record IsAskedForIn (config : Config) (opening : Book) (agent : Run Keeper) (first : List ℕ) (events : List Event) (front : List (Woven Item)) : Type 0 where
  pub before : List Event
  pub conn : ℕ
  pub bytes : List ℕ
  pub after : List Event
  pub are : before ++ Piece conn bytes ∷ after ≡ events
  pub is_outer : (conn == 0) ≡ true
  pub run : Run Keeper
  pub stood : (nested config opening agent first before).next.agent ≡ Some run
  pub asks : AsksForSave run bytes
  pub now : List (Woven Item)
  pub parts : front ≡ (nested config opening agent first before).line ++ Outer (Came (Piece conn bytes)) ∷ now
  pub only : AllByRecursion IsNoEvent now

-- An order to save is put nowhere but behind such a piece, before anything else comes.
abbrev pub OrdersAreAskedFor : Type 0
OrdersAreAskedFor =
    (config : Config) (opening : Book) (agent : Run Keeper) (first : List ℕ) (events : List Event) (front rest : List (Woven Item)) → front ++ Put ToCheckpoint ∷ rest ≡ (nested config opening agent first events).line
    → IsAskedForIn config opening agent first events front
