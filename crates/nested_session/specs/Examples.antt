-- A worked save of the outer manager's, while nobody is registered in the inner session.
use Rattle.std.specs.Prelude.{◌≡◌, ℕ, false, List, [], ◌∷◌, ◌++◌, codes, None, Some}
use Rattle.sm_world.specs.Effects.{Prints, Sends}
use Rattle.sm_world.specs.declared.events.Order.TheVariants.{Checkpoint as ToCheckpoint}
use Rattle.checkpoint_records.specs.Books.{empty_book}
use Rattle.client_engine.specs.declared.place.Counts.{Counts}
use Rattle.client_engine.specs.declared.place.Place.TheVariants.{Speaking}
use Rattle.client_machine.specs.declared.phase.ClientPhase.TheVariants.{Saving}
use Rattle.client_machine.specs.declared.saves.SaveAsk.{SaveAsk}
use Rattle.ice_framing.specs.Frames.{Standing}
use Rattle.ice_setup.specs.declared.opener.Joined.{Joined}
use Rattle.outer_agent.specs.declared.acts.AgentAct.TheVariants.{Checkpoint}
use Rattle.session_engine.specs.Machine.{Did, start}
use Rattle.session_engine.specs.declared.config.Config.{Config}
use Rattle.nested_session.specs.Nesting.{Nested, carried}
use Rattle.nested_session.specs.Nests.{success}
use Rattle.nested_session.specs.Woven.{Inner, Outer, Put}

-- the agent was asked to save, and the inner session has just begun
abbrev pub saving : Config → Standing → Joined → Counts → List ℕ → SaveAsk → List (List ℕ) → Nested
saving config standing joined counts id asked words = record {
  machine = start config empty_book;
  agent = Some (record { standing = standing; keeper = record { talk = record { place = Speaking joined (record { phase = Saving; id = id; asked = asked }); counts = counts }; words = words } });
  awaited = None;
  finished = false;
}

-- The order is put, its line is printed, and then the success is told.
abbrev pub ASaveIsTold : Type 0
ASaveIsTold =
    (config : Config) (standing : Standing) (joined : Joined) (counts : Counts) (id : List ℕ) (asked : SaveAsk) (words : List (List ℕ))
    → (carried Checkpoint [] (saving config standing joined counts id asked words)).line ≡ Put ToCheckpoint ∷ Inner (Did (Prints (codes "ok" ++ 10 ∷ []))) ∷ Outer (Did (Sends 0 success)) ∷ []
