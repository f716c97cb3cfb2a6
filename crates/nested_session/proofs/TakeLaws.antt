-- A piece of the outer manager's stream, and an event that was heard.
use Rattle.std.proofs.Common.{◌≡◌, refl, sym, subst, ℕ, Bool, true, false, List, [], ◌∷◌, ◌++◌, Option, None, Some, Result, Ok}
use Rattle.sm_world.specs.Outside.{adds}
use Rattle.sm_world.specs.declared.effects.Effect.{Effect}
use Rattle.sm_world.specs.declared.effects.Effect.TheVariants.{Heard, Sent}
use Rattle.sm_world.specs.declared.events.Event.{Event}
use Rattle.checkpoint_records.specs.declared.records.Book.{Book}
use Rattle.checkpoint_slots.specs.declared.turn.Current.{Current}
use Rattle.client_engine.specs.Driving.{Run}
use Rattle.outer_agent.specs.Script.{Keeper, piece_heard}
use Rattle.outer_agent.specs.Standing.{Gives, IsRun, Stand}
use Rattle.outer_agent.specs.declared.acts.AgentAct.{AgentAct}
use Rattle.outer_agent.proofs.SuccessLaws.{no_success}
use Rattle.session_engine.specs.Machine.{Came, Item}
use Rattle.session_engine.specs.declared.config.Config.{Config}
use Rattle.session_engine.specs.declared.fault.ServeFault.{ServeFault}
use Rattle.nested_session.specs.Nesting.{Nested, all_carried, outer_heard, piece_for, stepped, taken, taken_by}
use Rattle.nested_session.specs.Nests.{success}
use Rattle.nested_session.specs.Standing.{GoesOn, HasAgent, Makes, Ready, SayNoSuccess}
use Rattle.nested_session.specs.Woven.{Inner, Outer, Woven, is_outer}
use Rattle.nested_session.specs.declared.nest.Answered.{Answered}
use Rattle.nested_session.specs.declared.nest.Answered.TheVariants.{Goes}
use Rattle.nested_session.specs.declared.nest.Nest.{Nest}
use Rattle.nested_session.proofs.ActLaws.{Feeding, makes_behind, makes_stay, ready_outer}
use Rattle.nested_session.proofs.Stepping.{waits_more}

module _ (config : Config) (opening : Book) (current : Option Current) (base : Option (List Effect)) (events : List Event) where
  -- ---- a piece

  heard_by_none : (told : Option (List Effect)) (nest : Nest) (n : Nested) (script : List (Woven Item)) (all : List (Woven Effect)) (bytes : List ℕ) (run : Option (Run Keeper)) → HasAgent None run → GoesOn config opening current base events told nest n script all
      → Makes config opening current base events told script (piece_for bytes n run) (Ok (Goes nest))
  heard_by_none told nest n script all bytes None has goes = makes_stay config opening current base events told nest n script all goes
  heard_by_none told nest n script all bytes (Some run) has goes = absurd has

  -- without an agent nothing is done
  pub heard_alone : (told : Option (List Effect)) (nest : Nest) (n : Nested) (script : List (Woven Item)) (all : List (Woven Effect)) (bytes : List ℕ) → nest.agent ≡ None → GoesOn config opening current base events told nest n script all
      → Makes config opening current base events told script (piece_for bytes n n.agent) (Ok (Goes (record nest { agent = None })))
  heard_alone told nest n script all bytes none goes =
      subst (λ (a : Option Stand). Makes config opening current base events told script (piece_for bytes n n.agent) (Ok (Goes (record nest { agent = a })))) none
      (heard_by_none told nest n script all bytes n.agent (subst (λ (a : Option Stand). HasAgent a n.agent) none goes.ready.agent) goes)

  -- what the acts are to make
  abbrev pub Acting : Option (List Effect) → Option (List Effect) → Nest → List AgentAct → Result Answered ServeFault → Type 0
  Acting told new nest acts answer =
      (n : Nested) (script : List (Woven Item)) (all : List (Woven Effect)) → SayNoSuccess acts → GoesOn config opening current base events told nest n script all → Makes config opening current base events new script (all_carried acts n) answer

  -- it stands there with the agent further on
  ready_agent : (told : Option (List Effect)) (nest : Nest) (n : Nested) (script : List (Woven Item)) (all : List (Woven Effect)) (stand : Stand) (run : Run Keeper) → IsRun run stand → Ready config opening current base events told nest n script all
      → Ready config opening current base events told (record nest { agent = Some stand }) (record n { agent = Some run }) script all
  ready_agent told nest n script all stand run is_run ready = record { wove = ready.wove; all_shown = ready.all_shown; stands = ready.stands; machine = ready.machine; unfinished = ready.unfinished; agent = is_run; awaited = ready.awaited }

  heard_by : (told new : Option (List Effect)) (nest : Nest) (n : Nested) (script : List (Woven Item)) (all : List (Woven Effect)) (bytes : List ℕ) (stand after : Stand) (acts : List AgentAct) (answer : Result Answered ServeFault) (run : Option (Run Keeper)) → HasAgent (Some stand) run
      → ((r : Run Keeper) → IsRun r stand → Gives acts (piece_heard r bytes) after) → GoesOn config opening current base events told nest n script all → Acting told new (record nest { agent = Some after }) acts answer
      → Makes config opening current base events new script (piece_for bytes n run) answer
  heard_by told new nest n script all bytes stand after acts answer None has hears goes acting = absurd has
  heard_by told new nest n script all bytes stand after acts answer (Some run) has hears goes acting =
      let gives : Gives acts (piece_heard run bytes) after = hears run has in
      let n1 : Nested = record n { agent = Some (piece_heard run bytes).next } in
      subst (λ (xs : List AgentAct). Makes config opening current base events new script (all_carried xs n1) answer) gives.line
      (acting n1 script all (subst (λ (xs : List AgentAct). SayNoSuccess xs) (sym gives.line) (no_success run bytes)) (record {
        ready = ready_agent told nest n script all after (piece_heard run bytes).next gives.next goes.ready;
        waits = goes.waits;
      }))

  -- the agent hears it, and what it brings is carried out
  pub heard_acting : (told new : Option (List Effect)) (nest : Nest) (n : Nested) (script : List (Woven Item)) (all : List (Woven Effect)) (bytes : List ℕ) (stand after : Stand) (acts : List AgentAct) (answer : Result Answered ServeFault) → nest.agent ≡ Some stand
      → ((r : Run Keeper) → IsRun r stand → Gives acts (piece_heard r bytes) after) → GoesOn config opening current base events told nest n script all → Acting told new (record nest { agent = Some after }) acts answer
      → Makes config opening current base events new script (piece_for bytes n n.agent) answer
  heard_acting told new nest n script all bytes stand after acts answer some hears goes acting =
      heard_by told new nest n script all bytes stand after acts answer n.agent (subst (λ (a : Option Stand). HasAgent a n.agent) some goes.ready.agent) hears goes acting

-- ---- an event

never_heard : (xs : List ℕ) (event : Event) → Outer (Sent 0 xs) ≡ Outer (Heard event) → ⊥
never_heard xs event e = cc

module _ (config : Config) (opening : Book) (current : Option Current) (base before : Option (List Effect)) (earlier events : List Event) where
  -- what one of the outer connection is to make
  abbrev pub Hearing : Option (List Effect) → Option (List Effect) → Nest → Event → Result Answered ServeFault → Type 0
  Hearing told new nest event answer = (n : Nested) (script : List (Woven Item)) (all : List (Woven Effect)) → GoesOn config opening current base events told nest n script all → Makes config opening current base events new script (outer_heard event n) answer

  pub takes_outer : (told new : Option (List Effect)) (nest : Nest) (n : Nested) (script : List (Woven Item)) (all : List (Woven Effect)) (event : Event) (answer : Result Answered ServeFault) → is_outer event ≡ true → told ≡ adds before (Heard event ∷ []) → events ≡ earlier ++ event ∷ []
      → GoesOn config opening current base earlier before nest n script all → Hearing told new nest event answer → Makes config opening current base events new script (taken event n) answer
  takes_outer told new nest n script all event answer outer added later goes hearing =
      let more : List (Woven Effect) = all ++ Outer (Heard event) ∷ [] in
      let came : List (Woven Item) = script ++ Outer (Came event) ∷ [] in
      let now : GoesOn config opening current base events told nest n came more = record {
        ready = ready_outer config opening current base earlier events before told nest n script all (Heard event) outer (never_heard success event) added later goes.ready;
        waits = waits_more config opening current base earlier events n.awaited all (Outer (Heard event) ∷ []) (tt, tt) goes.waits;
      } in
      subst (λ (b : Bool). Makes config opening current base events new script (taken_by b event n) answer) (sym outer)
      (makes_behind config opening current base events new script (Outer (Came event) ∷ []) (outer_heard event n) answer (hearing n came more now))

  pub takes_inner : (told new : Option (List Effect)) (nest : Nest) (n : Nested) (script : List (Woven Item)) (all : List (Woven Effect)) (event : Event) (answer : Result Answered ServeFault) → is_outer event ≡ false → told ≡ adds before (Heard event ∷ []) → events ≡ earlier ++ event ∷ []
      → GoesOn config opening current base earlier before nest n script all → Feeding config opening current base told new nest event answer → Makes config opening current base events new script (taken event n) answer
  takes_inner told new nest n script all event answer inner added later goes feeds =
      subst (λ (b : Bool). Makes config opening current base events new script (taken_by b event n) answer) (sym inner)
      (makes_behind config opening current base events new script (Inner (Came event) ∷ []) (stepped event n) answer
      (feeds before earlier events n script all (Inner (Heard event)) (record { inner = refl; apart = tt; told = added; heard_is = later }) goes.ready (waits_more config opening current base earlier events n.awaited all (Inner (Heard event) ∷ []) (tt, tt) goes.waits)))
