-- What a nest that is held between events stands for, and what its calls make of that.
use Rattle.std.specs.Prelude.{◌≡◌, ◌≢◌, ℕ, true, false, List, [], ◌∷◌, ◌++◌, Option, None, Some, Result, Ok, Err, IfErr}
use Rattle.std.specs.List.{AllByRecursion}
use Rattle.sm_world.specs.Effects.{heard}
use Rattle.sm_world.specs.Outside.{NotFallen, Outside, adds}
use Rattle.sm_world.specs.declared.effects.Effect.{Effect}
use Rattle.sm_world.specs.declared.effects.Effect.TheVariants.{Heard, Sent}
use Rattle.sm_world.specs.declared.events.Event.{Event}
use Rattle.sm_world.specs.declared.failures.Failure.{Failure}
use Rattle.sm_world.specs.declared.failures.Failure.TheVariants.{Failed, NoMemory as OutOfMemory}
use Rattle.heard_events.specs.Brought.{IsPrefix}
use Rattle.checkpoint_records.specs.declared.records.Book.{Book}
use Rattle.checkpoint_slots.specs.declared.turn.Current.{Current}
use Rattle.client_engine.specs.Driving.{Run, Step}
use Rattle.outer_agent.specs.Script.{Keeper}
use Rattle.outer_agent.specs.Standing.{IsRun, Stand}
use Rattle.outer_agent.specs.declared.acts.AgentAct.{AgentAct}
use Rattle.outer_agent.specs.declared.acts.AgentAct.TheVariants.{Send}
use Rattle.session_engine.specs.Carries.{Runs}
use Rattle.session_engine.specs.Causes.{HasCause}
use Rattle.session_engine.specs.Machine.{Item, after_all, start}
use Rattle.session_engine.specs.Session.{IsCut, StandsFor}
use Rattle.session_engine.specs.Shown.{IsShown, all_cut}
use Rattle.session_engine.specs.declared.config.Config.{Config}
use Rattle.session_engine.specs.declared.fault.ServeFault.{ServeFault}
use Rattle.session_engine.specs.declared.fault.ServeFault.TheVariants.{ConsoleFault, Damaged, DiskFault, LinkFault, NoMemory, Spent, TooManySessions, Worn, WrongSize}
use Rattle.session_model.specs.Readings as of
use Rattle.nested_session.specs.Nesting.{Nested, Shows}
use Rattle.nested_session.specs.Nests.{IsApart, Since, SuccessIsBacked, success}
use Rattle.nested_session.specs.Woven.{Woven, all_inner, effect_of, effects_of, inner_of, shown}
use Rattle.nested_session.specs.declared.nest.Answered.{Answered}
use Rattle.nested_session.specs.declared.nest.Answered.TheVariants.{Finished, Goes}
use Rattle.nested_session.specs.declared.nest.Nest.{Nest}

-- ---- the world

-- None of the events to come was heard, nothing of the input was read, the store has its size still and began as it did, no count of
-- faults fell, and a fault has its cause.
pub record Quiet {A : Type 0} (old new : Outside) (result : Result A ServeFault) : Type 0 where
  pub coming : new.coming ≡ old.coming
  pub input : new.input ≡ old.input
  pub first : new.first ≡ old.first
  pub size : new.size ≡ old.size
  pub counts : NotFallen old.faults new.faults
  pub cause : IfErr result (HasCause old.faults new.faults)

-- the effect of these bytes, where there are any
abbrev pub sent_on : List ℕ → List Effect
sent_on [] = []
sent_on (b ∷ bytes) = Sent 0 (b ∷ bytes) ∷ []

-- why something wasn't said on the outer connection
abbrev pub fault_of : Failure → ServeFault
fault_of Failed = LinkFault
fault_of OutOfMemory = NoMemory

-- the faults of that
abbrev pub IsOfOuter : ServeFault → Type 0
IsOfOuter (Damaged at) = ⊥
IsOfOuter (WrongSize size) = ⊥
IsOfOuter TooManySessions = ⊥
IsOfOuter DiskFault = ⊥
IsOfOuter LinkFault = Unit {0}
IsOfOuter ConsoleFault = ⊥
IsOfOuter Worn = ⊥
IsOfOuter Spent = ⊥
IsOfOuter NoMemory = Unit {0}

-- ---- the agent

-- an agent stands where a run of its script does
abbrev pub HasAgent : Option Stand → Option (Run Keeper) → Type 0
HasAgent None None = Unit {0}
HasAgent None (Some run) = ⊥
HasAgent (Some stand) None = ⊥
HasAgent (Some stand) (Some run) = IsRun run stand

-- the agent said this on the outer connection, or a fault kept all of it back
abbrev pub Talks : Option (List Effect) → Option (List Effect) → Step (Option (Run Keeper)) ℕ → Result (Option Stand) ServeFault → Type 0
Talks old new said (Ok agent) = (new ≡ adds old (sent_on said.line)) × HasAgent agent said.next
Talks old new said (Err fault) = (new ≡ old) × IsOfOuter fault

-- no act says that a save succeeded
abbrev pub SayNoSuccess : List AgentAct → Type 0
SayNoSuccess acts = AllByRecursion (λ act. act ≢ Send success) acts

-- ---- the nest

-- What is added where an event or an order is to be stepped by the inner session: that it was heard, which the world has told already, or
-- that it was put.
pub record Brings (event : Event) (how : Woven Effect) (before after : Option (List Effect)) (earlier events : List Event) : Type 0 where
  pub inner : inner_of how ≡ Heard event ∷ []
  pub apart : IsApart how
  pub told : after ≡ adds before (effect_of how)
  pub heard_is : events ≡ earlier ++ heard (effect_of how)

-- Where the end of a save is awaited, that was asked for.
abbrev pub Waits : Config → Book → Option ℕ → List (Woven Effect) → Type 0
Waits config opening None all = Unit {0}
Waits config opening (Some begun) all = Since config opening begun all

-- All that follows is said of a session with this configuration that opens this book, over a store with this turn, in a world that had
-- told this much, once these events were heard.
module _ (config : Config) (opening : Book) (current : Option Current) (base : Option (List Effect)) (events : List Event) where
  -- what holds of all that was woven, wherever a call stopped
  pub record Wove (told : Option (List Effect)) (all : List (Woven Effect)) : Type 0 where
    pub told_is : told ≡ adds base (effects_of all)
    pub heard_is : heard (effects_of all) ≡ events
    pub apart : AllByRecursion IsApart all
    pub backed : SuccessIsBacked config opening current all

  -- The nest stands where the script does, and all of this was shown.
  pub record Ready (told : Option (List Effect)) (nest : Nest) (n : Nested) (script : List (Woven Item)) (all : List (Woven Effect)) : Type 0 where
    pub wove : Wove told all
    pub all_shown : shown all ≡ script
    pub stands : StandsFor config opening current nest.session (all_inner all)
    pub machine : n.machine ≡ after_all (start config opening) (heard (all_inner all))
    pub unfinished : n.finished ≡ false
    pub agent : HasAgent nest.agent n.agent
    pub awaited : nest.awaited ≡ n.awaited

  -- and where the end of a save is awaited, that was asked for
  pub record GoesOn (told : Option (List Effect)) (nest : Nest) (n : Nested) (script : List (Woven Item)) (all : List (Woven Effect)) : Type 0 where
    pub ready : Ready told nest n script all
    pub waits : Waits config opening n.awaited all

  -- The inner session came to its end: all of this was shown.
  pub record HasEnded (told : Option (List Effect)) (n : Nested) (script : List (Woven Item)) (all : List (Woven Effect)) : Type 0 where
    pub wove : Wove told all
    pub all_shown : shown all ≡ script
    pub runs : Runs config opening current (Ok tt) (all_inner all)
    pub finished : n.finished ≡ true

  -- A fault cut it short: the first of this was shown.
  pub record IsCutShort (told : Option (List Effect)) (fault : ServeFault) (script : List (Woven Item)) (all : List (Woven Effect)) : Type 0 where
    pub wove : Wove told all
    pub front : IsPrefix (shown all) script
    pub cut : IsCut config opening current fault (all_inner all)

  -- the nest goes on, or a fault cut it short, where the script says this behind what was shown before
  abbrev pub GoesBy : Option (List Effect) → List (Woven Item) → Shows → Result Nest ServeFault → Type 0
  GoesBy told script made (Ok nest) = (all : List (Woven Effect)) × GoesOn told nest made.next (script ++ made.line) all
  GoesBy told script made (Err fault) = (all : List (Woven Effect)) × IsCutShort told fault (script ++ made.line) all

  -- what a call made of a nest
  abbrev pub Makes : Option (List Effect) → List (Woven Item) → Shows → Result Answered ServeFault → Type 0
  Makes told script made (Ok (Goes next)) = (all : List (Woven Effect)) × GoesOn told next made.next (script ++ made.line) all
  Makes told script made (Ok Finished) = (all : List (Woven Effect)) × HasEnded told made.next (script ++ made.line) all
  Makes told script made (Err fault) = (all : List (Woven Effect)) × IsCutShort told fault (script ++ made.line) all

  -- The inner session came to its end, and the agent isn't told of that yet.
  pub record Ends (told : Option (List Effect)) (agent : Option Stand) (n : Nested) (script : List (Woven Item)) (all : List (Woven Effect)) : Type 0 where
    pub ended : HasEnded told n script all
    pub machine : n.machine ≡ after_all (start config opening) (heard (all_inner all))
    pub agent_is : HasAgent agent n.agent
    pub waits : Waits config opening n.awaited all

-- the session in memory of a nest that goes on shows a machine
abbrev pub ShowsOn : Answered → Type 0
ShowsOn (Goes next) = IsShown all_cut next.session.engine
ShowsOn Finished = Unit {0}
