-- What a session that is held between events stands for, and what its calls make of that.
use Rattle.std.specs.Prelude.{◌≡◌, ◌≢◌, ℕ, false, List, [], ◌++◌, Option, Result, Ok, Err}
use Rattle.sm_world.specs.Effects.{heard, deeds}
use Rattle.sm_world.specs.Outside.{Outside}
use Rattle.sm_world.specs.declared.effects.Effect.{Effect}
use Rattle.checkpoint_records.specs.declared.records.Book.{Book}
use Rattle.checkpoint_slots.specs.Turns.{SteadyStands, next_generation, opened_in}
use Rattle.checkpoint_slots.specs.declared.turn.Current.{Current}
use Rattle.session_engine.specs.declared.config.Config.{Config}
use Rattle.session_model.specs.Readings as of
use Rattle.session_engine.specs.Acts.{book_after, commits_in, deeds_in, has_finish}
use Rattle.session_engine.specs.Carries.{FailsOr, IsOnScript, Keeps, Opens, Runs, Serves, run, script}
use Rattle.session_engine.specs.Commits.{AllWritten}
use Rattle.session_engine.specs.Doing.{items}
use Rattle.session_engine.specs.Settled.{Settle}
use Rattle.session_engine.specs.Standing.{as_stored}
use Rattle.session_engine.specs.Machine.{after_all, start}
use Rattle.session_engine.specs.Stops.{IsNumbered}
use Rattle.session_engine.specs.Store.{IsRaised, Stored, store_of}
use Rattle.session_engine.specs.Shown.{IsShown, Shows, all_cut}
use Rattle.session_engine.specs.declared.fault.Halt.{Halt}
use Rattle.session_engine.specs.declared.fault.ServeFault.{ServeFault}
use Rattle.session_engine.specs.declared.fault.ServeFault.TheVariants.{Spent}
use Rattle.session_engine.specs.declared.session.Session.{Session}
use Rattle.session_engine.specs.declared.session.Stepped.{Stepped}
use Rattle.session_engine.specs.declared.session.Stepped.TheVariants.{Goes, Finished}

-- After these effects of a run that goes on, over a store whose turn stood for the opened book: all was done, and the session, its
-- connections and its store are what the machine leaves after the events among them.
pub record StandsFor (config : Config) (opening : Book) (current : Option Current) (session : Session) (effects : List Effect) : Type 0 where
  pub shows : Shows all_cut session.engine (after_all (start config opening) (heard effects))
  pub unfinished : has_finish (script config opening (heard effects)) ≡ false
  pub all_done : deeds effects ≡ deeds_in (script config opening (heard effects))
  pub in_order : items effects ≡ run config opening (heard effects)
  pub on_script : IsOnScript config opening effects
  pub keeps : (first : List ℕ) (before : List Effect) → SteadyStands current (as_stored opening) first before → Keeps config opening first before effects
  pub store : (first : List ℕ) (before : List Effect) → SteadyStands current (as_stored opening) first before → SteadyStands session.store.journal (as_stored (book_after opening (script config opening (heard effects)))) first (before ++ effects)
  pub saved : session.store.book ≡ book_after opening (script config opening (heard effects))
  pub counts : IsRaised (commits_in (script config opening (heard effects))) (next_generation current) (next_generation session.store.journal)
  pub opens : opened_in effects ≡ commits_in (script config opening (heard effects))
  pub numbered : IsNumbered (store_of current opening) (script config opening (heard effects)) effects
  pub settles : Settle effects
  pub writes : AllWritten current opening (script config opening (heard effects)) effects session.store.journal

-- A device, the store or the memory cut the run short, and not the number of its turns.
pub record IsCut (config : Config) (opening : Book) (current : Option Current) (fault : ServeFault) (effects : List Effect) : Type 0 where
  pub runs : Runs config opening current (Err fault) effects
  pub in_time : fault ≢ Spent

-- the store's turn in a session that was opened
abbrev pub kept : Result Session Halt → Result Stored Halt
kept (Ok session) = Ok session.store
kept (Err halt) = Err halt

-- a start hears nothing, and hands out a session that stands for what it added; or it did nothing, or its opening was cut short
abbrev pub Starts : Config → Outside → Outside → Result Session ServeFault → Type 0
Starts config old new (Ok session) = Opens config.session old new (λ opening current effects. StandsFor config opening current session effects × (heard effects ≡ []))
Starts config old new (Err fault) = FailsOr config.session old new (λ opening current effects. IsCut config opening current fault effects × (heard effects ≡ [])) fault

-- a session that goes on shows a machine
abbrev pub ShowsOn : Stepped → Type 0
ShowsOn (Goes next) = IsShown all_cut next.engine
ShowsOn (Finished marks) = Unit {0}

-- what a step makes of a session, where these are the effects with the event and what the step added
abbrev pub StepsTo : Config → Book → Option Current → Result Stepped ServeFault → List Effect → Type 0
StepsTo config opening current (Ok (Goes next)) effects = StandsFor config opening current next effects
StepsTo config opening current (Ok (Finished marks)) effects = Runs config opening current (Ok tt) effects × (marks ≡ of.marks (after_all (start config opening) (heard effects)).session)
StepsTo config opening current (Err fault) effects = IsCut config opening current fault effects

-- a run over the recovered book; or nothing was done
abbrev pub Serving : Config → ℕ → Outside → Outside → Result (Unit {0}) ServeFault → Type 0
Serving config turns old new (Ok x) = Opens config.session old new (λ opening current effects. Serves config opening current old.coming turns (Ok x) effects)
Serving config turns old new (Err fault) = FailsOr config.session old new (λ opening current effects. Serves config opening current old.coming turns (Err fault) effects) fault
