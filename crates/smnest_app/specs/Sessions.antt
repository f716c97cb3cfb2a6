-- What a call with the words of a session inside another does: it finds the outer cookie, hands out its own and says where it listens, connects to the outer manager, and then serves.
use Rattle.std.specs.Prelude.{◌≡◌, ◌⊎◌, ℕ, ◌<◌, ◌≤◌, List, [], ◌++◌, length, Option, Result, Ok, Err, IfErr}
use Rattle.sm_world.specs.Outside.{Outside, Rose}
use Rattle.sm_world.specs.declared.effects.Effect.{Effect}
use Rattle.checkpoint_records.specs.Books.{choose}
use Rattle.checkpoint_records.specs.Rules.{KeepsRules}
use Rattle.checkpoint_records.specs.declared.records.Book.{Book}
use Rattle.checkpoint_slots.specs.Causes.{IsSettled}
use Rattle.checkpoint_slots.specs.Layout.{store_size}
use Rattle.checkpoint_slots.specs.Recovery.{Recovers}
use Rattle.checkpoint_slots.specs.declared.turn.Current.{Current}
use Rattle.client_engine.specs.Driving.{Run}
use Rattle.ice_cookie.specs.declared.cookies.Cookie.{Cookie}
use Rattle.nested_session.specs.Promise.{NestKeepsItsWord}
use Rattle.nested_session.specs.Serving.{Weaves}
use Rattle.outer_agent.specs.Script.{Keeper, start}
use Rattle.session_engine.specs.Carries.{IsRecovered}
use Rattle.session_engine.specs.Causes.{HasCause}
use Rattle.session_engine.specs.declared.config.Config.{Config}
use Rattle.session_engine.specs.declared.fault.ServeFault.{ServeFault}
use Rattle.smclient_app.specs.Entries.{HasCookie, HasNone}
use Rattle.smclient_app.specs.Statuses.{FileIs}
use Rattle.smd_app.specs.Sessions.{IsOfDisk, IsOfEdge, Unopened, announcing, config_of, handing_out}
use Rattle.smd_app.specs.declared.fault.Fault.{Fault as SessionFault}
use Rattle.smd_app.specs.declared.fault.Fault.TheVariants.{Links, NoMemory}
use Rattle.smd_app.specs.declared.identity.Identity.{Identity}
use Rattle.smnest_app.specs.FaultLines.{Ending, served}
use Rattle.smnest_app.specs.Rehearsals.{greeting}
use Rattle.smnest_app.specs.Words.{NestPlaces}
use Rattle.smnest_app.specs.declared.fault.Fault.{Fault}
use Rattle.smnest_app.specs.declared.fault.Fault.TheVariants.{Session, NoCookie}

-- A call on the links or for the outer manager failed, or memory was wanting.
abbrev pub IsOfLinks : Outside → Outside → SessionFault → Type 0
IsOfLinks old new fault = ((fault ≡ Links) × Rose old.faults.links new.faults.links) ⊎ (fault ≡ NoMemory)

-- what is done before the session begins
abbrev pub setting_up : Identity → NestPlaces → List Effect
setting_up identity places = handing_out identity places.own ++ announcing identity places.own

-- The store was opened, and the session inside another ran over its book.
pub record Opened (config : Config) (turns : ℕ) (agent : Run Keeper) (old new : Outside) (answer : Result (Unit {0}) ServeFault) (effects : List Effect) : Type 0 where
  pub book : Book
  pub current : Option Current
  pub recovered : IsRecovered old book current
  pub called : book.name ≡ config.session
  pub size : new.size ≡ store_size
  pub below : book.epoch < 4294967295
  pub few : length book.others ≤ 7
  pub rules : KeepsRules book
  -- The inner session is the session machine's, the outer connection the agent's script, and what was told as saved is on the disk.
  pub weaves : Weaves config turns agent greeting old answer book current effects

abbrev pub OpensOr : Config → ℕ → Run Keeper → Outside → Outside → Result (Unit {0}) ServeFault → List Effect → Type 0
OpensOr config turns agent old new (Ok x) effects = Opened config turns agent old new (Ok x) effects
OpensOr config turns agent old new (Err fault) effects = Unopened config old new fault effects ⊎ Opened config turns agent old new (Err fault) effects

-- The session ended with this answer, and these are its own effects. The store is that of the world when the call began.
pub record IsSession (config : Config) (turns : ℕ) (agent : Run Keeper) (old new : Outside) (answer : Result (Unit {0}) ServeFault) (effects : List Effect) : Type 0 where
  pub serves : OpensOr config turns agent old new answer effects
  -- at every point of it each file that a crash could leave has a whole checkpoint of the inner session, and the last one wherever a save was told to have succeeded, where no byte of the store was in doubt
  pub headline : (file : List ℕ) (stored : Book) → IsSettled old file → Recovers file (Ok stored) → NestKeepsItsWord config (choose config.session stored) file agent greeting answer effects
  -- a device ended it only where its count rose
  pub cause : IfErr answer (HasCause old.faults new.faults)

-- All before the session was done, and then these effects are the session's, whose agent has this cookie.
pub record HasServed (words : List (List ℕ)) (identity : Identity) (places : NestPlaces) (turns : ℕ) (cookie : Cookie) (old new : Outside) (ending : Ending) (effects : List Effect) : Type 0 where
  pub answer : Result (Unit {0}) ServeFault
  pub own : List Effect
  pub ends : ending ≡ served answer
  pub parts : effects ≡ setting_up identity places ++ own
  pub session : IsSession (config_of identity places.own) turns (start cookie places.id words) old new answer own

-- What was done before a call failed, or memory was wanting, once the outer cookie was found.
abbrev pub IsCutShort : Identity → NestPlaces → Outside → Outside → SessionFault → List Effect → Type 0
IsCutShort identity places old new fault effects =
    (IsOfDisk old new fault × (effects ≡ [])) ⊎ ((IsOfEdge old new fault × (effects ≡ handing_out identity places.own)) ⊎ (IsOfLinks old new fault × (effects ≡ setting_up identity places)))

abbrev pub WasCutShort : Identity → NestPlaces → Outside → Outside → Ending → List Effect → Type 0
WasCutShort identity places old new (Ok x) effects = ⊥
WasCutShort identity places old new (Err NoCookie) effects = ⊥
WasCutShort identity places old new (Err (Session fault)) effects = IsCutShort identity places old new fault effects

-- The file has the cookie for the outer manager's socket, and then the session was served or something stood against it.
pub record LetsIn (words : List (List ℕ)) (identity : Identity) (places : NestPlaces) (turns : ℕ) (old new : Outside) (ending : Ending) (effects : List Effect) : Type 0 where
  pub cookie : Cookie
  pub file : FileIs old.files places.authority (λ bytes. HasCookie places.outer bytes cookie)
  pub ran : WasCutShort identity places old new ending effects ⊎ HasServed words identity places turns cookie old new ending effects

-- Why there was no outer cookie: the file has none, or it couldn't be fetched and read.
abbrev pub IsLeftOut : NestPlaces → Outside → Outside → Fault → Type 0
IsLeftOut places old new NoCookie = FileIs old.files places.authority (HasNone places.outer)
IsLeftOut places old new (Session fault) = IsOfLinks old new fault

-- Nothing was done, since there was no outer cookie.
pub record StaysOut (places : NestPlaces) (old new : Outside) (ending : Ending) (effects : List Effect) : Type 0 where
  pub fault : Fault
  pub is : ending ≡ Err fault
  pub cause : IsLeftOut places old new fault
  pub none : effects ≡ []

-- what a call with the words of a session inside another does
abbrev pub RunsSession : List (List ℕ) → Identity → NestPlaces → ℕ → Outside → Outside → Ending → List Effect → Type 0
RunsSession words identity places turns old new ending effects = StaysOut places old new ending effects ⊎ LetsIn words identity places turns old new ending effects
