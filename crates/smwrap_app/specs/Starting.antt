-- What is done before the client joins.
use Rattle.std.specs.Prelude.{◌≡◌, ◌⊎◌, ◌≤◌, ℕ, List, [], length, map, Result, Ok, Err}
use Rattle.sm_world.specs.Outside.{Added, NotFallen, Outside, Rose, adds}
use Rattle.sm_world.specs.declared.effects.Effect.{Effect}
use Rattle.ice_cookie.specs.declared.cookies.Cookie.{Cookie}
use Rattle.state_saver.specs.Plans.{IsPlan}
use Rattle.state_saver.specs.declared.plan.SavePlan.{SavePlan}
use Rattle.smwrap_app.specs.Copies.{Copy, copied}
use Rattle.smwrap_app.specs.Faults.{Ending}
use Rattle.smwrap_app.specs.Statuses.{Begins, Follows, NeverJoins, PutsBack, StopsEarly, plan_by}
use Rattle.smwrap_app.specs.Words.{Chosen}
use Rattle.smwrap_app.specs.declared.fault.Fault.{Fault}
use Rattle.smwrap_app.specs.declared.fault.Fault.TheVariants.{BadWords, Refused, StreamEnded, NoEntry, Link, Spent, NoMemory, Malformed, Disk}

-- What was chosen can be saved, and the ID fits into a message.
pub record IsFit (chosen : Chosen) : Type 0 where
  pub plan : IsPlan (plan_by chosen)
  pub id : length chosen.id ≤ 512

-- why a file couldn't be used
abbrev pub IsFileFault : Outside → Outside → Fault → Type 0
IsFileFault old new Disk = Rose old.faults.disk new.faults.disk
IsFileFault old new NoMemory = Unit {0}
IsFileFault old new BadWords = ⊥
IsFileFault old new Refused = ⊥
IsFileFault old new StreamEnded = ⊥
IsFileFault old new NoEntry = ⊥
IsFileFault old new Link = ⊥
IsFileFault old new Spent = ⊥
IsFileFault old new Malformed = ⊥

-- The state was put back, or nothing was done.
abbrev pub MayPutBack : SavePlan → Outside → Ending → List Effect → Type 0
MayPutBack plan files (Ok x) effects = PutsBack plan files effects
MayPutBack plan files (Err fault) effects = effects ≡ []

-- The program was started, or not.
abbrev pub MayBegin : Chosen → Outside → Outside → Result Cookie Fault → List Effect → Type 0
MayBegin chosen old new (Ok cookie) effects = Begins chosen old new cookie effects
MayBegin chosen old new (Err fault) effects = StopsEarly chosen old new fault effects

-- The client joined with files that are so, or couldn't, and made these copies.
pub record MayJoin (chosen : Chosen) (cookie : Cookie) (turns : ℕ) (peer_old peer_new files_old files_new : Outside) (ending : Ending) : Type 0 where
  pub copies : List Copy
  pub told : files_new.told ≡ adds files_old.told (map (copied (plan_by chosen)) copies)
  pub run : Added peer_old.told peer_new.told (λ es. Follows chosen cookie turns peer_old peer_new files_old files_new ending copies es ⊎ NeverJoins peer_old peer_new ending copies es)
  pub peer_counts : NotFallen peer_old.faults peer_new.faults
  pub file_counts : NotFallen files_old.faults files_new.faults
