-- What the calls of a keeper do.
use Rattle.std.specs.Prelude.{◌≡◌, Bool, List, ◌++◌, Option, None, Some}
use Rattle.owned_lists.specs.declared.failures.NoMemory.{NoMemory}
use Rattle.program_keeper.specs.Script.{Keeper}
use Rattle.program_keeper.specs.Standing.{Stand}
use Rattle.program_keeper.specs.declared.acts.KeeperAct.{KeeperAct}
use Rattle.program_keeper.specs.declared.progress.Progress.{Progress}

abbrev pub keeper_of : Progress → Keeper
keeper_of progress = record { talk = progress.core.talk; set = progress.set; program = progress.program }

abbrev pub stand_of : Progress → Bool → Stand
stand_of progress starved = record { keeper = keeper_of progress; splitter = progress.core.splitter; starved = starved }

-- These acts were added, all of them; where memory was wanting, nothing is said.
abbrev pub Carries : List KeeperAct → List KeeperAct → List KeeperAct → Option NoMemory → Type 0
Carries old new line None = new ≡ old ++ line
Carries old new line (Some e) = Unit {0}
