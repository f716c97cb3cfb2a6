-- What the calls of an agent do.
use Rattle.std.specs.Prelude.{◌≡◌, Bool, List, ◌++◌, Option, None, Some}
use Rattle.owned_lists.specs.declared.failures.NoMemory.{NoMemory}
use Rattle.outer_agent.specs.Script.{Keeper}
use Rattle.outer_agent.specs.Standing.{Stand}
use Rattle.outer_agent.specs.declared.acts.AgentAct.{AgentAct}
use Rattle.outer_agent.specs.declared.progress.Progress.{Progress}

abbrev pub keeper_of : Progress → Keeper
keeper_of progress = record { talk = progress.core.talk; words = progress.words }

abbrev pub stand_of : Progress → Bool → Stand
stand_of progress starved = record { keeper = keeper_of progress; splitter = progress.core.splitter; starved = starved }

-- These acts were added, all of them; where memory was wanting, nothing is said.
abbrev pub Carries : List AgentAct → List AgentAct → List AgentAct → Option NoMemory → Type 0
Carries old new line None = new ≡ old ++ line
Carries old new line (Some e) = Unit {0}
