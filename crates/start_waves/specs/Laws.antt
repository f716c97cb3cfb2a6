-- What waves keep, whatever waits.
use Rattle.std.specs.Prelude.{ℕ, ◌≡◌, ◌<◌, List, ◌++◌}
use Rattle.std.specs.List.{All}
use Rattle.std.specs.List.Sorted.{IsPermutation}
use Rattle.start_waves.specs.declared.ranks.Ranked.{Ranked}
use Rattle.start_waves.specs.Ranks.{lowest}
use Rattle.start_waves.specs.Waves.{next_wave, behind_wave}

-- The next wave and those behind it are all that wait, each once.
abbrev pub NoneIsLost : Type 0
NoneIsLost = (waiting : List Ranked) → IsPermutation waiting (next_wave waiting ++ behind_wave waiting)

abbrev pub HasPriority : ℕ → Ranked → Type 0
HasPriority priority it = it.priority ≡ priority

abbrev pub IsLater : ℕ → Ranked → Type 0
IsLater priority it = priority < it.priority

-- All of the next wave have the lowest priority, and all behind it have a higher one.
abbrev pub EarlierGoFirst : Type 0
EarlierGoFirst = (waiting : List Ranked) → All (HasPriority (lowest waiting)) (next_wave waiting) × All (IsLater (lowest waiting)) (behind_wave waiting)
