-- In which waves the programs of a login are started: those of each priority together, the lowest
-- first, and of one wave in the order in which they were handed over.
use Rattle.std.specs.Prelude.{ℕ, ◌+◌, ◌-◌, ◌^◌, ◌==◌, nat_le, min, Bool, true, not, ◌&&◌, ◌||◌, if◌then◌else◌, List, [], ◌∷◌, ◌++◌, length, filter}
use Rattle.owned_lists.specs.declared.commands.Command.{Command}
use Rattle.start_waves.specs.Ranks.{lowest, is_ranked, priority_of_command}
use Rattle.start_waves.specs.declared.ranks.Ranked.{Ranked}
use Rattle.start_waves.specs.declared.waves.Turn.{Turn}
use Rattle.start_waves.specs.declared.waves.Turn.TheVariants.{Apart, First, Later}

-- A login, as far as its programs were started.
pub record Login : Type 0 where
  -- its programs
  pub ranks : List Ranked
  -- those that were handed over and aren't started yet, in that order
  pub waiting : List Ranked
  -- the first wave was handed over
  pub begun : Bool
  -- how many of the last wave are still to join
  pub awaited : ℕ
  -- how many milliseconds have passed since the last wave began
  pub passed : ℕ

abbrev pub command_in : Ranked → Command
command_in it = it.command

-- The waves

abbrev pub has_priority : ℕ → Ranked → Bool
has_priority priority it = it.priority == priority

abbrev pub has_other_priority : ℕ → Ranked → Bool
has_other_priority priority it = not (has_priority priority it)

-- the next wave: of those that wait, all of the lowest priority, in their order
abbrev pub next_wave : List Ranked → List Ranked
next_wave waiting = filter (has_priority (lowest waiting)) waiting

-- those that wait on behind it, in their order
abbrev pub behind_wave : List Ranked → List Ranked
behind_wave waiting = filter (has_other_priority (lowest waiting)) waiting

-- When a program is started

-- Until the first wave has begun, a program of the login is of the first wave where it has the lowest
-- priority of all, and else of a later one. All else is started apart from any wave.
abbrev pub turn_of : Login → Command → Turn
turn_of login command =
    if login.begun || not (is_ranked command login.ranks) then Apart else (if priority_of_command command login.ranks == lowest login.ranks then First else Later)

abbrev pub put : Command → Login → Turn → Login
put command login Apart = login
put command login First = record login { awaited = min (login.awaited + 1) (2 ^ 64 - 1) }
put command login Later = record login { waiting = login.waiting ++ record { command = command; priority = priority_of_command command login.ranks } ∷ [] }

-- the login once a command was handed over
abbrev pub with_turn : Command → Login → Login
with_turn command login = put command login (turn_of login command)

abbrev pub is_left : Login → Bool
is_left login = not (length login.waiting == 0)

-- one of the last wave has joined
abbrev pub settled : Login → Login
settled login = record login { awaited = login.awaited - 1 }

-- so many milliseconds have passed
abbrev pub passed_on : ℕ → Login → Login
passed_on milliseconds login = record login { passed = min (login.passed + milliseconds) (2 ^ 64 - 1) }

-- The next wave is due where all of the last one have joined, or two seconds have passed.
abbrev pub is_due : Login → Bool
is_due login = is_left login && (login.awaited == 0 || nat_le 2000 login.passed)

abbrev pub due_wave : Login → List Ranked
due_wave login = if is_due login then next_wave login.waiting else []

-- the login once the next wave was handed out, and waits for as many as it has
abbrev pub wave_gone : Login → Login
wave_gone login = record login { waiting = behind_wave login.waiting; begun = true; awaited = length (next_wave login.waiting); passed = 0 }

-- the login once the wave was handed out that is due, if one is
abbrev pub gone_on : Login → Login
gone_on login = if is_due login then wave_gone login else record login { begun = true }
