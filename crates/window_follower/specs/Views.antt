-- What is known of the windows of a program.
use Rattle.std.specs.Prelude.{ℕ, ◌==◌, Bool, false, ◌&&◌, if◌then◌else◌, List, [], ◌∷◌, flat_map, find, is_some, Option, Some, None}
use Rattle.std.specs.Option.{option_or}
use Rattle.window_follower.specs.Facts.{process_of}
use Rattle.window_follower.specs.Kinds.{kind_of}
use Rattle.window_follower.specs.Windows.{is_of, is_listed}
use Rattle.window_follower.specs.declared.facts.WindowFacts.{WindowFacts}
use Rattle.window_follower.specs.declared.windows.Followed.{Followed}
use Rattle.window_follower.specs.declared.kinds.Kind.{Kind}

abbrev pub process_at : Option Followed → Option ℕ
process_at None = None
process_at (Some row) = process_of row.facts

-- the process that is known of a window, if any is named
abbrev pub process_by : Option ℕ → List Followed → Option ℕ
process_by None rows = None
process_by (Some window) rows = process_at (find (is_of window) rows)

-- A window's own process, and without one that of the window that leads its program's.
abbrev pub own_process : List Followed → WindowFacts → Option ℕ
own_process rows facts = option_or (process_of facts) (process_by facts.leader rows)

abbrev pub own_process_at : List Followed → Option Followed → Option ℕ
own_process_at rows None = None
own_process_at rows (Some row) = own_process rows row.facts

abbrev pub own_process_by : List Followed → Option ℕ → Option ℕ
own_process_by rows None = None
own_process_by rows (Some window) = own_process_at rows (find (is_of window) rows)

-- A window that belongs to another one is of that one's program, whatever its own process is.
abbrev pub program_of : List Followed → WindowFacts → Option ℕ
program_of rows facts = option_or (own_process_by rows facts.transient_for) (own_process rows facts)

abbrev pub is_process : ℕ → Option ℕ → Bool
is_process process None = false
is_process process (Some other) = other == process

-- a window, where it was in a list and is of a process
abbrev pub window_if : List Followed → ℕ → Followed → List ℕ
window_if rows process row = if row.listed && is_process process (program_of rows row.facts) then row.window ∷ [] else []

-- the windows of a process
abbrev pub windows_of : ℕ → List Followed → List ℕ
windows_of process rows = flat_map (window_if rows process) rows

-- it is transient for a window that was in a list
abbrev pub belongs : List Followed → Option ℕ → Bool
belongs rows None = false
belongs rows (Some window) = is_listed window rows

abbrev pub kind_at : List Followed → Option Followed → Option Kind
kind_at rows None = None
kind_at rows (Some row) = Some (kind_of (belongs rows row.facts.transient_for) row.facts)

-- the kind of a window
abbrev pub kind_in : ℕ → List Followed → Option Kind
kind_in window rows = kind_at rows (find (is_of window) rows)

abbrev pub has_id : Option Followed → Bool
has_id None = false
has_id (Some row) = is_some row.facts.client_id

abbrev pub has_id_by : List Followed → Option ℕ → Bool
has_id_by rows None = false
has_id_by rows (Some window) = has_id (find (is_of window) rows)

abbrev pub time_at : Option Followed → Option ℕ
time_at None = None
time_at (Some row) = row.facts.user_time

abbrev pub time_by : List Followed → WindowFacts → Option ℕ → Option ℕ
time_by rows facts None = facts.user_time
time_by rows facts (Some window) = time_at (find (is_of window) rows)

abbrev pub time_of : List Followed → Option Followed → Option ℕ
time_of rows None = None
time_of rows (Some row) = time_by rows row.facts row.facts.user_time_window

-- when the user last did something in a window, by the window that says it
abbrev pub user_time_in : ℕ → List Followed → Option ℕ
user_time_in window rows = time_of rows (find (is_of window) rows)
