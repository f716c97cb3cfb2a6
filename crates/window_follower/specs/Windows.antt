-- The windows whose changes are heard.
use Rattle.std.specs.Prelude.{ℕ, ◌==◌, Bool, true, not, ◌&&◌, if◌then◌else◌, List, [], ◌∷◌, filter}
use Rattle.std.specs.List.{list_any}
use Rattle.window_follower.specs.Facts.{learned, nothing_known, is_withdrawn}
use Rattle.window_follower.specs.declared.facts.Fact.{Fact}
use Rattle.window_follower.specs.declared.windows.Followed.{Followed}

abbrev pub is_of : ℕ → Followed → Bool
is_of window row = row.window == window

abbrev pub is_followed : ℕ → List Followed → Bool
is_followed window rows = list_any (is_of window) rows

-- it was in a list of windows
abbrev pub is_listed : ℕ → List Followed → Bool
is_listed window rows = list_any (λ row. row.window == window && row.listed) rows

-- a window of which nothing is known
abbrev pub fresh : ℕ → Bool → Followed
fresh window listed = record { window = window; listed = listed; facts = nothing_known }

-- the first row of a window is changed
abbrev pub changed : ℕ → (Followed → Followed) → List Followed → List Followed
changed window change [] = []
changed window change (row ∷ rows) = if row.window == window then change row ∷ rows else row ∷ changed window change rows

-- the window was in a list
abbrev pub marked : ℕ → List Followed → List Followed
marked window rows = changed window (λ row. record row { listed = true }) rows

-- something was heard of the window
abbrev pub told : ℕ → Fact → List Followed → List Followed
told window fact rows = changed window (λ row. record row { facts = learned fact row.facts }) rows

-- a window that was in a list, and is unmapped and withdrawn
abbrev pub has_left : Followed → Bool
has_left row = row.listed && is_withdrawn row.facts.mapped row.facts.state

abbrev pub settled : List Followed → List Followed
settled rows = filter (λ row. not (has_left row)) rows

abbrev pub forgotten : ℕ → List Followed → List Followed
forgotten window rows = filter (λ row. not (row.window == window)) rows
