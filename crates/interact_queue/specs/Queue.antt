-- The token for talking with the user. One client has it at a time, and the others wait for it in
-- the order in which they asked.
use Rattle.std.specs.Prelude.{ℕ, ◌==◌, Bool, true, false, not, if◌then◌else◌, List, [], ◌∷◌, filter, Option, Some, None}
use Rattle.std.specs.List.{list_any}

-- those that wait, in order, who has the token, and how many more may ask before memory is needed
pub record Queue : Type 0 where
  pub waiting : List ℕ
  pub holder : Option ℕ
  pub spare : ℕ

abbrev pub is_in : ℕ → List ℕ → Bool
is_in conn conns = list_any (λ other. other == conn) conns

abbrev pub is_holder : ℕ → Option ℕ → Bool
is_holder conn None = false
is_holder conn (Some other) = other == conn

-- the other connections, in their order
abbrev pub without : ℕ → List ℕ → List ℕ
without conn conns = filter (λ other. not (other == conn)) conns

-- who has the token after this connection left
abbrev pub holder_without : ℕ → Option ℕ → Option ℕ
holder_without conn None = None
holder_without conn (Some other) = if other == conn then None else Some other

-- who gets the token next: the first that waits, where nobody has it
abbrev pub next_holder : Bool → List ℕ → Option ℕ
next_holder true waiting = None
next_holder false [] = None
next_holder false (conn ∷ waiting) = Some conn
