-- What the lines of a script say.
use Rattle.std.specs.Prelude.{◌≡◌, ◌⊎◌, ℕ, ◌<◌, ◌≤◌, ◌^◌, List, [], ◌∷◌, ◌++◌, length, codes, Option, Some, None}
use Rattle.std.specs.Fmt.{decimal}
use Rattle.sm_world.specs.declared.events.Event.{Event}
use Rattle.sm_world.specs.declared.events.Event.TheVariants.{Joined, Piece, Gone, Operator, Tick, End}
use Rattle.control_lines.specs.Fields.{SaysBytes}
use Rattle.control_lines.specs.Orders.{SaysOrder}
use Rattle.control_lines.specs.declared.orders.OrderRefusal.{OrderRefusal}
use Rattle.control_lines.specs.declared.orders.OrderRefusal.TheVariants.{BadLine, NoMemory}

-- the fields of a piece, which has at most 65,536 bytes
pub record SaysPiece (fields : List ℕ) (n : ℕ) (bytes : List ℕ) : Type 0 where
  pub said : SaysBytes fields n bytes
  pub within : length bytes ≤ 65536

-- The line, without its newline, says this event.
abbrev pub Says : List ℕ → Event → Type 0
Says line (Joined n) = (line ≡ codes "join " ++ decimal n) × (n < 2 ^ 32)
Says line (Piece n bytes) = (fields : List ℕ) × (line ≡ codes "piece " ++ fields) × SaysPiece fields n bytes
Says line (Gone n) = (line ≡ codes "gone " ++ decimal n) × (n < 2 ^ 32)
Says line (Operator order) = (rest : List ℕ) × (line ≡ codes "order " ++ rest) × SaysOrder rest order
Says line (Tick milliseconds) = (line ≡ codes "tick " ++ decimal milliseconds) × (milliseconds < 2 ^ 64)
Says line End = ⊥

-- The line is skipped: it is empty, or it begins with # (35).
abbrev pub IsSkipped : List ℕ → Type 0
IsSkipped [] = Unit {0}
IsSkipped (b ∷ line) = b ≡ 35

-- What a line gives: the event that it says, or none where it is skipped.
abbrev pub Gives : List ℕ → Option Event → Type 0
Gives line (Some event) = Says line event
Gives line None = IsSkipped line

-- why a line that could have this meaning has none; want of memory has no cause
abbrev pub IsRefusal : {Meaning : Type 0} → (Meaning → Type 0) → OrderRefusal → Type 0
IsRefusal {Meaning} Means BadLine = (meaning : Meaning) → ¬ (Means meaning)
IsRefusal Means NoMemory = Unit {0}

-- the first of some events is what a line says, and the others are so too
abbrev pub SaysFirst : List ℕ → (List Event → Type 0) → List Event → Type 0
SaysFirst line Others [] = ⊥
SaysFirst line Others (event ∷ events) = Says line event × Others events

-- The lines say these events in their order. A skipped line says nothing, and each other line says one.
abbrev pub SayAll : List (List ℕ) → List Event → Type 0
SayAll [] events = events ≡ []
SayAll (line ∷ lines) events = (IsSkipped line × SayAll lines events) ⊎ SaysFirst line (SayAll lines) events
