-- What the calls of a peer bring.
use Rattle.std.specs.Prelude.{◌≡◌, ℕ, cond, List, [], ◌∷◌, Option, None, Some, Result, Ok, Err}
use Rattle.std.specs.Str.{bytes_eq}
use Rattle.sm_world.specs.declared.events.Event.{Event}
use Rattle.sm_world.specs.declared.events.Event.TheVariants.{Piece, Gone}

-- the event of a receive: its bytes, or the stream's end where there are none
abbrev pub received : List ℕ → Event
received [] = Gone 0
received (b ∷ bytes) = Piece 0 (b ∷ bytes)

-- the bytes of the first file with this path
abbrev pub file_at : List ℕ → List (List ℕ × List ℕ) → Option (List ℕ)
file_at path [] = None
file_at path (file ∷ files) = cond (bytes_eq file.0 path) (Some file.1) (file_at path files)

-- Where the files are told, what is fetched is the one with this path.
abbrev pub Fetches : {E : Type 0} → Option (List (List ℕ × List ℕ)) → List ℕ → Result (List ℕ) E → Type 0
Fetches None path result = Unit {0}
Fetches (Some files) path (Ok bytes) = file_at path files ≡ Some bytes
Fetches (Some files) path (Err e) = Unit {0}
