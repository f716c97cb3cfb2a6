-- What a display answers to a set-up (X protocol, appendix B: Connection Setup).
use Rattle.std.specs.Prelude.{ℕ, zero, suc, ◌+◌, ◌*◌, ◌==◌, nat_lt, if◌then◌else◌, List, length, take, drop, slice_index, Option, Some, None}
use Rattle.ice_values.specs.Cells.{pad_len}
use Rattle.ice_values.specs.Reading.{◌>>=◌, skip_at}
use Rattle.display_messages.specs.Places.{short_at, long_at}
use Rattle.display_messages.specs.declared.reply.SetupAnswer.{SetupAnswer}
use Rattle.display_messages.specs.declared.reply.SetupAnswer.TheVariants.{Refused, MoreWanted, Accepted, NoScreen, NotUnderstood}

-- what is left behind so many of a kind, each of which leaves what step says
unfoldable pub behind_many : (List ℕ → Option (List ℕ)) → ℕ → List ℕ → Option (List ℕ)
behind_many step zero bytes = Some bytes
behind_many step (suc n) bytes = do
  rest ← step bytes
  behind_many step n rest

-- A depth has 8 bytes, and 24 for each of the visuals that are counted at 2.
abbrev pub behind_depth : List ℕ → Option (List ℕ)
behind_depth bytes = if nat_lt (length bytes) 8 then None else skip_at (8 + 24 * short_at 2 bytes) bytes

-- A screen has 40 bytes, and the depths that are counted at 39.
abbrev pub behind_screen : List ℕ → Option (List ℕ)
behind_screen bytes = if nat_lt (length bytes) 40 then None else behind_many behind_depth (slice_index bytes 39) (drop 40 bytes)

-- it begins with its root window
abbrev pub root_in : List ℕ → Option ℕ
root_in bytes = if nat_lt (length bytes) 4 then None else Some (long_at 0 bytes)

-- The screens stand behind 40 bytes, the vendor's name, counted at 24 and padded, and 8 bytes for each of the formats that are counted at 29.
abbrev pub screens_in : List ℕ → Option (List ℕ)
screens_in bytes = skip_at (40 + (short_at 24 bytes + pad_len (short_at 24 bytes) 4) + 8 * slice_index bytes 29) bytes

-- the root of the screen of this number, of those that are counted at 28
unfoldable pub root_of : ℕ → List ℕ → Option ℕ
root_of screen bytes = do
  screens ← screens_in bytes
  rest ← behind_many behind_screen screen screens
  root_in rest

abbrev pub accepted : ℕ → List ℕ → Option ℕ
accepted screen bytes = if nat_lt (length bytes) 40 then None else if nat_lt screen (slice_index bytes 28) then root_of screen bytes else None

abbrev pub admitted : Option ℕ → SetupAnswer
admitted (Some root) = Accepted root
admitted None = NoScreen

-- a reason of as many bytes as are counted at 1
abbrev pub refused : List ℕ → SetupAnswer
refused bytes = if nat_lt (length (drop 8 bytes)) (slice_index bytes 1) then NotUnderstood else Refused (take (slice_index bytes 1) (drop 8 bytes))

abbrev pub setup_answer : ℕ → List ℕ → SetupAnswer
setup_answer screen bytes =
    if nat_lt (length bytes) 8 then NotUnderstood
    else if slice_index bytes 0 == 0 then refused bytes
    else if slice_index bytes 0 == 1 then admitted (accepted screen bytes)
    else if slice_index bytes 0 == 2 then MoreWanted
    else NotUnderstood
