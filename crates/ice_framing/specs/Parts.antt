-- The parts of a stream, one by one: its whole frames, and the header of an oversize frame, behind which nothing is cut.
use Rattle.std.specs.Prelude.{ℕ, List, [], ◌∷◌, ◌++◌, map, length, take, drop, if◌then◌else◌}
use Rattle.ice_framing.specs.Frames.{Standing, beginning, fed, cut, is_oversize}
use Rattle.ice_framing.specs.declared.cutting.WholeFrame.{WholeFrame}

pub data Part : Type 0 where
  Whole : WholeFrame → Part
  TooMuch : List ℕ → Part

-- the header in front, where its frame is oversize
abbrev pub oversize_part : Standing → List Part
oversize_part at = if is_oversize at then TooMuch (take 8 at.held) ∷ [] else []

-- the parts from where a stream stands
abbrev pub parts_at : Standing → List Part
parts_at at = map Whole (cut at).frames ++ oversize_part (cut at).standing

abbrev pub parts_of : List ℕ → List Part
parts_of stream = parts_at (fed beginning stream)

-- the parts that a piece brings
abbrev pub new_parts : List ℕ → List ℕ → List Part
new_parts stream piece = drop (length (parts_of stream)) (parts_of (stream ++ piece))
