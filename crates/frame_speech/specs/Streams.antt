-- One direction of a connection, as it is cut into frames.
use Rattle.std.specs.Prelude.{◌≡◌, ℕ, List, ◌++◌, flat_map, Option, MatchOption, None}
use Rattle.ice_framing.specs.Frames.{Standing, frames_of, standing_of, StandsAt, IsOversize}
use Rattle.ice_framing.specs.declared.cutting.WholeFrame.{WholeFrame}
use Rattle.frame_speech.specs.declared.stream.CutStream.{CutStream}

-- these frames one behind the other
abbrev pub bytes_in : List WholeFrame → List ℕ
bytes_in frames = flat_map (λ (f : WholeFrame). f.bytes) frames

-- a stream stands here, where it goes on; behind a header that states too much it doesn't
abbrev pub GoesOn : Standing → Option Standing → Type 0
GoesOn at rest = MatchOption rest (IsOversize at) (λ (r : Standing). StandsAt at r None)

-- this is how far a stream was cut
abbrev pub IsAt : List ℕ → CutStream → Type 0
IsAt stream cut = GoesOn (standing_of stream) cut.rest

-- These frames came behind those of the stream, which was cut so far then.
pub record Cuts (stream bytes : List ℕ) (new : List WholeFrame) (after : CutStream) : Type 0 where
  pub frames : frames_of (stream ++ bytes) ≡ frames_of stream ++ new
  pub stands : IsAt (stream ++ bytes) after
