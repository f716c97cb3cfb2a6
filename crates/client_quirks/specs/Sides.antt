-- One party's stream, as it is cut.
use Rattle.std.specs.Prelude.{◌≡◌, ℕ, ◌==◌, Bool, false, List, [], ◌++◌, length, Option, Some, None, MatchOption}
use Rattle.ice_values.specs.declared.numbers.Endian.{Endian}
use Rattle.std.specs.List.{AllByRecursion}
use Rattle.ice_framing.specs.Frames.{Standing, fed, cut, frames_of, standing_of, IsOversize}
use Rattle.ice_framing.specs.declared.cutting.WholeFrame.{WholeFrame}
use Rattle.frame_speech.specs.Passing.{IsPassed, alone_in}
use Rattle.frame_speech.specs.Speech.{speech_behind}
use Rattle.frame_speech.specs.declared.speech.Speech.TheVariants.{Silent}
use Rattle.client_quirks.specs.declared.side.Side.{Side}

-- the frames that a piece makes whole
abbrev pub new_frames : Option Standing → List ℕ → List WholeFrame
new_frames None piece = []
new_frames (Some cutter) piece = (cut (fed cutter piece)).frames

-- how many bytes came behind the last whole frame
abbrev pub held_of : Option Standing → ℕ
held_of None = 0
held_of (Some cutter) = length cutter.held

-- the order of a piece that is one whole frame and comes between two frames
abbrev pub alone_of : Option Standing → List ℕ → Option Endian
alone_of None piece = None
alone_of (Some cutter) piece = alone_in cutter piece

-- the stream goes on, and stands between two frames
abbrev pub is_between : Option Standing → Bool
is_between None = false
is_between (Some cutter) = length cutter.held == 0

-- a stream stands here, where it goes on; behind a header that states too much it doesn't
abbrev pub GoesOn : Standing → Option Standing → Type 0
GoesOn at rest = MatchOption rest (IsOversize at) (λ (c : Standing). c ≡ at)

-- where the stream stands behind the piece
abbrev pub CutsOn : Option Standing → List ℕ → Option Standing → Type 0
CutsOn None piece new = new ≡ None
CutsOn (Some old) piece new = GoesOn (cut (fed old piece)).standing new

-- a piece is whole frames, all of which are ignored, and the stream stands behind it as it stood
pub record GoesBy (ignores : WholeFrame → Type 0) (cutter : Option Standing) (piece : List ℕ) : Type 0 where
  pub cuts : CutsOn cutter piece cutter
  pub frames : AllByRecursion (IsPassed ignores) (new_frames cutter piece)

-- what is known of a party that has said all this
pub record IsSide (stream : List ℕ) (side : Side) : Type 0 where
  pub stands : GoesOn (standing_of stream) side.cutter
  pub understood : side.speech ≡ speech_behind Silent (frames_of stream)

-- Whatever the party had said before, this came behind it.
abbrev pub Follows : Side → List ℕ → Side → Type 0
Follows old piece new = (stream : List ℕ) → IsSide stream old → IsSide (stream ++ piece) new
