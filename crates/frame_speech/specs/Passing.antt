-- Frames of a stream with which somebody has nothing to do, who looks for others.
use Rattle.std.specs.Prelude.{◌≡◌, ℕ, ◌≤◌, ◌==◌, ◌&&◌, Bool, true, false, if◌then◌else◌, List, [], ◌∷◌, length, Option, Some, None}
use Rattle.std.specs.List.{AllByRecursion}
use Rattle.ice_values.specs.Frames.{IsFrame}
use Rattle.ice_values.specs.declared.numbers.Endian.{Endian}
use Rattle.ice_framing.specs.Frames.{Standing, fed, wanted, has_frame, cut}
use Rattle.ice_framing.specs.declared.cutting.WholeFrame.{WholeFrame}
use Rattle.frame_speech.specs.Speech.{is_message, is_whole}
use Rattle.frame_speech.specs.Streams.{IsAt, Cuts}
use Rattle.frame_speech.specs.declared.speech.Speech.{Speech}
use Rattle.frame_speech.specs.declared.speech.Speech.TheVariants.{Silent, Greeted, Speaks, Lost}
use Rattle.frame_speech.specs.declared.stream.CutStream.{CutStream}

-- behind a stream's first frame, with these bytes to be cut
abbrev pub from : Endian → List ℕ → Standing
from e bytes = record { order = Some e; held = bytes }

-- the frame at the front, which is whole, has so many bytes
pub record IsFront (at : Standing) (len : ℕ) : Type 0 where
  pub found : has_frame at ≡ true
  pub len_is : len ≡ wanted at
  pub some : 8 ≤ len

-- a frame that is ignored, with as many units as it states
abbrev pub IsPassed : (WholeFrame → Type 0) → WholeFrame → Type 0
IsPassed ignores f = (is_whole f ≡ true) × ignores f

-- These bytes are whole frames, all of which are ignored, and which come between two frames: the stream stands behind them as it stood.
pub record Passes (ignores : WholeFrame → Type 0) (at : Standing) (bytes : List ℕ) : Type 0 where
  pub none_held : at.held ≡ []
  pub stands : (cut (fed at bytes)).standing ≡ at
  pub frames : AllByRecursion (IsPassed ignores) (cut (fed at bytes)).frames

-- Behind any stream that was cut so far these frames come, all of which are ignored; and it is cut so far still.
pub record PassesBy (ignores : WholeFrame → Type 0) (bytes : List ℕ) (cut : CutStream) : Type 0 where
  pub new : List WholeFrame
  pub cuts : (stream : List ℕ) → IsAt stream cut → Cuts stream bytes new cut
  pub frames : AllByRecursion (IsPassed ignores) new

-- a piece as the frame that it is
abbrev pub as_frame : Endian → List ℕ → WholeFrame
as_frame e bytes = record { endian = e; bytes = bytes }

-- These bytes are one whole frame, which comes between two frames: the stream stands behind it as it stood.
pub record ComesAlone (e : Endian) (bytes : List ℕ) (at : Standing) : Type 0 where
  pub frame : IsFrame e bytes
  pub whole : is_whole (as_frame e bytes) ≡ true
  pub stands : (cut (fed at bytes)).standing ≡ at
  pub frames : (cut (fed at bytes)).frames ≡ as_frame e bytes ∷ []

-- the same of bytes behind a stream's first frame, as it is asked: their header states no more units than a frame may have, and as many as they are
abbrev pub is_alone : Endian → List ℕ → Bool
is_alone e bytes = has_frame (from e bytes) && wanted (from e bytes) == length bytes

abbrev pub order_under : Option Endian → List ℕ → Option Endian
order_under None held = None
order_under (Some e) held = if length held == 0 then Some e else None

-- the order of the next frame of a stream that stands between two frames
abbrev pub order_between : Standing → Option Endian
order_between at = order_under at.order at.held

abbrev pub alone_under : Option Endian → List ℕ → List ℕ → Option Endian
alone_under None held bytes = None
alone_under (Some e) held bytes = if length held == 0 && is_alone e bytes then Some e else None

-- the order of a piece that is one whole frame and comes between two frames
abbrev pub alone_in : Standing → List ℕ → Option Endian
alone_in at bytes = alone_under at.order at.held bytes

-- the same behind any stream that was cut so far
pub record IsAlone (e : Endian) (bytes : List ℕ) (cut : CutStream) : Type 0 where
  pub frame : IsFrame e bytes
  pub whole : is_whole (as_frame e bytes) ≡ true
  pub cuts : (stream : List ℕ) → IsAt stream cut → Cuts stream bytes (as_frame e bytes ∷ []) cut

-- a frame that may say something of its sender
abbrev pub may_say : Speech → WholeFrame → Bool
may_say Silent f = true
may_say Greeted f = true
may_say (Speaks opcode) f = is_message opcode 12 f
may_say Lost f = false

abbrev pub SaysNothing : Speech → WholeFrame → Type 0
SaysNothing speech f = may_say speech f ≡ false
