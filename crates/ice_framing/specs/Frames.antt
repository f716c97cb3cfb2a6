-- The frames of a stream (ICE, chapter 3, Message Format, and chapter 7).
use Rattle.std.specs.Prelude.{◌≡◌, ℕ, zero, suc, ◌+◌, ◌*◌, ◌<◌, ◌≤◌, ◌⊎◌, Bool, ◌&&◌, ◌==◌, nat_lt, nat_le, if◌then◌else◌, List, [], ◌∷◌, ◌++◌, length, take, drop, slice_index, Option, Some, None}
use Rattle.std.specs.List.{flat_map, AllByRecursion}
use Rattle.ice_values.specs.Numbers.{number}
use Rattle.ice_values.specs.declared.numbers.Endian.{Endian}
use Rattle.ice_values.specs.declared.numbers.Endian.TheVariants.{Lsb, Msb}
use Rattle.ice_framing.specs.declared.cutting.WholeFrame.{WholeFrame}
use Rattle.ice_framing.specs.declared.splitting.Oversize.{Oversize}

-- Where a stream stands: the order of its numbers, which is None until the first frame has gone, and
-- the bytes that came after the last frame that has gone.
pub record Standing : Type 0 where
  pub order : Option Endian
  pub held : List ℕ

-- before its first byte
abbrev pub beginning : Standing
beginning = record { order = None; held = [] }

-- once these bytes have come too
abbrev pub fed : Standing → List ℕ → Standing
fed at bytes = record { order = at.order; held = at.held ++ bytes }

-- The most units that a header may state, and the most bytes that a frame then has.
abbrev pub unit_limit : ℕ
unit_limit = 8192

abbrev pub byte_limit : ℕ
byte_limit = 65544

-- The units of 8 bytes that a header states behind itself: none as long as it isn't whole, and none in
-- the first frame, which is a header alone whatever it states.
abbrev pub units_in : Option Endian → List ℕ → ℕ
units_in None bytes = 0
units_in (Some e) bytes = if nat_lt (length bytes) 8 then 0 else number e 4 (drop 4 bytes)

abbrev pub units : Standing → ℕ
units at = units_in at.order at.held

-- how many bytes the next frame has, as far as its header has come
abbrev pub wanted : Standing → ℕ
wanted at = 8 + 8 * units at

-- The order of a frame's numbers: byte 2 of the first frame states it for all, 1 for the most
-- significant byte first.
abbrev pub endian_in : Option Endian → List ℕ → Endian
endian_in None bytes = if slice_index bytes 2 == 1 then Msb else Lsb
endian_in (Some e) bytes = e

abbrev pub endian : Standing → Endian
endian at = endian_in at.order at.held

-- less than the next frame has come
abbrev pub IsPartial : Standing → Type 0
IsPartial at = length at.held < wanted at

-- a header states more units than a frame may have
abbrev pub IsOversize : Standing → Type 0
IsOversize at = unit_limit < units at

abbrev pub is_oversize : Standing → Bool
is_oversize at = nat_lt unit_limit (units at)

-- What a splitter holds: no more than the next frame and than the largest, for which there is room.
pub record IsHeld (order : Option Endian) (bytes : List ℕ) (capacity : ℕ) : Type 0 where
  pub within_frame : length bytes ≤ 8 + 8 * units_in order bytes
  pub within_limit : length bytes ≤ byte_limit
  pub room : byte_limit ≤ capacity

-- the header alone
abbrev pub header_of : Standing → Standing
header_of at = record { order = at.order; held = take 8 at.held }

-- whether a whole frame stands in front
abbrev pub has_frame : Standing → Bool
has_frame at = nat_le (wanted at) (length at.held) && nat_le (units at) unit_limit

-- the frame in front, and where the stream stands once it has gone
abbrev pub first_frame : Standing → WholeFrame
first_frame at = record { endian = endian at; bytes = take (wanted at) at.held }

abbrev pub without_first : Standing → Standing
without_first at = record { order = Some (endian at); held = drop (wanted at) at.held }

-- A stream's whole frames, and where it stands once they have gone.
pub record Cut : Type 0 where
  pub frames : List WholeFrame
  pub standing : Standing

-- no frame
abbrev pub uncut : Standing → Cut
uncut at = record { frames = []; standing = at }

-- these frames, and then what was cut
abbrev pub behind : List WholeFrame → Cut → Cut
behind front cut = record { frames = front ++ cut.frames; standing = cut.standing }

-- the frames in front, of at most so many
abbrev pub cut_upto : ℕ → Standing → Cut
cut_upto zero at = uncut at
cut_upto (suc n) at = if has_frame at then behind (first_frame at ∷ []) (cut_upto n (without_first at)) else uncut at

-- All of them: a header that states too much ends the list.
unfoldable pub cut : Standing → Cut
cut at = cut_upto (length at.held) at

-- the frames of a whole stream, and where it stands behind them
abbrev pub frames_of : List ℕ → List WholeFrame
frames_of stream = (cut (fed beginning stream)).frames

abbrev pub standing_of : List ℕ → Standing
standing_of stream = (cut (fed beginning stream)).standing

-- How a splitter stands that was fed a stream and gave its frames: where the stream does, or with the
-- header that states too much.
abbrev pub StandsAt : Standing → Standing → Option Oversize → Type 0
StandsAt at splitter None = (splitter ≡ at) × IsPartial at × (units at ≤ unit_limit)
StandsAt at splitter (Some error) = (splitter ≡ header_of at) × IsOversize at × (error.units ≡ units at)

-- How a stream ends: with part of a frame, or with a header that states too much.
abbrev pub EndsIn : Standing → Option Oversize → Type 0
EndsIn at None = IsPartial at × (units at ≤ unit_limit)
EndsIn at (Some error) = IsOversize at × (error.units ≡ units at)

-- A frame behind the first: a header in the stream's order, and the units that it states.
pub record IsLater (e : Endian) (frame : WholeFrame) : Type 0 where
  pub order : frame.endian ≡ e
  pub header : 8 ≤ length frame.bytes
  pub units : length frame.bytes ≡ 8 + 8 * number e 4 (drop 4 frame.bytes)
  pub limit : length frame.bytes ≤ byte_limit

-- The frames of a stream: the first is a header alone, and its byte 2 gives the order of all.
abbrev pub AreFrames : List WholeFrame → Type 0
AreFrames [] = Unit {0}
AreFrames (first ∷ later) = (length first.bytes ≡ 8) × (first.endian ≡ endian_in None first.bytes) × AllByRecursion (IsLater first.endian) later

abbrev pub order_of : List WholeFrame → Option Endian
order_of [] = None
order_of (first ∷ later) = Some first.endian

-- A stream is its frames and then less than a frame, or a header that states too much and whatever
-- comes behind it.
pub record IsMadeOf (stream : List ℕ) (front : List WholeFrame) (at : Standing) : Type 0 where
  pub joined : flat_map (λ frame. frame.bytes) front ++ at.held ≡ stream
  pub shapes : AreFrames front
  pub order : at.order ≡ order_of front
  pub end : IsPartial at ⊎ IsOversize at
