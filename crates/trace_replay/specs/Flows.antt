-- What is kept of a stream, and what a piece of it does to that.
use Rattle.std.specs.Prelude.{◌≡◌, ℕ, ◌+◌, ◌<◌, ◌≤◌, ◌^◌, Bool, true, false, List, [], ◌∷◌, ◌++◌, length, map, None}
use Rattle.ice_framing.specs.Frames.{standing_of, StandsAt, IsOversize}
use Rattle.ice_framing.specs.Parts.{Part, Whole, TooMuch, parts_of, new_parts}
use Rattle.trace_replay.specs.declared.flows.Brought.{Brought}
use Rattle.trace_replay.specs.declared.flows.Progress.{Progress}
use Rattle.trace_replay.specs.declared.flows.Progress.TheVariants.{Going, Ended}

-- This is how far a stream was read; its parts are counted as far as there are numbers.
abbrev pub IsReadTo : List ℕ → Progress → Type 0
IsReadTo stream (Going flow) = StandsAt (standing_of stream) flow.remainder None × (length stream < 2 ^ 64 → flow.shown ≡ length (parts_of stream))
IsReadTo stream Ended = IsOversize (standing_of stream)

-- the header behind the frames, where one ended the stream
abbrev pub IsEnd : Bool → List Part → Type 0
IsEnd false parts = parts ≡ []
IsEnd true parts = (header : List ℕ) × (parts ≡ TooMuch header ∷ [])

-- These are the parts: the frames, and behind them the header.
pub record AreParts (brought : Brought) (parts : List Part) : Type 0 where
  pub last : List Part
  pub all : parts ≡ map Whole brought.frames ++ last
  pub end : IsEnd brought.ended last

-- A piece behind a stream brought these parts, numbered from behind those that there were.
pub record Brings (stream piece : List ℕ) (brought : Brought) : Type 0 where
  pub parts : AreParts brought (new_parts stream piece)
  pub before : length (stream ++ piece) < 2 ^ 64 → 1 ≤ length (new_parts stream piece) → brought.before ≡ length (parts_of stream)
  pub fits : length (stream ++ piece) < 2 ^ 64 → brought.before + length (new_parts stream piece) < 2 ^ 64

-- The stream was read so far, and this was brought.
pub record Taken (stream piece : List ℕ) (after : Progress) (brought : Brought) : Type 0 where
  pub read : IsReadTo (stream ++ piece) after
  pub brings : Brings stream piece brought

-- the same of a stream that was read up to the piece
abbrev pub TakesPiece : List ℕ → List ℕ → Progress → Progress → Brought → Type 0
TakesPiece stream piece before after brought = IsReadTo stream before → Taken stream piece after brought
