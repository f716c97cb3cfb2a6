-- Showing the parts of a stream one by one.
use Rattle.std.specs.Prelude.{◌≡◌, ℕ, ◌+◌, ◌<◌, ◌≤◌, ◌^◌, List, ◌++◌, length}
use Rattle.ice_framing.specs.Parts.{Part}
use Rattle.ice_framing.specs.declared.cutting.WholeFrame.{WholeFrame}
use Rattle.trace_replay.specs.Flows.{AreParts}
use Rattle.trace_replay.specs.Shown.{shown_parts}
use Rattle.trace_replay.specs.declared.flows.Brought.{Brought}
use Rattle.trace_replay.specs.declared.parts.Channel.{Channel}

-- a frame has a header at least
abbrev pub IsHeaded : WholeFrame → Type 0
IsHeaded frame = 8 ≤ length frame.bytes

-- The lines of these parts were added, and all of them are counted.
pub record AddsParts (channel : Channel) (before : ℕ) (parts : List Part) (old new : List ℕ) (after : ℕ) : Type 0 where
  pub count : after ≡ before + length parts
  pub lines : new ≡ old ++ shown_parts channel.direction channel.conn before parts

-- the same, as far as there are numbers
abbrev pub ShowsParts : Channel → ℕ → List Part → List ℕ → List ℕ → ℕ → Type 0
ShowsParts channel before parts old new after = before + length parts < 2 ^ 64 → AddsParts channel before parts old new after

-- The lines of all parts that were brought were added.
abbrev pub PutsParts : Channel → Brought → List ℕ → List ℕ → Type 0
PutsParts channel brought old new = (parts : List Part) → AreParts brought parts → brought.before + length parts < 2 ^ 64 → new ≡ old ++ shown_parts channel.direction channel.conn brought.before parts
