-- The parts of what a display sends (X protocol, chapters 1 and 8).
use Rattle.std.specs.Prelude.{◌≡◌, ℕ, zero, suc, ◌+◌, ◌*◌, ◌<◌, ◌≤◌, Bool, ◌&&◌, ◌||◌, ◌==◌, nat_lt, nat_le, if◌then◌else◌, List, [], ◌∷◌, ◌++◌, length, take, drop, slice_index}
use Rattle.ice_values.specs.Numbers.{number}
use Rattle.ice_values.specs.declared.numbers.Endian.TheVariants.{Lsb}
use Rattle.display_stream.specs.declared.stages.Stage.{Stage}
use Rattle.display_stream.specs.declared.stages.Stage.TheVariants.{Setup, Later}

-- Where a stream stands: what comes next, and the bytes that came behind the last part that has gone.
pub record Standing : Type 0 where
  pub stage : Stage
  pub held : List ℕ

-- before its first byte
abbrev pub beginning : Standing
beginning = record { stage = Setup; held = [] }

-- once these bytes have come too
abbrev pub fed : Standing → List ℕ → Standing
fed at bytes = record { stage = at.stage; held = at.held ++ bytes }

-- the most units that a part may state
abbrev pub unit_limit : ℕ
unit_limit = 65535

-- the first bytes of a part, which each has
abbrev pub head_in : Stage → ℕ
head_in Setup = 8
head_in Later = 32

-- what a part states that has eight bytes or more: behind the set-up replies, 1, and generic events, 35, state units
abbrev pub stated : Stage → List ℕ → ℕ
stated Setup bytes = number Lsb 2 (drop 6 bytes)
stated Later bytes = if slice_index bytes 0 == 1 || slice_index bytes 0 == 35 then number Lsb 4 (drop 4 bytes) else 0

-- The units of four bytes that a part states behind them, once eight of its bytes have come.
abbrev pub units_in : Stage → List ℕ → ℕ
units_in stage bytes = if nat_lt (length bytes) 8 then 0 else stated stage bytes

abbrev pub units : Standing → ℕ
units at = units_in at.stage at.held

-- how many bytes the next part has, as far as it has come
abbrev pub wanted : Standing → ℕ
wanted at = head_in at.stage + 4 * units at

-- less than the next part has come
abbrev pub IsPartial : Standing → Type 0
IsPartial at = length at.held < wanted at

-- the next part states more units than it may
abbrev pub IsOversize : Standing → Type 0
IsOversize at = unit_limit < units at

-- whether a whole part stands in front
abbrev pub has_part : Standing → Bool
has_part at = nat_le (wanted at) (length at.held) && nat_le (units at) unit_limit

-- the part in front, and where the stream stands once it has gone
abbrev pub first_part : Standing → List ℕ
first_part at = take (wanted at) at.held

abbrev pub without_first : Standing → Standing
without_first at = record { stage = Later; held = drop (wanted at) at.held }

-- A stream's whole parts, and where it stands once they have gone.
pub record Cut : Type 0 where
  pub parts : List (List ℕ)
  pub standing : Standing

-- no part
abbrev pub uncut : Standing → Cut
uncut at = record { parts = []; standing = at }

-- these parts, and then what was cut
abbrev pub behind : List (List ℕ) → Cut → Cut
behind front cut = record { parts = front ++ cut.parts; standing = cut.standing }

-- the parts in front, of at most so many
abbrev pub cut_upto : ℕ → Standing → Cut
cut_upto zero at = uncut at
cut_upto (suc n) at = if has_part at then behind (first_part at ∷ []) (cut_upto n (without_first at)) else uncut at

-- All of them: a part that states too much ends the list.
unfoldable pub cut : Standing → Cut
cut at = cut_upto (length at.held) at

-- the parts of a whole stream, and where it stands behind them
abbrev pub parts_of : List ℕ → List (List ℕ)
parts_of stream = (cut (fed beginning stream)).parts

abbrev pub standing_of : List ℕ → Standing
standing_of stream = (cut (fed beginning stream)).standing

-- what is held behind the parts of a stream that isn't broken
abbrev pub StandsAt : Standing → Standing → Type 0
StandsAt at held = (held ≡ at) × IsPartial at × (units at ≤ unit_limit)
