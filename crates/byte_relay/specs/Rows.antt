-- What a relay keeps of the live connections, against their whole streams.
use Rattle.std.specs.Prelude.{◌≡◌, ℕ, Bool, false, true, List, [], ◌∷◌, Option, Some, None, ◌&&◌, ◌||◌, ◌==◌, not, drop}
use Rattle.std.specs.List.{filter}
use Rattle.sm_world.specs.declared.effects.Effect.{Effect}
use Rattle.sm_world.specs.declared.effects.Effect.TheVariants.{Sent}
use Rattle.ice_values.specs.declared.numbers.Endian.{Endian}
use Rattle.ice_framing.specs.Frames.{fed, cut, standing_of}
use Rattle.ice_framing.specs.Parts.{Part, parts_at}
use Rattle.byte_relay.specs.Relaying.{Line, Brings, Begins, Passes, Breaks, Passed, brings, passed, are_none, is_fresh, partner}
use Rattle.byte_relay.specs.declared.respeller.Taken.{Taken}
use Rattle.byte_relay.specs.declared.respeller.Taken.TheVariants.{Begins as HasBegun, Passes as IsPassed, Breaks as HasBroken}
use Rattle.byte_relay.specs.declared.row.Row.{Row}
use Rattle.byte_relay.specs.declared.row.Cut.{Cut}
use Rattle.byte_relay.specs.declared.passing.Pair.{Pair}
use Rattle.byte_relay.specs.declared.passing.Pair.TheVariants.{Open, Broken}

-- what a part brings, where these are the bytes that are passed on
abbrev pub brought : Taken → List ℕ → Brings
brought HasBegun bytes = Begins
brought IsPassed bytes = Passes bytes
brought HasBroken bytes = Breaks

-- what is done about that, and whether the pair is broken
abbrev pub done_about : ℕ → Taken → List ℕ → List Effect
done_about other HasBegun bytes = []
done_about other IsPassed bytes = Sent other bytes ∷ []
done_about other HasBroken bytes = []

abbrev pub is_breaking : Taken → Bool
is_breaking HasBegun = false
is_breaking IsPassed = false
is_breaking HasBroken = true

abbrev pub is_broken : Pair → Bool
is_broken Open = false
is_broken Broken = true

-- The first part that the bytes make whole was taken, and the rest of the bytes is left.
pub record TakesFirst (to : Endian) (before : Row) (left : List ℕ) (taken : Cut) (bytes : List ℕ) (after : Row) : Type 0 where
  pub part : Part
  pub parts : parts_at (fed before.splitter left) ≡ part ∷ parts_at (fed after.splitter (drop taken.count left))
  pub brings : brings to before.fresh part ≡ brought taken.taken bytes
  pub fresh : after.fresh ≡ false
  -- what is cut behind the part is what would have been cut
  pub stands : is_breaking taken.taken ≡ false → (cut (fed after.splitter (drop taken.count left))).standing ≡ (cut (fed before.splitter left)).standing

-- No part is whole: all bytes are held.
pub record HoldsAll (before : Row) (left : List ℕ) (after : Row) : Type 0 where
  pub none : parts_at (fed before.splitter left) ≡ []
  pub fresh : after.fresh ≡ before.fresh
  pub splitter : after.splitter ≡ fed before.splitter left

abbrev pub Cuts : Endian → Row → List ℕ → Option Cut → List ℕ → Row → Type 0
Cuts to before left None bytes after = HoldsAll before left after
Cuts to before left (Some taken) bytes after = TakesFirst to before left taken bytes after

-- a piece came on a connection, and its parts were taken
pub record Grows (before : Row) (piece : List ℕ) (after : Row) : Type 0 where
  pub splitter : after.splitter ≡ (cut (fed before.splitter piece)).standing
  pub fresh : after.fresh ≡ (before.fresh && are_none (parts_at (fed before.splitter piece)))

-- what a whole piece brings to the other side
abbrev pub passed_on : Endian → Row → List ℕ → Passed
passed_on to row piece = passed to row.fresh (parts_at (fed row.splitter piece))

-- what is kept of a connection shows it
pub record Shows (row : Row) (line : Line) : Type 0 where
  pub number : row.conn ≡ line.number
  pub splitter : row.splitter ≡ standing_of line.stream
  pub fresh : row.fresh ≡ is_fresh line.stream

-- each in its place
abbrev pub ShowAll : List Row → List Line → Type 0
ShowAll [] [] = Unit {0}
ShowAll [] (line ∷ lines) = ⊥
ShowAll (row ∷ rows) [] = ⊥
ShowAll (row ∷ rows) (line ∷ lines) = Shows row line × ShowAll rows lines

-- neither of a pair is kept
abbrev pub parted_rows : ℕ → List Row → List Row
parted_rows c rows = filter (λ (row : Row). not (row.conn == c || row.conn == partner c)) rows
