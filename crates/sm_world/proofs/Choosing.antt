-- What a choice leaves is what a crash may leave.
use Rattle.std.proofs.Common.{◌≡◌, ◌-◌, if◌then◌else◌, ℕ, Bool, true, false, ◌||◌, IsTrue, nat_le, ◌==◌, List, [], ◌∷◌, length, slice_index, Result, Ok, Err, IfOk, refl, inl, inr, arith}
use Rattle.std.proofs.lemmas.Bool.{false≢true}
use Rattle.sm_world.proofs.Cells.{place}
use Rattle.sm_world.specs.Crash.{Cell, Image, readable, settled, cell_after, cell_from}
use Rattle.sm_world.specs.Choices.{Held, IsCrashFile, chosen_byte, held_after, held_from}
use Rattle.sm_world.specs.declared.crash.Choice.{Choice}
use Rattle.sm_world.specs.declared.crash.Choice.TheVariants.{AsWritten, AsSynced, Filled}
use Rattle.sm_world.specs.declared.effects.Effect.{Effect}
use Rattle.sm_world.specs.declared.effects.Effect.TheVariants.{Heard, Sent, Shut, Started, Wrote, Torn, Synced, SyncFailed, Published, Printed}

-- What is held now may be read and left, and what was held at the last sync may be left.
record IsWithin (cell : Cell) (held : Held) : Type 0 where
  read : IsTrue (readable cell.reads held.now)
  now : IsTrue (cell.left held.now)
  synced : IsTrue (cell.left held.synced)

itself : (b : ℕ) → (b == b) ≡ true
itself b = grind arith

wider : (one two three : Bool) → IsTrue two → IsTrue (one || (two || three))
wider true two three is = refl
wider false true three is = refl
wider false false three is = absurd (false≢true is)

widest : (one two three : Bool) → IsTrue three → IsTrue (one || (two || three))
widest true two three is = refl
widest false true three is = refl
widest false false three is = is

wide : (one two : Bool) → IsTrue two → IsTrue (one || two)
wide true two is = refl
wide false two is = is

first_within : (b : ℕ) → IsWithin (settled b) (record { now = b; synced = b })
first_within b = record { read = itself b; now = itself b; synced = itself b }

module _ (cell : Cell) (held : Held) (i : ℕ) (within : IsWithin cell held) where
  wrote_within : (at : ℕ) (bytes : List ℕ) → IsWithin (cell_after (Wrote at bytes) i cell) (held_after (Wrote at bytes) i held)
  unfolding cell_after held_after
  wrote_within at bytes = elim (place at (length bytes) i) [
    | inl inside ↦ rw inside (record { read = itself (slice_index bytes (i - at)); now = widest (nat_le 2 (length bytes)) (cell.left (slice_index bytes (i - at))) _ (itself (slice_index bytes (i - at))); synced = wider (nat_le 2 (length bytes)) (cell.left held.synced) _ within.synced })
    | inr outside ↦ rw outside within
  ]

  torn_within : (at n : ℕ) → IsWithin (cell_after (Torn at n) i cell) (held_after (Torn at n) i held)
  unfolding cell_after held_after
  torn_within at n = elim (place at n i) [
    | inl inside ↦ rw inside (record { read = refl; now = wide (nat_le 2 n) (cell.left held.now) within.now; synced = wide (nat_le 2 n) (cell.left held.synced) within.synced })
    | inr outside ↦ rw outside within
  ]

after_within : (effect : Effect) (i : ℕ) (cell : Cell) (held : Held) → IsWithin cell held → IsWithin (cell_after effect i cell) (held_after effect i held)
unfolding cell_after held_after
after_within (Heard event) i cell held within = within
after_within (Sent conn bytes) i cell held within = within
after_within (Shut conn) i cell held within = within
after_within (Started command succeeded) i cell held within = within
after_within (Wrote at bytes) i cell held within = wrote_within cell held i within at bytes
after_within (Torn at n) i cell held within = torn_within cell held i within at n
after_within Synced i cell held within = record { read = within.read; now = within.read; synced = within.read }
after_within SyncFailed i cell held within = within
after_within (Published path bytes) i cell held within = within
after_within (Printed text) i cell held within = within

from_within : (cell : Cell) (held : Held) (effects : List Effect) (i : ℕ) → IsWithin cell held → IsWithin (cell_from cell effects i) (held_from held effects i)
from_within cell held [] i within = within
from_within cell held (effect ∷ effects) i within = from_within (cell_after effect i cell) (held_after effect i held) effects i (after_within effect i cell held within)

fill_within : (byte : ℕ) (cell : Cell) (held : Held) (fills : Bool) → cell.left byte ≡ fills → IsTrue (cell.left held.synced) → IsTrue (cell.left (if fills then byte else held.synced))
fill_within byte cell held true is synced = is
fill_within byte cell held false is synced = synced

chosen_within : (choice : Choice) (cell : Cell) (held : Held) → IsWithin cell held → IsTrue (cell.left (chosen_byte choice cell held))
chosen_within AsWritten cell held within = within.now
chosen_within AsSynced cell held within = within.synced
chosen_within (Filled byte) cell held within = fill_within byte cell held (cell.left byte) refl within.synced

pub crash_image : (first : List ℕ) (effects : List Effect) (choice : Choice) (file : List ℕ) → IsCrashFile first effects choice file → Image first effects file
crash_image first effects choice file is = record {
  size = is.size;
  bytes = λ i inside. rw (is.bytes i inside) (chosen_within choice _ _ (from_within (settled (slice_index first i)) (record { now = slice_index first i; synced = slice_index first i }) effects i (first_within (slice_index first i))));
}

pub images : {E : Type 0} (first : List ℕ) (effects : List Effect) (choice : Choice) (answer : Result (List ℕ) E) → IfOk answer (IsCrashFile first effects choice) → IfOk answer (Image first effects)
images first effects choice (Ok file) is = crash_image first effects choice file is
images first effects choice (Err error) is = tt
