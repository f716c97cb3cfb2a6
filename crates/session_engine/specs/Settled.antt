-- Where no byte of the store is in doubt, and which effects leave none in doubt.
use Rattle.std.specs.Prelude.{◌≡◌, ℕ, ◌<◌, IsTrue, List, ◌++◌, length, Some}
use Rattle.sm_world.specs.Crash.{cell_of}
use Rattle.sm_world.specs.declared.effects.Effect.{Effect}

-- After these effects each byte of the file reads as one byte, and no crash leaves another in its place.
pub record NoneInDoubt (first : List ℕ) (effects : List Effect) : Type 0 where
  pub byte : ℕ → ℕ
  pub reads : (i : ℕ) → i < length first → (cell_of first effects i).reads ≡ Some (byte i)
  pub left : (i other : ℕ) → i < length first → IsTrue ((cell_of first effects i).left other) → other ≡ byte i

-- Behind effects that leave none in doubt, these leave none.
abbrev pub Settle : List Effect → Type 0
Settle effects = (first : List ℕ) (before : List Effect) → NoneInDoubt first before → NoneInDoubt first (before ++ effects)
