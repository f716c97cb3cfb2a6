-- A list that is gone over, of whose items some give something.
use Rattle.std.proofs.Common.{◌≡◌, ℕ, ◌+◌, ◌<◌, List, ◌++◌, Option, Some, None, length, drop, arith}
use Rattle.std.specs.Prelude.{filter_map, option_to_list, slice_index_or}
use Rattle.std.proofs.lemmas.Grind.{common_steps}

module _ {X Y : Type 0} (f : X → Option Y) where
  -- what the item in this place gives is added
  pub one-more : (items : List X) (i : ℕ) (x : X) (given : Option Y) (done more all : List Y) → i < length items → x ≡ slice_index_or items i x → given ≡ f x → more ≡ done ++ option_to_list given
      → done ++ filter_map f (drop i items) ≡ all → more ++ filter_map f (drop (i + 1) items) ≡ all
  one-more items i x None done more all within at gives added before = grind (arith, common_steps)
  one-more items i x (Some y) done more all within at gives added before = grind (arith, common_steps)
