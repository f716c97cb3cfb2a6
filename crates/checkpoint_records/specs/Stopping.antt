-- Where reading stops before the end of a book.
use Rattle.std.specs.Prelude.{◌≡◌, ℕ, List, ◌++◌, length, flat_map}
use Rattle.ice_values.specs.Cells.{zeros}
use Rattle.checkpoint_records.specs.Finding.{IsStuck}
use Rattle.checkpoint_records.specs.Following.{AreParts, due_behind, left_due, nothing_due}
use Rattle.checkpoint_records.specs.Spelling.{Part, part_cells}
use Rattle.checkpoint_records.specs.declared.head.Head.{Head}

-- Behind some parts the first bytes are further parts, and so many bytes are left, with which no part begins that may follow. More is due.
pub record StopsBehind (head : Head) (before : List Part) (bytes : List ℕ) (left : ℕ) : Type 0 where
  pub parts : List Part
  pub rest : List ℕ
  pub follow : AreParts head (before ++ parts)
  pub is : bytes ≡ zeros (flat_map part_cells parts) ++ rest
  pub stuck : IsStuck part_cells (AreParts head) (before ++ parts) rest
  pub lacking : ¬ (left_due (due_behind head) (before ++ parts) ≡ nothing_due)
  pub left_is : left ≡ length rest
