-- Amendments byte by byte.
use Rattle.std.proofs.Common.{◌≡◌, [], ◌∷◌, refl, codes}
use Rattle.checkpoint_records.specs.declared.head.Format.TheVariants.{Single, Several}
use Rattle.checkpoint_changes.specs.Changes.{change_cells}
use Rattle.checkpoint_changes.specs.Amendments.{amendment_bytes, behind_gate}
use Rattle.checkpoint_changes.specs.declared.changes.Change.TheVariants.{Epoch, Put}

-- the epoch 2
pub next_epoch : behind_gate (change_cells Several) (Epoch 2 ∷ []) ≡ 0 ∷ 0 ∷ 0 ∷ 8 ∷ 0 ∷ 0 ∷ 0 ∷ 1 ∷ 0 ∷ 0 ∷ 0 ∷ 2 ∷ 0 ∷ 0 ∷ 0 ∷ []
next_epoch = refl

-- a client of the session `s` that has said nothing,
pub one_entry : behind_gate (change_cells Several) (Put (codes "s") (record { id = codes "smd-00000001-00000001"; table = [] }) ∷ [])
    ≡ 0 ∷ 0 ∷ 0 ∷ 56 ∷ 0 ∷ 0 ∷ 0 ∷ 6 ∷ 0 ∷ 0 ∷ 0 ∷ 0 ∷ 0 ∷ 0 ∷ 0 ∷ 1 ∷ 0 ∷ 0 ∷ 0 ∷ 115 ∷ 0 ∷ 0 ∷ 0 ∷ 21 ∷ 0 ∷ 0 ∷ 0 ∷ 115 ∷ 109 ∷ 100 ∷ 45 ∷ 48 ∷ 48 ∷ 48 ∷ 48 ∷ 48 ∷ 48 ∷ 48 ∷ 49 ∷ 45 ∷ 48 ∷ 48 ∷ 48 ∷ 48 ∷ 48 ∷ 48 ∷ 48 ∷ 49
    ∷ 0 ∷ 0 ∷ 0 ∷ 0 ∷ 0 ∷ 0 ∷ 0 ∷ 0 ∷ 0 ∷ 0 ∷ 0 ∷ 0 ∷ 0 ∷ 0 ∷ 0 ∷ []
one_entry = refl

-- and one of `default`, as it stood behind a book of the first format
pub entry_alone : behind_gate (change_cells Single) (Put (codes "default") (record { id = codes "smd-00000001-00000001"; table = [] }) ∷ [])
    ≡ 0 ∷ 0 ∷ 0 ∷ 48 ∷ 0 ∷ 0 ∷ 0 ∷ 3 ∷ 0 ∷ 0 ∷ 0 ∷ 0 ∷ 0 ∷ 0 ∷ 0 ∷ 21 ∷ 0 ∷ 0 ∷ 0 ∷ 115 ∷ 109 ∷ 100 ∷ 45 ∷ 48 ∷ 48 ∷ 48 ∷ 48 ∷ 48 ∷ 48 ∷ 48 ∷ 49 ∷ 45 ∷ 48 ∷ 48 ∷ 48 ∷ 48 ∷ 48 ∷ 48 ∷ 48 ∷ 49
    ∷ 0 ∷ 0 ∷ 0 ∷ 0 ∷ 0 ∷ 0 ∷ 0 ∷ 0 ∷ 0 ∷ 0 ∷ 0 ∷ 0 ∷ 0 ∷ 0 ∷ 0 ∷ []
entry_alone = refl

-- nothing
pub no_change : amendment_bytes (change_cells Several) [] ≡ 165 ∷ 0 ∷ 0 ∷ 0 ∷ 0 ∷ 0 ∷ 0 ∷ 0 ∷ []
no_change = refl
