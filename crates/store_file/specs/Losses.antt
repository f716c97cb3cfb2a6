-- What a call leaves of the store.
use Rattle.std.specs.Prelude.{◌≡◌, ℕ, Bool, false, List, Option, None, Some, string_bytes}
use Rattle.std.specs.Str.{bytes_eq}
use Rattle.store_file.specs.declared.disk.Store.{Store}
use Rattle.store_file.specs.declared.disk.FileDisk.{FileDisk}

-- It is the same file, of the same size, and lost where it was lost.
abbrev pub SameStore : FileDisk → FileDisk → Type 0
SameStore old new = (new.store ≡ old.store) × (new.size ≡ old.size) × (new.is_lost ≡ old.is_lost)

abbrev pub is_at : List ℕ → Option Store → Bool
is_at path None = false
is_at path (Some store) = bytes_eq (string_bytes store.path) path

-- the store at this path was taken
abbrev pub has_store : FileDisk → List ℕ → Bool
has_store disk path = is_at path disk.store
