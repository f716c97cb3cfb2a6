-- What stands in files that are read and replaced whole.
use Rattle.std.specs.Prelude.{◌≡◌, ℕ, cond, List, [], ◌∷◌, ◌++◌, Option, Some, None, Result, Ok, Err}
use Rattle.std.specs.Str.{bytes_eq}
use Rattle.sm_world.specs.Outside.{Outside}
use Rattle.sm_world.specs.declared.effects.Effect.{Effect}
use Rattle.sm_world.specs.declared.effects.Effect.TheVariants.{Heard, Sent, Shut, Started, Wrote, Torn, Synced, SyncFailed, Published, Printed}
use Rattle.sm_world.specs.declared.failures.Failure.{Failure}

-- the bytes of the first file with this path
abbrev pub file_at : List ℕ → List (List ℕ × List ℕ) → Option (List ℕ)
file_at path [] = None
file_at path (file ∷ files) = cond (bytes_eq file.0 path) (Some file.1) (file_at path files)

-- what stands at a path after one effect: a file that is published there takes the place of the one before
abbrev pub after_one : List ℕ → Option (List ℕ) → Effect → Option (List ℕ)
after_one path before (Published at bytes) = cond (bytes_eq at path) (Some bytes) before
after_one path before (Heard event) = before
after_one path before (Sent conn bytes) = before
after_one path before (Shut conn) = before
after_one path before (Started command succeeded) = before
after_one path before (Wrote at bytes) = before
after_one path before (Torn at length) = before
after_one path before Synced = before
after_one path before SyncFailed = before
after_one path before (Printed text) = before

-- and after one effect after the other
abbrev pub after_all : List ℕ → Option (List ℕ) → List Effect → Option (List ℕ)
after_all path before [] = before
after_all path before (effect ∷ effects) = after_all path (after_one path before effect) effects

-- What stands at a path: what was last published to it, or else what stood there from the start.
abbrev pub file_now : List ℕ → List (List ℕ × List ℕ) → List Effect → Option (List ℕ)
file_now path files told = after_all path (file_at path files) told

-- all that was fetched so far: paths, each with the bytes that it gave; None where that is left untold
abbrev pub Fetched : Type 0
Fetched = Option (List (List ℕ × List ℕ))

-- what was fetched with one fetch more
abbrev pub fetches : Fetched → List ℕ → Result (List ℕ) Failure → Fetched
fetches None path result = None
fetches (Some fetched) path (Ok bytes) = Some (fetched ++ (path, bytes) ∷ [])
fetches (Some fetched) path (Err e) = Some fetched

-- These bytes stand at the path, where the world tells the files with which it began, and its effects.
abbrev pub Holds : Outside → List ℕ → List ℕ → Type 0
Holds outside path bytes = (files : List (List ℕ × List ℕ)) (told : List Effect) → outside.files ≡ Some files → outside.told ≡ Some told → file_now path files told ≡ Some bytes
