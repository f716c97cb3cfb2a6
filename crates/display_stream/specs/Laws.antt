-- Laws of the parts of a stream.
use Rattle.std.specs.Prelude.{◌≡◌, ℕ, ◌+◌, ◌*◌, ◌≤◌, ◌⊎◌, List, [], ◌∷◌, ◌++◌, length}
use Rattle.std.specs.List.{AllByRecursion, concat}
use Rattle.display_stream.specs.Parts.{fed, cut, units_in, head_in, unit_limit, IsPartial, IsOversize, parts_of, standing_of}
use Rattle.display_stream.specs.declared.stages.Stage.{Stage}
use Rattle.display_stream.specs.declared.stages.Stage.TheVariants.{Setup, Later}

-- a stream that goes on: its parts stay, and more come from where it stood
abbrev pub DoNotDependOnPieces : Type 0
DoNotDependOnPieces = (front rest : List ℕ)
    → (parts_of (front ++ rest) ≡ parts_of front ++ (cut (fed (standing_of front) rest)).parts) × (standing_of (front ++ rest) ≡ (cut (fed (standing_of front) rest)).standing)

-- a part that is as long as it states, and states no more than it may
pub record IsPart (stage : Stage) (bytes : List ℕ) : Type 0 where
  pub whole : length bytes ≡ head_in stage + 4 * units_in stage bytes
  pub within : units_in stage bytes ≤ unit_limit

-- the answer to the set-up first, and then all others
abbrev pub AreParts : List (List ℕ) → Type 0
AreParts [] = Unit {0}
AreParts (first ∷ later) = IsPart Setup first × AllByRecursion (IsPart Later) later

pub record IsMadeOf (stream : List ℕ) : Type 0 where
  pub joined : concat (parts_of stream) ++ (standing_of stream).held ≡ stream
  pub shapes : AreParts (parts_of stream)
  pub end : IsPartial (standing_of stream) ⊎ IsOversize (standing_of stream)

abbrev pub MakeUpAStream : Type 0
MakeUpAStream = (stream : List ℕ) → IsMadeOf stream

-- Behind a part that states too much none comes.
abbrev pub HasNoMoreParts : Type 0
HasNoMoreParts = (front rest : List ℕ) → IsOversize (standing_of front) → parts_of (front ++ rest) ≡ parts_of front
