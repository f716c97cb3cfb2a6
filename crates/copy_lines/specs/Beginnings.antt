-- With which copy a run begins.
use Rattle.std.specs.Prelude.{◌≡◌, ◌≢◌, ◌-◌, ◌^◌, ◌<◌, ◌≤◌, ◌⊎◌, ℕ, true, false}
use Rattle.copy_lines.specs.declared.beginning.Beginning.{Beginning}
use Rattle.copy_lines.specs.declared.beginning.Beginning.TheVariants.{AsAsked, Behind, FromFile, Anew}
use Rattle.copy_lines.specs.declared.beginning.Found.{Found}

-- It is there, or none was asked for, and no copy has a higher number.
pub record IsTheLast (from : ℕ) (found : Found) : Type 0 where
  pub last : found.highest ≤ from
  pub there : (from ≡ 0) ⊎ (found.has_copy ≡ true)

-- No number is left, or nothing can be copied and nothing was asked for: then a copy of another stays where it is, and a save fails.
abbrev pub IsWithoutWay : ℕ → Found → Type 0
IsWithoutWay from found = (found.highest ≡ 2 ^ 32 - 1) ⊎ ((from ≡ 0) × (found.has_file ≡ false))

-- The copy that was asked for is there, others have higher numbers, and this one is higher than all.
pub record GoesBehind (from number : ℕ) (found : Found) : Type 0 where
  pub copy : found.has_copy ≡ true
  pub others : from < found.highest
  pub free : found.highest < number

-- There is no such copy, but a file, and this number is higher than all; the one that was asked for is taken where it is.
pub record IsMadeNew (from number : ℕ) (found : Found) : Type 0 where
  pub copy : found.has_copy ≡ false
  pub file : found.has_file ≡ true
  pub free : found.highest < number
  pub same : (number ≡ from) ⊎ (from ≤ found.highest)

-- A copy was asked for, and there is neither it nor a file.
pub record HasNothing (from : ℕ) (found : Found) : Type 0 where
  pub asked : from ≢ 0
  pub copy : found.has_copy ≡ false
  pub file : found.has_file ≡ false

abbrev pub IsBeginning : ℕ → Found → Beginning → Type 0
IsBeginning from found AsAsked = IsTheLast from found ⊎ IsWithoutWay from found
IsBeginning from found (Behind number) = GoesBehind from number found
IsBeginning from found (FromFile number) = IsMadeNew from number found
IsBeginning from found Anew = HasNothing from found
