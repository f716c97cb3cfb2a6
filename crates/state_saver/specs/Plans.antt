-- What is saved, and how a program is started again.
use Rattle.std.specs.Prelude.{◌≡◌, ◌≤◌, ◌<◌, ◌^◌, ℕ, List, [], ◌∷◌, ◌++◌, length, take, codes}
use Rattle.std.specs.List.{AllByRecursion}
use Rattle.std.specs.Fmt.{decimal}
use Rattle.ice_values.specs.declared.property.Property.{Property}
use Rattle.state_saver.specs.declared.plan.SavePlan.{SavePlan}

-- a word of a command line: 1 to 512 bytes
pub record IsWord (word : List ℕ) : Type 0 where
  pub some : 1 ≤ length word
  pub few : length word ≤ 512

-- The state has a path of 1 to 512 bytes, the program has 1 to 16 words, and seven words stand before.
pub record IsPlan (plan : SavePlan) : Type 0 where
  pub state : IsWord plan.state
  pub some : 1 ≤ length plan.program
  pub few : length plan.program ≤ 16
  pub words : AllByRecursion IsWord plan.program
  pub seven : length plan.before ≡ 7
  pub before : AllByRecursion IsWord plan.before

-- the path of a copy: that of the state, a dot (46) and the number
abbrev pub copy_path : List ℕ → ℕ → List ℕ
copy_path state number = state ++ (46 ∷ decimal number)

-- Two copies with one path have one number.
abbrev pub CopiesHavePathsOfTheirOwn : Type 0
CopiesHavePathsOfTheirOwn = (state : List ℕ) (m n : ℕ) → m < 2 ^ 32 → n < 2 ^ 32 → copy_path state m ≡ copy_path state n → m ≡ n

-- the command that starts the program again with this copy, under this ID
abbrev pub restart_words : SavePlan → ℕ → List ℕ → List (List ℕ)
restart_words plan number id = plan.before ++ (codes "--from" ∷ decimal number ∷ codes "--id" ∷ id ∷ codes "--" ∷ plan.program)

-- which program it is, how it is started again with the copy of this number, and how the copy is removed
abbrev pub own_properties : SavePlan → ℕ → List ℕ → List Property
own_properties plan number id =
    record { name = codes "Program"; kind = codes "ARRAY8"; values = take 1 plan.program }
    ∷ record { name = codes "RestartCommand"; kind = codes "LISTofARRAY8"; values = restart_words plan number id }
    ∷ record { name = codes "DiscardCommand"; kind = codes "LISTofARRAY8"; values = codes "rm" ∷ copy_path plan.state number ∷ [] } ∷ []
