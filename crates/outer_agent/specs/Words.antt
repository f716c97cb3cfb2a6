-- What a manager says of itself to its outer one.
use Rattle.std.specs.Prelude.{ℕ, ◌≤◌, List, [], ◌∷◌, ◌++◌, length, codes, nat_le, if◌then◌else◌}
use Rattle.std.specs.Str.{bytes_eq}
use Rattle.ice_values.specs.Properties.{array8_list}
use Rattle.ice_values.specs.declared.numbers.Endian.TheVariants.{Lsb}
use Rattle.ice_values.specs.declared.property.Property.{Property}

-- spelled as a LISTofARRAY8 the words have at most 32,768 bytes
abbrev pub AreFew : List (List ℕ) → Type 0
AreFew words = length (array8_list Lsb words) ≤ 32768

-- the pairs of words, without the ID's; a last word without another is no pair
abbrev pub without_id : List (List ℕ) → List (List ℕ)
without_id [] = []
without_id (name ∷ []) = name ∷ []
without_id (name ∷ value ∷ words) = if bytes_eq name (codes "--outer-id") then without_id words else (name ∷ value ∷ without_id words)

-- the words of the manager's command, a first word and pairs, without its ID
abbrev pub command_words : List (List ℕ) → List (List ℕ)
command_words [] = []
command_words (first ∷ pairs) = first ∷ without_id pairs

-- the command that starts the manager again under this ID
abbrev pub restart_words : List (List ℕ) → List ℕ → List (List ℕ)
restart_words command id = (codes "smnest" ∷ command) ++ (codes "--outer-id" ∷ id ∷ [])

abbrev pub program : Property
program = record { name = codes "Program"; kind = codes "ARRAY8"; values = codes "smnest" ∷ [] }

-- which program it is and how it is started again; an ID of more than 512 bytes can't be a word
abbrev pub own_properties : List (List ℕ) → List ℕ → List Property
own_properties command id =
    if nat_le (length id) 512 then (program ∷ record { name = codes "RestartCommand"; kind = codes "LISTofARRAY8"; values = restart_words command id } ∷ [])
    else (program ∷ [])
