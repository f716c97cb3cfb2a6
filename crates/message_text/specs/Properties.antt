-- Properties for people, each in a line of its own below its message: its name, and its values by their type.
use Rattle.std.specs.Prelude.{ℕ, Bool, true, false, List, [], ◌∷◌, ◌++◌, codes, ◌||◌, if◌then◌else◌}
use Rattle.std.specs.List.{flat_map}
use Rattle.std.specs.Str.{bytes_eq}
use Rattle.std.specs.Fmt.{decimal}
use Rattle.ice_values.specs.declared.property.Property.{Property}
use Rattle.message_text.specs.Words.{plain_text, quoted}

-- the values of this type are numbers of one byte
abbrev pub is_number : List ℕ → Bool
is_number kind = bytes_eq kind (codes "CARD8")

-- the values tell this type by themselves
abbrev pub is_known : List ℕ → Bool
is_known kind = is_number kind || bytes_eq kind (codes "ARRAY8") || bytes_eq kind (codes "LISTofARRAY8")

-- any other type stands behind the name
abbrev pub kind_note : List ℕ → List ℕ
kind_note kind = if is_known kind then [] else codes " (" ++ (plain_text kind ++ codes ")")

-- A number of one byte is decimal, and all else is a text.
abbrev pub value_text : Bool → List ℕ → List ℕ
value_text true (b ∷ []) = codes " " ++ decimal b
value_text true [] = codes " " ++ quoted []
value_text true (b ∷ c ∷ bytes) = codes " " ++ quoted (b ∷ c ∷ bytes)
value_text false bytes = codes " " ++ quoted bytes

abbrev pub values_text : Bool → List (List ℕ) → List ℕ
values_text number values = flat_map (value_text number) values

unfoldable pub typed_text : List ℕ → List (List ℕ) → List ℕ
typed_text kind values = kind_note kind ++ values_text (is_number kind) values

-- a newline and twelve spaces
unfoldable pub indent : List ℕ
indent = codes "\n            "

abbrev pub property_line : Property → List ℕ
property_line p = indent ++ (plain_text p.name ++ typed_text p.kind p.values)

abbrev pub property_lines : List Property → List ℕ
property_lines properties = flat_map property_line properties
