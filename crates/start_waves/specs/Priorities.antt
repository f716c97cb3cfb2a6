-- How early a program is to be started at a login, which it says itself by its property _GSM_Priority:
-- lower is earlier. A property of another kind or shape counts as absent.
use Rattle.std.specs.Prelude.{ℕ, List, [], ◌∷◌, codes}
use Rattle.std.specs.Option.{option_map_or}
use Rattle.ice_values.specs.declared.property.Property.{Property}
use Rattle.xsmp_properties.specs.Readers.{values_of}

-- one value of one byte
abbrev pub priority_in : List (List ℕ) → ℕ
priority_in [] = 50
priority_in ([] ∷ values) = 50
priority_in ((priority ∷ []) ∷ []) = priority
priority_in ((priority ∷ []) ∷ value ∷ values) = 50
priority_in ((priority ∷ byte ∷ bytes) ∷ values) = 50

abbrev pub priority_of : List Property → ℕ
priority_of items = option_map_or priority_in (values_of (codes "_GSM_Priority") (codes "CARD8") items) 50
