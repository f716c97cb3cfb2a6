-- Values as a frame has them, byte by byte, written down by hand (XSMP, chapter 10).
use Rattle.std.specs.Prelude.{ℕ, List, [], ◌∷◌}

-- ARRAY8, little-endian: "hi", six bytes with its count, and padding to eight
abbrev pub word_bytes : List ℕ
word_bytes = 2 ∷ 0 ∷ 0 ∷ 0 ∷ 104 ∷ 105 ∷ 0 ∷ 0 ∷ []

-- LISTofARRAY8, big-endian: two items and four unused bytes, then "hi", and then an empty one with its padding
abbrev pub list_bytes : List ℕ
list_bytes = 0 ∷ 0 ∷ 0 ∷ 2 ∷ 0 ∷ 0 ∷ 0 ∷ 0 ∷ 0 ∷ 0 ∷ 0 ∷ 2 ∷ 104 ∷ 105 ∷ 0 ∷ 0 ∷ 0 ∷ 0 ∷ 0 ∷ 0 ∷ 0 ∷ 0 ∷ 0 ∷ 0 ∷ []

-- PROPERTY, little-endian: the name "P", the type "ARRAY8" with six bytes of padding, and a list of one value, "hi"
abbrev pub property_bytes : List ℕ
property_bytes = 1 ∷ 0 ∷ 0 ∷ 0 ∷ 80 ∷ 0 ∷ 0 ∷ 0 ∷ 6 ∷ 0 ∷ 0 ∷ 0 ∷ 65 ∷ 82 ∷ 82 ∷ 65 ∷ 89 ∷ 56 ∷ 0 ∷ 0 ∷ 0 ∷ 0 ∷ 0 ∷ 0 ∷ 1 ∷ 0 ∷ 0 ∷ 0 ∷ 0 ∷ 0 ∷ 0 ∷ 0 ∷ 2 ∷ 0 ∷ 0 ∷ 0 ∷ 104 ∷ 105 ∷ 0 ∷ 0 ∷ []

-- LISTofPROPERTY, big-endian: one item and four unused bytes, then the name "P", the type "CARD8" with seven bytes of padding, and a list
-- without values
abbrev pub properties_bytes : List ℕ
properties_bytes = 0 ∷ 0 ∷ 0 ∷ 1 ∷ 0 ∷ 0 ∷ 0 ∷ 0 ∷ 0 ∷ 0 ∷ 0 ∷ 1 ∷ 80 ∷ 0 ∷ 0 ∷ 0 ∷ 0 ∷ 0 ∷ 0 ∷ 5 ∷ 67 ∷ 65 ∷ 82 ∷ 68 ∷ 56 ∷ 0 ∷ 0 ∷ 0 ∷ 0 ∷ 0 ∷ 0 ∷ 0 ∷ 0 ∷ 0 ∷ 0 ∷ 0 ∷ 0 ∷ 0 ∷ 0 ∷ 0 ∷ []
