-- How many bytes spell words, and a property, at most.
use Rattle.std.proofs.Common.{◌≡◌, ℕ, ◌+◌, ◌≤◌, List, ◌∷◌, ◌++◌, length, arith, length-append}
use Rattle.std.specs.Prelude.{flat_map}
use Rattle.ice_values.specs.Cells.{pad_len}
use Rattle.ice_values.specs.Properties.{array8, array8_list, property}
use Rattle.ice_values.specs.declared.numbers.Endian.{Endian}
use Rattle.ice_values.specs.declared.property.Property.{Property}
use Rattle.ice_values.proofs.LengthLaws.{length-array8, length-listed}

-- how many bytes spell these words
abbrev pub spelled : Endian → List (List ℕ) → ℕ
spelled e words = length (flat_map (array8 e) words)

pub spelled-cons : (e : Endian) (word : List ℕ) (words : List (List ℕ)) → spelled e (word ∷ words) ≡ length (array8 e word) + spelled e words
spelled-cons e word words = length-append (array8 e word) (flat_map (array8 e) words)

pad_short : (x : ℕ) → pad_len x 8 ≤ 7
pad_short x = omega arith

array8_short : (e : Endian) (bytes : List ℕ) → length (array8 e bytes) ≤ length bytes + 11
array8_short e bytes = omega (arith, length-array8 e bytes, pad_short (4 + length bytes))

pub word_more : (e : Endian) (word : List ℕ) (words : List (List ℕ)) → spelled e (word ∷ words) ≤ length word + 11 + spelled e words
word_more e word words = omega (arith, array8_short e word, spelled-cons e word words)

pub property_short : (e : Endian) (name kind : List ℕ) (values : List (List ℕ)) → length (property e (record { name = name; kind = kind; values = values })) ≤ length name + length kind + spelled e values + 30
property_short e name kind values =
    omega (arith, length-append (array8 e name ++ array8 e kind) (array8_list e values), length-append (array8 e name) (array8 e kind), array8_short e name, array8_short e kind, length-listed (array8 e) e values)
