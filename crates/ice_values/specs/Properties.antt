-- How the fields of XSMP are spelled (XSMP, chapter 10), and what has a spelling.
use Rattle.std.specs.Prelude.{ℕ, ◌+◌, ◌^◌, ◌<◌, List, ◌++◌, length, flat_map, Option, Some}
use Rattle.std.specs.List.{AllByRecursion}
use Rattle.ice_values.specs.Cells.{Cells, known, free, pad_len}
use Rattle.ice_values.specs.Numbers.{card32}
use Rattle.ice_values.specs.Reading.{◌>>=◌, card_at, bytes_at, skip_at, many_at}
use Rattle.ice_values.specs.declared.numbers.Endian.{Endian}
use Rattle.ice_values.specs.declared.property.Property.{Property}

-- ARRAY8
abbrev pub array8 : Endian → List ℕ → Cells
array8 e bytes = card32 e (length bytes) ++ known bytes ++ free (pad_len (4 + length bytes) 8)

abbrev pub IsArray8 : List ℕ → Type 0
IsArray8 bytes = length bytes < 2 ^ 32

-- LISTof: a count, four unused bytes, and the items
abbrev pub listed : {A : Type 0} → (A → Cells) → Endian → List A → Cells
listed item e items = card32 e (length items) ++ free 4 ++ flat_map item items

abbrev pub IsListed : {A : Type 0} → (A → Type 0) → List A → Type 0
IsListed Fits items = (length items < 2 ^ 32) × AllByRecursion Fits items

-- LISTofARRAY8
abbrev pub array8_list : Endian → List (List ℕ) → Cells
array8_list e items = listed (array8 e) e items

-- PROPERTY
abbrev pub property : Endian → Property → Cells
property e p = array8 e p.name ++ array8 e p.kind ++ array8_list e p.values

pub record IsProperty (p : Property) : Type 0 where
  pub name : IsArray8 p.name
  pub kind : IsArray8 p.kind
  pub values : IsListed IsArray8 p.values

-- LISTofPROPERTY
abbrev pub property_list : Endian → List Property → Cells
property_list e items = listed (property e) e items

-- ---- read from left to right

unfoldable pub array8_at : Endian → List ℕ → Option (List ℕ × List ℕ)
array8_at e bytes = do
  n ← card_at e 4 bytes
  text ← bytes_at n.0 n.1
  rest ← skip_at (pad_len (4 + n.0) 8) text.1
  Some (text.0, rest)

unfoldable pub listed_at : {A : Type 0} → (List ℕ → Option (A × List ℕ)) → Endian → List ℕ → Option (List A × List ℕ)
listed_at item e bytes = do
  n ← card_at e 4 bytes
  rest ← skip_at 4 n.1
  many_at item n.0 rest

abbrev pub array8_list_at : Endian → List ℕ → Option (List (List ℕ) × List ℕ)
array8_list_at e bytes = listed_at (array8_at e) e bytes

unfoldable pub property_at : Endian → List ℕ → Option (Property × List ℕ)
property_at e bytes = do
  name ← array8_at e bytes
  kind ← array8_at e name.1
  values ← array8_list_at e kind.1
  Some (record { name = name.0; kind = kind.0; values = values.0 }, values.1)

abbrev pub property_list_at : Endian → List ℕ → Option (List Property × List ℕ)
property_list_at e bytes = listed_at (property_at e) e bytes
