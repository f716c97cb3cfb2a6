-- What a client says of itself: a list of properties, in the order in which each name was first set.
use Rattle.std.specs.Prelude.{ℕ, ◌<◌, Bool, not, cond, ◌&&◌, ◌⊎◌, List, [], ◌∷◌, length, map, flat_map, Option, find, filter}
use Rattle.std.specs.List.{list_any, IsDistinct}
use Rattle.std.specs.Str.{bytes_eq}
use Rattle.std.specs.Cmp.Lexicographic.{pointwise}
use Rattle.ice_values.specs.Properties.{property}
use Rattle.ice_values.specs.Walks.{walk_left}
use Rattle.ice_values.specs.declared.numbers.Endian.TheVariants.{Lsb}
use Rattle.ice_values.specs.declared.property.Property.{Property}
use Rattle.ice_values.specs.declared.walk.PropertyWalk.{PropertyWalk}

abbrev pub is_named : List ℕ → Property → Bool
is_named name p = bytes_eq name p.name

-- a property takes the place of the one of its name; where there is none it goes last
abbrev pub set_one : List Property → Property → List Property
set_one [] p = p ∷ []
set_one (q ∷ items) p = cond (is_named p.name q) (p ∷ items) (q ∷ set_one items p)

-- each property of a list in turn
abbrev pub set_all : List Property → List Property → List Property
set_all items [] = items
set_all items (p ∷ list) = set_all (set_one items p) list

-- the properties whose names aren't among these
abbrev pub without_names : List (List ℕ) → List Property → List Property
without_names names items = filter (λ p. not (list_any (λ name. is_named name p) names)) items

abbrev pub find_property : List ℕ → List Property → Option Property
find_property name items = find (is_named name) items

-- properties that are equal in all that they hold
abbrev pub equal_property : Property → Property → Bool
equal_property p q = bytes_eq p.name q.name && bytes_eq p.kind q.kind && pointwise bytes_eq p.values q.values

-- how many bytes spell the properties, which no byte order changes
abbrev pub encoded_len : List Property → ℕ
encoded_len items = length (flat_map (property Lsb) items)

-- more than a client may say
abbrev pub IsTableFull : List Property → Type 0
IsTableFull items = (128 < length items) ⊎ (16384 < encoded_len items)

-- so once all properties of a walk were set
abbrev pub WouldBeFull : List Property → PropertyWalk → Type 0
WouldBeFull items walk = IsTableFull (set_all items (walk_left walk))

abbrev pub AreNamesDistinct : List Property → Type 0
AreNamesDistinct items = IsDistinct bytes_eq (map (λ p. p.name) items)
