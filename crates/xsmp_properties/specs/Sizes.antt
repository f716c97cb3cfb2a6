-- The names of a table and how many bytes spell the property of each, without its properties.
use Rattle.std.specs.Prelude.{ℕ, suc, ◌+◌, min, cond, List, [], ◌∷◌, length, map}
use Rattle.std.specs.Str.{bytes_eq}
use Rattle.ice_values.specs.Properties.{property}
use Rattle.ice_values.specs.declared.numbers.Endian.TheVariants.{Lsb}
use Rattle.ice_values.specs.Walks.{walk_left}
use Rattle.ice_values.specs.declared.property.Property.{Property}
use Rattle.ice_values.specs.declared.walk.PropertyWalk.{PropertyWalk}
use Rattle.xsmp_properties.specs.declared.sizes.Size.{Size}
use Rattle.xsmp_properties.specs.declared.sizes.TableSizes.{TableSizes}

-- how many bytes spell it, where a client may say as many, and else one more than a client may say
abbrev pub limited : ℕ → ℕ
limited n = min n 16385

-- its name and that length
abbrev pub sized : Property → List ℕ × ℕ
sized p = (p.name, limited (length (property Lsb p)))

abbrev pub shown : Size → List ℕ × ℕ
shown size = (size.name.now, size.length)

-- what a call holds of a table
abbrev pub sizes_of : TableSizes → List (List ℕ × ℕ)
sizes_of sizes = map shown sizes.held.items

-- the first place of a name, or how many there are
abbrev pub place_of : List ℕ → List (List ℕ × ℕ) → ℕ
place_of name [] = 0
place_of name (x ∷ sizes) = cond (bytes_eq name x.0) 0 (suc (place_of name sizes))

-- a size takes the place of the one of its name; where there is none it goes last
abbrev pub set_size : List (List ℕ × ℕ) → List ℕ × ℕ → List (List ℕ × ℕ)
set_size [] x = x ∷ []
set_size (y ∷ sizes) x = cond (bytes_eq x.0 y.0) (x ∷ sizes) (y ∷ set_size sizes x)

-- each of a list in turn
abbrev pub set_sizes : List (List ℕ × ℕ) → List (List ℕ × ℕ) → List (List ℕ × ℕ)
set_sizes sizes [] = sizes
set_sizes sizes (x ∷ list) = set_sizes (set_size sizes x) list

-- all lengths together
abbrev pub total_of : List (List ℕ × ℕ) → ℕ
total_of [] = 0
total_of (x ∷ sizes) = x.1 + total_of sizes

-- what is held once the length of a name was set
abbrev pub with_size : TableSizes → List ℕ → ℕ → List (List ℕ × ℕ)
with_size sizes name n = set_size (sizes_of sizes) (name, n)

-- what is held once those of all properties of a list were set
abbrev pub with_walk : TableSizes → PropertyWalk → List (List ℕ × ℕ)
with_walk sizes walk = set_sizes (sizes_of sizes) (map sized (walk_left walk))
