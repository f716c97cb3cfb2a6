-- How a map keeps properties by their names, and which of them a table shows.
use Rattle.std.specs.Prelude.{◌≡◌, ℕ, suc, Bool, cond, nat_eq, List, [], ◌∷◌, map}
use Rattle.std.specs.Int.{bit_at}
use Rattle.std.specs.List.{AllByRecursion, IsDistinct}
use Rattle.std.specs.Str.{bytes_eq}
use Rattle.std.specs.Global.{Vec}
use Rattle.std.specs.Map.{keys_of}
use Rattle.std.specs.Rc.{rc_value}
use Rattle.ice_values.specs.declared.property.Property.{Property}
use Rattle.xsmp_properties.specs.Tables.{is_named}
use Rattle.xsmp_properties.specs.declared.shown.Shown.{Shown}

-- the key is the property's name
abbrev pub HasOwnName : {X : Type 0} → (X → Property) → Vec ℕ × X → Type 0
HasOwnName of entry = entry.0.items ≡ (of entry.1).name

-- the map's test of two keys
abbrev pub same_key : Vec ℕ → Vec ℕ → Bool
same_key a b = bytes_eq a.items b.items

-- each under its own name, and none twice
abbrev pub AreNamed : {X : Type 0} → (X → Property) → List (Vec ℕ × X) → Type 0
AreNamed of entries = AllByRecursion (HasOwnName of) entries × IsDistinct same_key (keys_of entries)

-- the first place of a name, or how many properties there are
abbrev pub place_among : List ℕ → List Property → ℕ
place_among name [] = 0
place_among name (p ∷ items) = cond (is_named name p) 0 (suc (place_among name items))

-- the items, of which the first stands at place i, whose bit isn't set
abbrev pub shown_from : {X : Type 0} → ℕ → ℕ → List X → List X
shown_from hidden i [] = []
shown_from hidden i (x ∷ items) = cond (nat_eq (bit_at hidden i) 0) (x ∷ shown_from hidden (suc i) items) (shown_from hidden (suc i) items)

-- the properties that are still to come
abbrev pub left_of : Shown → List Property
left_of shown = shown_from shown.hidden 0 (map rc_value shown.left.now)
