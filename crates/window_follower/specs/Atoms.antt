-- The atoms that a display has for names.
use Rattle.std.specs.Prelude.{ℕ, ◌==◌, List, slice_index, find, Option}
use Rattle.window_follower.specs.Names.{place, window_properties, root_properties, window_types}
use Rattle.window_follower.specs.declared.names.Name.{Name}
use Rattle.window_follower.specs.declared.names.Name.TheVariants.{Property, Root, OfType}
use Rattle.window_follower.specs.declared.names.WindowProperty.{WindowProperty}
use Rattle.window_follower.specs.declared.names.RootProperty.{RootProperty}
use Rattle.window_follower.specs.declared.names.WindowType.{WindowType}

-- the atom of a name, by its place; 0 is no atom
abbrev pub atom_of : List ℕ → Name → ℕ
atom_of atoms name = slice_index atoms (place name)

-- what an atom names
abbrev pub property_named : List ℕ → ℕ → Option WindowProperty
property_named atoms atom = find (λ property. atom_of atoms (Property property) == atom) window_properties

abbrev pub root_property_named : List ℕ → ℕ → Option RootProperty
root_property_named atoms atom = find (λ property. atom_of atoms (Root property) == atom) root_properties

abbrev pub type_named : List ℕ → ℕ → Option WindowType
type_named atoms atom = find (λ kind. atom_of atoms (OfType kind) == atom) window_types
