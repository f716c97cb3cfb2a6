-- Properties read where they lie: what a view of one shows, and what is left of a walk over a list of them.
use Rattle.std.specs.Prelude.{◌≡◌, ℕ, zero, suc, ◌+◌, List, [], ◌∷◌, length, drop, Option, Some, None, Result, Ok, Err}
use Rattle.ice_values.specs.Properties.{array8, array8_list, array8_list_at, property_at, property_list_at}
use Rattle.ice_values.specs.declared.numbers.Endian.{Endian}
use Rattle.ice_values.specs.declared.numbers.Endian.TheVariants.{Lsb}
use Rattle.ice_values.specs.declared.property.Property.{Property}
use Rattle.ice_values.specs.declared.refusals.Short.{Short}
use Rattle.ice_values.specs.declared.refusals.ValueRefusal.{ValueRefusal}
use Rattle.ice_values.specs.declared.refusals.ValueRefusal.TheVariants.{Short as ShortValue}
use Rattle.ice_values.specs.declared.view.PropertyView.{PropertyView}
use Rattle.ice_values.specs.declared.walk.PropertyWalk.{PropertyWalk}

-- the value that was read, and then those of what follows it
abbrev pub first_then : {A : Type 0} → Option (A × List ℕ) → (List ℕ → List A) → List A
first_then (Some x) others = x.0 ∷ others x.1
first_then None others = []

-- The values at the front, one after the other: so many, or as many as there are.
unfoldable pub up_to : {A : Type 0} → (List ℕ → Option (A × List ℕ)) → ℕ → List ℕ → List A
up_to read zero bytes = []
up_to read (suc n) bytes = first_then (read bytes) (λ rest. up_to read n rest)

-- the properties that are left of a walk
abbrev pub walk_left : PropertyWalk → List Property
walk_left walk = up_to (property_at walk.endian) walk.count walk.bytes.now

-- A view shows a property that lies there in this order of numbers.
pub record Views (e : Endian) (view : PropertyView) (p : Property) : Type 0 where
  pub name : view.name.now ≡ p.name
  pub kind : view.kind.now ≡ p.kind
  pub values : array8_list_at e view.values.now ≡ Some (p.values, [])
  pub values_len : length view.values.now ≡ length (array8_list Lsb p.values)

-- how many bytes spell what a view shows
abbrev pub view_len : PropertyView → ℕ
view_len view = length (array8 Lsb view.name.now) + length (array8 Lsb view.kind.now) + length view.values.now

-- The property at the front is what the view shows. None where there is none.
abbrev pub Shows : Endian → List ℕ → Option (PropertyView × List ℕ) → Type 0
Shows e bytes (Some x) = (p : Property) × Views e x.0 p × (property_at e bytes ≡ Some (p, x.1))
Shows e bytes None = property_at e bytes ≡ None

-- The next property of a walk. None exactly where none is left.
pub record GivesNext (old : PropertyWalk) (view : PropertyView) (new : PropertyWalk) : Type 0 where
  pub property : Property
  pub views : Views old.endian view property
  pub left : walk_left old ≡ property ∷ walk_left new
  pub endian : new.endian ≡ old.endian

pub record GivesNone (old new : PropertyWalk) : Type 0 where
  pub before : walk_left old ≡ []
  pub after : walk_left new ≡ []
  pub endian : new.endian ≡ old.endian

abbrev pub GivesProperty : PropertyWalk → Option PropertyView → PropertyWalk → Type 0
GivesProperty old (Some view) new = GivesNext old view new
GivesProperty old None new = GivesNone old new

-- a walk as the list that it goes over
abbrev pub walked : Result (PropertyWalk × ℕ) Short → Result (List Property × ℕ) ValueRefusal
walked (Ok x) = Ok (walk_left x.0, x.1)
walked (Err short) = Err ShortValue

-- A walk over the list at the front, in this order of numbers, with how many bytes spell the list. Short where there is none.
abbrev pub WalkedAt : Endian → List ℕ → Result (PropertyWalk × ℕ) Short → Type 0
WalkedAt e bytes (Ok x) = (x.0.endian ≡ e) × (property_list_at e bytes ≡ Some (walk_left x.0, drop x.1 bytes))
WalkedAt e bytes (Err short) = property_list_at e bytes ≡ None
