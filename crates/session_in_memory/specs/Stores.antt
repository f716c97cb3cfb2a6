-- What a session in memory begins with.
use Rattle.std.specs.Prelude.{◌≡◌, ℕ, List, [], ◌∷◌, length, slice_index, Some}
use Rattle.sm_world.specs.Outside.{Outside}
use Rattle.ice_cookie.specs.declared.cookies.Cookie.{Cookie}
use Rattle.checkpoint_slots.specs.Layout.{store_size}

-- the cookie of each rehearsal
abbrev pub rehearsal_cookie : Cookie
rehearsal_cookie = record { 0 = 0 ∷ 1 ∷ 2 ∷ 3 ∷ 4 ∷ 5 ∷ 6 ∷ 7 ∷ 8 ∷ 9 ∷ 10 ∷ 11 ∷ 12 ∷ 13 ∷ 14 ∷ 15 ∷ [] }

-- a store that nobody wrote to: a file of the right size, no gate of which is open
pub record IsBlank (file : List ℕ) : Type 0 where
  pub size : length file ≡ store_size
  pub first : slice_index file 0 ≡ 0
  pub second : slice_index file 32 ≡ 0

-- a world that was just made with such a store
pub record IsFresh (old : Outside) (file : List ℕ) : Type 0 where
  pub blank : IsBlank file
  pub told : old.told ≡ Some []
  pub first : old.first ≡ Some file
  pub size : old.size ≡ store_size
