-- What cutting the rest of a piece does to a client.
use Rattle.std.specs.Prelude.{◌≡◌, ℕ, true, false, List, [], ◌∷◌, drop, Option, Some, None}
use Rattle.ice_cookie.specs.declared.cookies.Cookie.{Cookie}
use Rattle.ice_framing.specs.Frames.{beginning, fed, cut}
use Rattle.ice_framing.specs.Parts.{Part, parts_at}
use Rattle.ice_setup.specs.declared.opener.AnyOpener.TheVariants.{OpenOrder as AtOrder}
use Rattle.client_engine.specs.Hearing.{part_heard}
use Rattle.client_engine.specs.Places.{is_listening}
use Rattle.client_engine.specs.declared.engine.Core.{Core}
use Rattle.client_engine.specs.declared.engine.Taken.{Taken}
use Rattle.client_engine.specs.declared.place.Place.TheVariants.{Opening}
use Rattle.client_engine.specs.declared.place.Talk.{Talk}

-- a client that has sent ByteOrder, and waits for the manager's
abbrev pub opening : Cookie → List ℕ → Talk
opening cookie previous = record { place = Opening (AtOrder (record { cookie = cookie })) previous; counts = record { sequence = 0; at = 0 } }

pub record IsNew (cookie : Cookie) (previous : List ℕ) (core : Core) : Type 0 where
  pub talk : core.talk ≡ opening cookie previous
  pub splitter : core.splitter ≡ beginning

-- The first part that the bytes make whole was taken, and the rest of the bytes is left.
pub record TakesFirst (before : Core) (left : List ℕ) (taken : Taken) (after : Core) : Type 0 where
  pub listens : is_listening before.talk.place ≡ true
  pub part : Part
  pub parts : parts_at (fed before.splitter left) ≡ part ∷ parts_at (fed after.splitter (drop taken.count left))
  pub said : taken.said ≡ (part_heard before.talk part).said
  pub cue : taken.cue ≡ (part_heard before.talk part).cue
  pub talk : after.talk ≡ (part_heard before.talk part).next
  -- what is cut behind the part is what would have been cut
  pub stands : is_listening after.talk.place ≡ true → (cut (fed after.splitter (drop taken.count left))).standing ≡ (cut (fed before.splitter left)).standing

-- No part is whole: all bytes are held.
pub record HoldsAll (before : Core) (left : List ℕ) (after : Core) : Type 0 where
  pub none : parts_at (fed before.splitter left) ≡ []
  pub talk : after.talk ≡ before.talk
  pub splitter : after.splitter ≡ fed before.splitter left

-- The client takes nothing more, and nothing changes.
pub record IsDeaf (before after : Core) : Type 0 where
  pub deaf : is_listening before.talk.place ≡ false
  pub talk : after.talk ≡ before.talk
  pub splitter : after.splitter ≡ before.splitter

-- Nothing is taken.
pub data TakesNothing (before : Core) (left : List ℕ) (after : Core) : Type 0 where
  Holds : HoldsAll before left after → TakesNothing before left after
  Deaf : IsDeaf before after → TakesNothing before left after

abbrev pub Cuts : Core → List ℕ → Option Taken → Core → Type 0
Cuts before left None after = TakesNothing before left after
Cuts before left (Some taken) after = TakesFirst before left taken after
