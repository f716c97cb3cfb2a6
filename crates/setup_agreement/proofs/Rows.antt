-- Where a set-up can be until the cookie comes to the manager, and what each step makes of it.
use Rattle.std.proofs.Common.{lit≤, ◌≡◌, refl, ℕ, ◌≤◌, Bool, true, false, List, ◌∷◌, length, take, eqb, arith}
use Rattle.std.specs.Prelude.{Option, Some}
use Rattle.std.proofs.lemmas.Bool.Decides.{nat_tests}
use Rattle.ice_cookie.specs.declared.cookies.Cookie.{Cookie}
use Rattle.ice_values.specs.declared.numbers.Endian.TheVariants.{Lsb}
use Rattle.ice_messages.specs.declared.message.IceMessage.{IceMessage}
use Rattle.ice_messages.specs.declared.message.IceMessage.TheVariants.{ByteOrder}
use Rattle.ice_setup.specs.Opener.{connection_setup, shows_cookie}
use Rattle.ice_setup.specs.Setup.{asks_cookie}
use Rattle.ice_setup.specs.declared.opener.AnyOpener.{AnyOpener}
use Rattle.ice_setup.specs.declared.opener.AnyOpener.TheVariants.{OpenOrder, OpenSetup}
use Rattle.ice_setup.specs.declared.states.AnySetup.{AnySetup}
use Rattle.ice_setup.specs.declared.states.AnySetup.TheVariants.{AwaitCookie, AwaitOrder, AwaitSetup}
use Rattle.setup_agreement.specs.SetUps.{SetUp, Way, step}
use Rattle.setup_agreement.specs.SetUps.Way.{Comes, Takes}

pub never : (a b : ℕ) → eqb a b ≡ false → a ≡ b → ⊥
never a b n e = grind (arith, nat_tests)

-- no end has taken what wasn't said
abbrev pub IsWithin : SetUp → Type 0
IsWithin p = (p.heard ≤ length p.said_up) × (p.took ≤ length p.said_down)

-- The client's messages, and the manager's, of which so many were said and so many taken
abbrev pub sat : List IceMessage → List IceMessage → Option AnySetup → Option AnyOpener → ℕ → ℕ → ℕ → ℕ → SetUp
sat ups downs manager client up down heard took = record { manager = manager; client = client; said_up = take up ups; said_down = take down downs; heard = heard; took = took }

pub data Early : Type 0 where
  Started : Early
  OrderHeard : Early
  OrderTaken : Early
  Ordered : Early
  Demanded : Early
  Shown : Early

-- the same so far, whatever comes later
module _ (cookie shown : Cookie) (later : List IceMessage) (answers : List IceMessage) where
  abbrev pub client_list : List IceMessage
  client_list = ByteOrder Lsb ∷ connection_setup ∷ shows_cookie shown ∷ later

  abbrev pub manager_list : List IceMessage
  manager_list = ByteOrder Lsb ∷ asks_cookie 0 ∷ answers

  abbrev pub asking : Option AnySetup
  asking = Some (AwaitCookie (record { cookie = cookie; endian = Lsb; version = 0 }))

  abbrev pub opening : Option AnyOpener
  opening = Some (OpenSetup (record { cookie = shown }))

  abbrev pub early : Early → SetUp
  early Started = sat client_list manager_list (Some (AwaitOrder (record { cookie = cookie }))) (Some (OpenOrder (record { cookie = shown }))) 1 1 0 0
  early OrderHeard = sat client_list manager_list (Some (AwaitSetup (record { cookie = cookie; endian = Lsb }))) (Some (OpenOrder (record { cookie = shown }))) 1 1 1 0
  early OrderTaken = sat client_list manager_list (Some (AwaitOrder (record { cookie = cookie }))) opening 2 1 0 1
  early Ordered = sat client_list manager_list (Some (AwaitSetup (record { cookie = cookie; endian = Lsb }))) opening 2 1 1 1
  early Demanded = sat client_list manager_list asking opening 2 2 2 1
  early Shown = sat client_list manager_list asking opening 3 2 2 2

  pub record IsEarly (p : SetUp) : Type 0 where
    pub row : Early
    pub is : p ≡ early row

abbrev pub next : Way → Early → Early
next Comes Started = OrderHeard
next Comes OrderTaken = Ordered
next Comes Ordered = Demanded
next Comes row = row
next Takes Started = OrderTaken
next Takes OrderHeard = Ordered
next Takes Demanded = Shown
next Takes row = row

-- the manager looks at the cookie
abbrev pub is_shown : Way → Early → Bool
is_shown Comes Shown = true
is_shown way row = false

pub early-on : (cookie shown : Cookie) (later answers : List IceMessage) (way : Way) (row : Early) → is_shown way row ≡ false → step way (early cookie shown later answers row) ≡ early cookie shown later answers (next way row)
early-on cookie shown later answers Comes Started n = refl
early-on cookie shown later answers Comes OrderHeard n = refl
early-on cookie shown later answers Comes OrderTaken n = refl
early-on cookie shown later answers Comes Ordered n = refl
early-on cookie shown later answers Comes Demanded n = refl
early-on cookie shown later answers Comes Shown n = absurd (grind arith)
early-on cookie shown later answers Takes Started n = refl
early-on cookie shown later answers Takes OrderHeard n = refl
early-on cookie shown later answers Takes OrderTaken n = refl
early-on cookie shown later answers Takes Ordered n = refl
early-on cookie shown later answers Takes Demanded n = refl
early-on cookie shown later answers Takes Shown n = refl

pub early-few : (cookie shown : Cookie) (later answers : List IceMessage) (row : Early) → IsWithin (early cookie shown later answers row)
early-few cookie shown later answers Started = (lit≤ tt, lit≤ tt)
early-few cookie shown later answers row = (lit≤ tt, lit≤ tt)
