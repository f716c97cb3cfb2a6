-- A client with another cookie or with no version that the manager speaks is kept out, and ends.
use Rattle.std.proofs.Common.{lit≤, ◌≡◌, ◌⊎◌, inl, inr, refl, ap, ◌∙◌, subst, sym, ℕ, Bool, true, false, List, [], ◌∷◌, drop, arith}
use Rattle.std.specs.Prelude.{Option, Some, None, is_some, if◌then◌else◌}
use Rattle.ice_cookie.specs.Cookies.{shows}
use Rattle.ice_cookie.specs.declared.cookies.Cookie.{Cookie}
use Rattle.ice_values.specs.declared.class.ErrorClass.TheVariants.{NoVersion}
use Rattle.ice_values.specs.declared.numbers.Endian.TheVariants.{Lsb}
use Rattle.ice_values.specs.declared.severity.Severity.TheVariants.{FatalToConnection}
use Rattle.ice_values.specs.declared.version.Version.{Version}
use Rattle.ice_messages.specs.declared.message.IceMessage.{IceMessage}
use Rattle.ice_messages.specs.declared.message.IceMessage.TheVariants.{ByteOrder, ConnectionSetup, Error}
use Rattle.ice_setup.specs.Errors.{blame}
use Rattle.ice_setup.specs.Offers.{first_cookie_name, first_version}
use Rattle.ice_setup.specs.Opener.{connection_setup, shows_cookie}
use Rattle.ice_setup.specs.Setup.{asks_cookie, connection_offer, connection_reply, named, rejection}
use Rattle.ice_setup.specs.declared.opener.AnyOpener.TheVariants.{OpenSetup}
use Rattle.ice_setup.specs.declared.states.AnySetup.TheVariants.{AwaitProtocol}
use Rattle.ice_setup.specs.declared.states.AwaitSetup.{AwaitSetup}
use Rattle.ice_setup.specs.declared.states.Moved.{Moved}
use Rattle.ice_setup.specs.declared.states.Moved.TheVariants.{Ends, Goes}
use Rattle.setup_agreement.specs.Laws.{KeepsOut, OtherCookiesAreKeptOut, OtherVersionsAreKeptOut, begun_with}
use Rattle.setup_agreement.specs.SetUps.{SetUp, Way, after, begun, hears, step}
use Rattle.setup_agreement.specs.SetUps.Way.{Comes, Takes}
use Rattle.setup_agreement.proofs.Rows.{Early, IsEarly, IsWithin, client_list, early, early-few, early-on, manager_list, never, next, opening, sat}
use Rattle.setup_agreement.proofs.Rows.Early.{Demanded, OrderHeard, OrderTaken, Ordered, Shown, Started}

refused : (b : Bool) (x y : Moved) (p : SetUp) → b ≡ false → hears (if b then x else y) p ≡ hears y p
refused true x y p e = absurd (grind arith)
refused false x y p e = refl

pub data Late : Type 0 where
  Told : Late
  Over : Late

-- Another cookie

abbrev pub answers : Cookie → List IceMessage
answers shown = rejection (named (shows_cookie shown) 3) ∷ []

abbrev pub late : Cookie → Late → SetUp
late shown Told = sat (client_list shown shown [] (answers shown)) (manager_list shown shown [] (answers shown)) None (opening shown shown [] (answers shown)) 3 3 3 2
late shown Over = sat (client_list shown shown [] (answers shown)) (manager_list shown shown [] (answers shown)) None None 3 3 3 3

abbrev next_late : Way → Late → Late
next_late Takes Told = Over
next_late way row = row

other-shown : (cookie shown : Cookie) → shows cookie shown.0 ≡ false → step Comes (early cookie shown [] (answers shown) Shown) ≡ late shown Told
other-shown cookie shown n =
    refused (shows cookie shown.0) (Goes (AwaitProtocol (record { cookie = cookie; endian = Lsb })) (Some (connection_reply 0))) (Ends (Some (rejection (named (shows_cookie shown) 3)))) (early cookie shown [] (answers shown) Shown) n

late-on : (shown : Cookie) (way : Way) (row : Late) → step way (late shown row) ≡ late shown (next_late way row)
late-on shown Comes Told = refl
late-on shown Comes Over = refl
late-on shown Takes Told = refl
late-on shown Takes Over = refl

pub record IsLate (shown : Cookie) (p : SetUp) : Type 0 where
  pub row : Late
  pub is : p ≡ late shown row

abbrev pub Leaves : Cookie → Cookie → SetUp → Type 0
Leaves cookie shown p = IsEarly cookie shown [] (answers shown) p ⊎ IsLate shown p

early-step : (cookie shown : Cookie) (way : Way) (row : Early) → shows cookie shown.0 ≡ false → Leaves cookie shown (step way (early cookie shown [] (answers shown) row))
early-step cookie shown Comes Shown n = inr (record { row = Told; is = other-shown cookie shown n })
early-step cookie shown way row n = inl (record { row = next way row; is = early-on cookie shown [] (answers shown) way row refl })

pub leaves-step : (cookie shown : Cookie) (way : Way) (p : SetUp) → shows cookie shown.0 ≡ false → Leaves cookie shown p → Leaves cookie shown (step way p)
leaves-step cookie shown way p n (inl e) = subst (λ (x : SetUp). Leaves cookie shown (step way x)) (sym e.is) (early-step cookie shown way e.row n)
leaves-step cookie shown way p n (inr l) = inr (record { row = next_late way l.row; is = ap (λ (x : SetUp). step way x) l.is ∙ late-on shown way l.row })

leaves-after : (cookie shown : Cookie) (ways : List Way) (p : SetUp) → shows cookie shown.0 ≡ false → Leaves cookie shown p → Leaves cookie shown (after ways p)
leaves-after cookie shown [] p n e = e
leaves-after cookie shown (way ∷ ways) p n e = leaves-after cookie shown ways (step way p) n (leaves-step cookie shown way p n e)

abbrev pub ClosesOn : Cookie → SetUp → Type 0
ClosesOn shown p = KeepsOut (ByteOrder Lsb ∷ connection_setup ∷ shows_cookie shown ∷ []) (ByteOrder Lsb ∷ asks_cookie 0 ∷ answers shown) p

early-out : (cookie shown : Cookie) (row : Early) → ClosesOn shown (early cookie shown [] (answers shown) row)
early-out cookie shown Started = record { up = refl; down = refl; done = λ q. absurd (never 0 1 refl q.0) }
early-out cookie shown OrderHeard = record { up = refl; down = refl; done = λ q. absurd (never 0 1 refl q.1) }
early-out cookie shown OrderTaken = record { up = refl; down = refl; done = λ q. absurd (never 0 2 refl q.0) }
early-out cookie shown Ordered = record { up = refl; down = refl; done = λ q. absurd (never 1 2 refl q.0) }
early-out cookie shown Demanded = record { up = refl; down = refl; done = λ q. absurd (never 1 2 refl q.1) }
early-out cookie shown Shown = record { up = refl; down = refl; done = λ q. absurd (never 2 3 refl q.0) }

late-out : (shown : Cookie) (row : Late) → ClosesOn shown (late shown row)
late-out shown Told = record { up = refl; down = refl; done = λ q. absurd (never 2 3 refl q.1) }
late-out shown Over = record { up = refl; down = refl; done = λ q. (refl, refl) }

pub keeps-out : (cookie shown : Cookie) (p : SetUp) → Leaves cookie shown p → ClosesOn shown p
keeps-out cookie shown p (inl e) = subst (λ (x : SetUp). ClosesOn shown x) (sym e.is) (early-out cookie shown e.row)
keeps-out cookie shown p (inr l) = subst (λ (x : SetUp). ClosesOn shown x) (sym l.is) (late-out shown l.row)

late-few : (shown : Cookie) (row : Late) → IsWithin (late shown row)
late-few shown Told = (lit≤ tt, lit≤ tt)
late-few shown Over = (lit≤ tt, lit≤ tt)

pub leaves-few : (cookie shown : Cookie) (p : SetUp) → Leaves cookie shown p → IsWithin p
leaves-few cookie shown p (inl e) = subst (λ (x : SetUp). IsWithin x) (sym e.is) (early-few cookie shown [] (answers shown) e.row)
leaves-few cookie shown p (inr l) = subst (λ (x : SetUp). IsWithin x) (sym l.is) (late-few shown l.row)

-- who has closed or ended has taken all

early-hears : (cookie shown : Cookie) (row : Early) → is_some (early cookie shown [] (answers shown) row).manager ≡ true
early-hears cookie shown Started = refl
early-hears cookie shown row = refl

early-takes : (cookie shown : Cookie) (row : Early) → is_some (early cookie shown [] (answers shown) row).client ≡ true
early-takes cookie shown Started = refl
early-takes cookie shown row = refl

late-hears : (shown : Cookie) (row : Late) (m : IceMessage) (ws : List IceMessage) → drop (late shown row).heard (late shown row).said_up ≡ m ∷ ws → is_some (late shown row).manager ≡ true
late-hears shown Told m ws d = absurd cc
late-hears shown Over m ws d = absurd cc

late-takes : (shown : Cookie) (row : Late) (m : IceMessage) (ws : List IceMessage) → drop (late shown row).took (late shown row).said_down ≡ m ∷ ws → is_some (late shown row).client ≡ true
late-takes shown Told m ws d = refl
late-takes shown Over m ws d = absurd cc

pub leaves-hears : (cookie shown : Cookie) (p : SetUp) (m : IceMessage) (ws : List IceMessage) → Leaves cookie shown p → drop p.heard p.said_up ≡ m ∷ ws → is_some p.manager ≡ true
leaves-hears cookie shown p m ws (inl e) d = subst (λ (x : SetUp). is_some x.manager ≡ true) (sym e.is) (early-hears cookie shown e.row)
leaves-hears cookie shown p m ws (inr l) d =
    subst (λ (x : SetUp). is_some x.manager ≡ true) (sym l.is) (late-hears shown l.row m ws (subst (λ (x : SetUp). drop x.heard x.said_up ≡ m ∷ ws) l.is d))

pub leaves-takes : (cookie shown : Cookie) (p : SetUp) (m : IceMessage) (ws : List IceMessage) → Leaves cookie shown p → drop p.took p.said_down ≡ m ∷ ws → is_some p.client ≡ true
leaves-takes cookie shown p m ws (inl e) d = subst (λ (x : SetUp). is_some x.client ≡ true) (sym e.is) (early-takes cookie shown e.row)
leaves-takes cookie shown p m ws (inr l) d =
    subst (λ (x : SetUp). is_some x.client ≡ true) (sym l.is) (late-takes shown l.row m ws (subst (λ (x : SetUp). drop x.took x.said_down ≡ m ∷ ws) l.is d))

pub leaves-start : (cookie shown : Cookie) → Leaves cookie shown (begun cookie shown)
leaves-start cookie shown = inl (record { row = Started; is = refl })

pub other-cookies : OtherCookiesAreKeptOut
other-cookies cookie shown ways n = keeps-out cookie shown (after ways (begun cookie shown)) (leaves-after cookie shown ways (begun cookie shown) n (leaves-start cookie shown))

-- Another version, in whatever else is offered

pub data Offer : Type 0 where
  Offered : Offer
  Refused : Offer
  Ended : Offer

module _ (cookie shown : Cookie) (must : Bool) (vendor release : List ℕ) (names : List (List ℕ)) (offered : List Version) where
  abbrev pub setup : IceMessage
  setup = ConnectionSetup must vendor release names offered

  abbrev pub no_version : IceMessage
  no_version = Error (blame FatalToConnection NoVersion (named setup 2) [])

  abbrev pub offer : Offer → SetUp
  offer Offered = begun_with cookie shown setup
  offer Refused = record { manager = None; client = Some (OpenSetup (record { cookie = shown })); said_up = ByteOrder Lsb ∷ setup ∷ []; said_down = ByteOrder Lsb ∷ no_version ∷ []; heard = 2; took = 1 }
  offer Ended = record { manager = None; client = None; said_up = ByteOrder Lsb ∷ setup ∷ []; said_down = ByteOrder Lsb ∷ no_version ∷ []; heard = 2; took = 2 }

  pub record IsOffer (p : SetUp) : Type 0 where
    pub row : Offer
    pub is : p ≡ offer row

  abbrev next_offer : Way → Offer → Offer
  next_offer Comes Offered = Refused
  next_offer Takes Refused = Ended
  next_offer way row = row

  abbrev asked : AwaitSetup
  asked = record { cookie = cookie; endian = Lsb }

  offer-on : (way : Way) (row : Offer) → first_version offered ≡ None → step way (offer row) ≡ offer (next_offer way row)
  offer-on Comes Offered n = ap (λ (version : Option ℕ). hears (connection_offer asked version (first_cookie_name names) (named setup 2)) (offer Offered)) n
  offer-on Comes Refused n = refl
  offer-on Comes Ended n = refl
  offer-on Takes Offered n = refl
  offer-on Takes Refused n = refl
  offer-on Takes Ended n = refl

  pub offer-step : (way : Way) (p : SetUp) → first_version offered ≡ None → IsOffer p → IsOffer (step way p)
  offer-step way p n e = record { row = next_offer way e.row; is = ap (λ (x : SetUp). step way x) e.is ∙ offer-on way e.row n }

  offer-after : (ways : List Way) (p : SetUp) → first_version offered ≡ None → IsOffer p → IsOffer (after ways p)
  offer-after [] p n e = e
  offer-after (way ∷ ways) p n e = offer-after ways (step way p) n (offer-step way p n e)

  offer-within : (row : Offer) → IsWithin (offer row)
  offer-within Offered = (lit≤ tt, lit≤ tt)
  offer-within Refused = (lit≤ tt, lit≤ tt)
  offer-within Ended = (lit≤ tt, lit≤ tt)

  pub offer-few : (p : SetUp) → IsOffer p → IsWithin p
  offer-few p e = subst (λ (x : SetUp). IsWithin x) (sym e.is) (offer-within e.row)

  row-hears : (row : Offer) (m : IceMessage) (ws : List IceMessage) → drop (offer row).heard (offer row).said_up ≡ m ∷ ws → is_some (offer row).manager ≡ true
  row-hears Offered m ws d = refl
  row-hears Refused m ws d = absurd cc
  row-hears Ended m ws d = absurd cc

  row-takes : (row : Offer) (m : IceMessage) (ws : List IceMessage) → drop (offer row).took (offer row).said_down ≡ m ∷ ws → is_some (offer row).client ≡ true
  row-takes Offered m ws d = refl
  row-takes Refused m ws d = refl
  row-takes Ended m ws d = absurd cc

  pub offer-hears : (p : SetUp) (m : IceMessage) (ws : List IceMessage) → IsOffer p → drop p.heard p.said_up ≡ m ∷ ws → is_some p.manager ≡ true
  offer-hears p m ws e d = subst (λ (x : SetUp). is_some x.manager ≡ true) (sym e.is) (row-hears e.row m ws (subst (λ (x : SetUp). drop x.heard x.said_up ≡ m ∷ ws) e.is d))

  pub offer-takes : (p : SetUp) (m : IceMessage) (ws : List IceMessage) → IsOffer p → drop p.took p.said_down ≡ m ∷ ws → is_some p.client ≡ true
  offer-takes p m ws e d = subst (λ (x : SetUp). is_some x.client ≡ true) (sym e.is) (row-takes e.row m ws (subst (λ (x : SetUp). drop x.took x.said_down ≡ m ∷ ws) e.is d))

  pub offer-start : IsOffer (begun_with cookie shown setup)
  offer-start = record { row = Offered; is = refl }

  abbrev pub EndsSo : SetUp → Type 0
  EndsSo p = KeepsOut (ByteOrder Lsb ∷ setup ∷ []) (ByteOrder Lsb ∷ no_version ∷ []) p

  offer-out : (row : Offer) → EndsSo (offer row)
  offer-out Offered = record { up = refl; down = refl; done = λ q. absurd (never 1 2 refl q.0) }
  offer-out Refused = record { up = refl; down = refl; done = λ q. absurd (never 1 2 refl q.1) }
  offer-out Ended = record { up = refl; down = refl; done = λ q. (refl, refl) }

  pub offer-ends : (p : SetUp) → IsOffer p → EndsSo p
  offer-ends p e = subst (λ (x : SetUp). EndsSo x) (sym e.is) (offer-out e.row)

pub other-versions : OtherVersionsAreKeptOut
other-versions cookie shown must vendor release names offered ways n =
    offer-ends cookie shown must vendor release names offered (after ways (begun_with cookie shown (ConnectionSetup must vendor release names offered)))
    (offer-after cookie shown must vendor release names offered ways (begun_with cookie shown (ConnectionSetup must vendor release names offered)) n (record { row = Offered; is = refl }))
