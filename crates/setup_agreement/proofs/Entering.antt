-- A client with the right cookie is let in.
use Rattle.std.proofs.Common.{lit≤, ◌≡◌, ◌⊎◌, inl, inr, refl, ap, ◌∙◌, subst, sym, Bool, true, false, List, [], ◌∷◌, arith}
use Rattle.std.specs.Prelude.{Option, Some, if◌then◌else◌}
use lib.Pointwise.{bytes_decides}
use Rattle.ice_cookie.specs.Cookies.{shows}
use Rattle.ice_cookie.specs.declared.cookies.Cookie.{Cookie}
use Rattle.ice_values.specs.declared.numbers.Endian.TheVariants.{Lsb}
use Rattle.ice_messages.specs.declared.message.IceMessage.{IceMessage}
use Rattle.ice_setup.specs.Opener.{protocol_setup, shows_cookie}
use Rattle.ice_setup.specs.Setup.{asks_cookie, connection_reply, named, protocol_reply, rejection}
use Rattle.ice_setup.specs.declared.opener.AnyOpener.{AnyOpener}
use Rattle.ice_setup.specs.declared.opener.AnyOpener.TheVariants.{Joined as HasJoined, OpenProtocol}
use Rattle.ice_setup.specs.declared.states.AnySetup.{AnySetup}
use Rattle.ice_setup.specs.declared.states.AnySetup.TheVariants.{AwaitProtocol, AwaitProtocolCookie, Ready}
use Rattle.ice_setup.specs.declared.states.Moved.{Moved}
use Rattle.ice_setup.specs.declared.states.Moved.TheVariants.{Ends, Goes}
use Rattle.setup_agreement.specs.Laws.{LetsIn, RightCookiesAreLetIn}
use Rattle.setup_agreement.specs.SetUps.{SetUp, Way, after, begun, hears, step}
use Rattle.setup_agreement.specs.SetUps.Way.{Comes, Takes}
use Rattle.setup_agreement.proofs.Rows.{Early, IsEarly, IsWithin, client_list, early, early-few, early-on, manager_list, never, next, opening, sat}
use Rattle.setup_agreement.proofs.Rows.Early.{Demanded, OrderHeard, OrderTaken, Ordered, Shown, Started}

-- what follows once the cookie was shown
abbrev pub later : Cookie → List IceMessage
later cookie = protocol_setup ∷ shows_cookie cookie ∷ []

abbrev pub answers : List IceMessage
answers = connection_reply 0 ∷ asks_cookie 0 ∷ protocol_reply 0 ∷ []

pub data Late : Type 0 where
  Connected : Late
  Offered : Late
  Asked : Late
  ShownAgain : Late
  Opened : Late
  Joined : Late

abbrev pub waits : Cookie → Option AnySetup
waits cookie = Some (AwaitProtocol (record { cookie = cookie; endian = Lsb }))

abbrev pub asks : Cookie → Option AnySetup
asks cookie = Some (AwaitProtocolCookie (record { cookie = cookie; endian = Lsb; opcode = 1; version = 0 }))

abbrev pub is_ready : Cookie → Option AnySetup
is_ready cookie = Some (Ready (record { cookie = cookie; endian = Lsb; opcode = 1 }))

abbrev pub offers : Cookie → Option AnyOpener
offers cookie = Some (OpenProtocol (record { cookie = cookie }))

abbrev pub late : Cookie → Late → SetUp
late k Connected = sat (client_list k k (later k) answers) (manager_list k k (later k) answers) (waits k) (opening k k (later k) answers) 3 3 3 2
late k Offered = sat (client_list k k (later k) answers) (manager_list k k (later k) answers) (waits k) (offers k) 4 3 3 3
late k Asked = sat (client_list k k (later k) answers) (manager_list k k (later k) answers) (asks k) (offers k) 4 4 4 3
late k ShownAgain = sat (client_list k k (later k) answers) (manager_list k k (later k) answers) (asks k) (offers k) 5 4 4 4
late k Opened = sat (client_list k k (later k) answers) (manager_list k k (later k) answers) (is_ready k) (offers k) 5 5 5 4
late k Joined = sat (client_list k k (later k) answers) (manager_list k k (later k) answers) (is_ready k) (Some (HasJoined (record { opcode = 1 }))) 5 5 5 5

abbrev next_late : Way → Late → Late
next_late Comes Offered = Asked
next_late Comes ShownAgain = Opened
next_late Comes row = row
next_late Takes Connected = Offered
next_late Takes Asked = ShownAgain
next_late Takes Opened = Joined
next_late Takes row = row

pub same-cookie : (k : Cookie) → shows k k.0 ≡ true
same-cookie k = (bytes_decides k.0 k.0).1 refl

accepted : (b : Bool) (x y : Moved) (p : SetUp) → b ≡ true → hears (if b then x else y) p ≡ hears x p
accepted true x y p e = refl
accepted false x y p e = absurd (grind arith)

-- the cookie is the right one
first-shown : (k : Cookie) → step Comes (early k k (later k) answers Shown) ≡ late k Connected
first-shown k =
    accepted (shows k k.0) (Goes (AwaitProtocol (record { cookie = k; endian = Lsb })) (Some (connection_reply 0))) (Ends (Some (rejection (named (shows_cookie k) 3)))) (early k k (later k) answers Shown) (same-cookie k)

again-shown : (k : Cookie) → step Comes (late k ShownAgain) ≡ late k Opened
again-shown k =
    accepted (shows k k.0) (Goes (Ready (record { cookie = k; endian = Lsb; opcode = 1 })) (Some (protocol_reply 0))) (Ends (Some (rejection (named (shows_cookie k) 5)))) (late k ShownAgain) (same-cookie k)

late-on : (k : Cookie) (way : Way) (row : Late) → step way (late k row) ≡ late k (next_late way row)
late-on k Comes Connected = refl
late-on k Comes Offered = refl
late-on k Comes Asked = refl
late-on k Comes ShownAgain = again-shown k
late-on k Comes Opened = refl
late-on k Comes Joined = refl
late-on k Takes Connected = refl
late-on k Takes Offered = refl
late-on k Takes Asked = refl
late-on k Takes ShownAgain = refl
late-on k Takes Opened = refl
late-on k Takes Joined = refl

pub record IsLate (k : Cookie) (p : SetUp) : Type 0 where
  pub row : Late
  pub is : p ≡ late k row

abbrev pub Enters : Cookie → SetUp → Type 0
Enters k p = IsEarly k k (later k) answers p ⊎ IsLate k p

early-step : (k : Cookie) (way : Way) (row : Early) → Enters k (step way (early k k (later k) answers row))
early-step k Comes Shown = inr (record { row = Connected; is = first-shown k })
early-step k way row = inl (record { row = next way row; is = early-on k k (later k) answers way row refl })

pub enters-step : (k : Cookie) (way : Way) (p : SetUp) → Enters k p → Enters k (step way p)
enters-step k way p (inl e) = subst (λ (x : SetUp). Enters k (step way x)) (sym e.is) (early-step k way e.row)
enters-step k way p (inr l) = inr (record { row = next_late way l.row; is = ap (λ (x : SetUp). step way x) l.is ∙ late-on k way l.row })

pub enters-after : (k : Cookie) (ways : List Way) (p : SetUp) → Enters k p → Enters k (after ways p)
enters-after k [] p e = e
enters-after k (way ∷ ways) p e = enters-after k ways (step way p) (enters-step k way p e)

early-in : (k : Cookie) (row : Early) → LetsIn k (early k k (later k) answers row)
early-in k Started = record { up = refl; down = refl; stay = (refl, refl); done = λ q. absurd (never 0 1 refl q.0) }
early-in k OrderHeard = record { up = refl; down = refl; stay = (refl, refl); done = λ q. absurd (never 0 1 refl q.1) }
early-in k OrderTaken = record { up = refl; down = refl; stay = (refl, refl); done = λ q. absurd (never 0 2 refl q.0) }
early-in k Ordered = record { up = refl; down = refl; stay = (refl, refl); done = λ q. absurd (never 1 2 refl q.0) }
early-in k Demanded = record { up = refl; down = refl; stay = (refl, refl); done = λ q. absurd (never 1 2 refl q.1) }
early-in k Shown = record { up = refl; down = refl; stay = (refl, refl); done = λ q. absurd (never 2 3 refl q.0) }

late-in : (k : Cookie) (row : Late) → LetsIn k (late k row)
late-in k Connected = record { up = refl; down = refl; stay = (refl, refl); done = λ q. absurd (never 2 3 refl q.1) }
late-in k Offered = record { up = refl; down = refl; stay = (refl, refl); done = λ q. absurd (never 3 4 refl q.0) }
late-in k Asked = record { up = refl; down = refl; stay = (refl, refl); done = λ q. absurd (never 3 4 refl q.1) }
late-in k ShownAgain = record { up = refl; down = refl; stay = (refl, refl); done = λ q. absurd (never 4 5 refl q.0) }
late-in k Opened = record { up = refl; down = refl; stay = (refl, refl); done = λ q. absurd (never 4 5 refl q.1) }
late-in k Joined = record { up = refl; down = refl; stay = (refl, refl); done = λ q. (refl, refl) }

pub lets-in : (k : Cookie) (p : SetUp) → Enters k p → LetsIn k p
lets-in k p (inl e) = subst (λ (x : SetUp). LetsIn k x) (sym e.is) (early-in k e.row)
lets-in k p (inr l) = subst (λ (x : SetUp). LetsIn k x) (sym l.is) (late-in k l.row)

-- no end has taken what wasn't said

late-few : (k : Cookie) (row : Late) → IsWithin (late k row)
late-few k Connected = (lit≤ tt, lit≤ tt)
late-few k row = (lit≤ tt, lit≤ tt)

pub enters-few : (k : Cookie) (p : SetUp) → Enters k p → IsWithin p
enters-few k p (inl e) = subst (λ (x : SetUp). IsWithin x) (sym e.is) (early-few k k (later k) answers e.row)
enters-few k p (inr l) = subst (λ (x : SetUp). IsWithin x) (sym l.is) (late-few k l.row)

pub enters-start : (k : Cookie) → Enters k (begun k k)
enters-start k = inl (record { row = Started; is = refl })

pub right-cookies : RightCookiesAreLetIn
right-cookies k ways = lets-in k (after ways (begun k k)) (enters-after k ways (begun k k) (enters-start k))
