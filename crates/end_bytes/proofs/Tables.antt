-- What the tables say of the next message of a set-up with the right cookie, at either end.
use Rattle.std.proofs.Common.{lit≤, ◌≡◌, inl, inr, refl, sym, ap, ◌∙◌, subst, ℕ, ◌≤◌, Bool, true, false, List, [], ◌∷◌, drop, arith}
use Rattle.std.specs.Prelude.{Option, None, Some, if◌then◌else◌}
use Rattle.ice_cookie.specs.Cookies.{shows}
use Rattle.ice_cookie.specs.declared.cookies.Cookie.{Cookie}
use Rattle.ice_values.specs.declared.numbers.Endian.TheVariants.{Lsb}
use Rattle.ice_messages.specs.declared.message.IceMessage.{IceMessage}
use Rattle.ice_setup.specs.Opener.{connection_setup, opened, protocol_setup, shows_cookie}
use Rattle.ice_setup.specs.Setup.{asks_cookie, connection_reply, moved, protocol_reply}
use Rattle.ice_setup.specs.declared.opener.AnyOpener.{AnyOpener}
use Rattle.ice_setup.specs.declared.opener.AnyOpener.TheVariants.{OpenProtocol, OpenSetup}
use Rattle.ice_setup.specs.declared.opener.OpenMoved.TheVariants.{Goes as GoesOn}
use Rattle.ice_setup.specs.declared.states.AnySetup.{AnySetup}
use Rattle.ice_setup.specs.declared.states.AnySetup.TheVariants.{AwaitCookie as AtCookie, AwaitProtocol as AtProtocol, AwaitProtocolCookie as AtProtocolCookie, AwaitSetup as AtSetup, Ready as AtReady}
use Rattle.ice_setup.specs.declared.states.Moved.{Moved}
use Rattle.ice_setup.specs.declared.states.Moved.TheVariants.{Goes}
use Rattle.client_engine.specs.Hearing.{fatal_class, opening_at, saying}
use Rattle.client_engine.specs.declared.place.Arrival.{Arrival}
use Rattle.client_engine.specs.declared.place.Place.TheVariants.{Opening}
use Rattle.protocol_messages.specs.declared.message.Message.{Message}
use Rattle.session_engine.specs.Answers.{speaks_xsmp}
use Rattle.end_agreement.proofs.Calm.{differ}
use Rattle.setup_agreement.specs.SetUps.{SetUp}
use Rattle.setup_agreement.proofs.Entering.{Enters, Late, answers, late, later, same-cookie}
use Rattle.setup_agreement.proofs.Entering.Late.{Asked, Connected, Joined, Offered, Opened, ShownAgain}
use Rattle.setup_agreement.proofs.Rows.{Early, early}
use Rattle.setup_agreement.proofs.Rows.Early.{Demanded, OrderHeard, OrderTaken, Ordered, Shown, Started}
use Rattle.end_bytes.specs.Entering.{IsInTurn}

abbrev pub setup_or : AnySetup → Option AnySetup → AnySetup
setup_or d None = d
setup_or d (Some x) = x

abbrev pub opener_or : AnyOpener → Option AnyOpener → AnyOpener
opener_or d None = d
opener_or d (Some x) = x

abbrev ice_or : IceMessage → List IceMessage → IceMessage
ice_or d [] = d
ice_or d (x ∷ xs) = x

-- the manager's table goes on, whatever the message's number
pub record TableGoes (setup : AnySetup) (x : IceMessage) : Type 0 where
  pub state : AnySetup
  pub answer : Option IceMessage
  pub is : (n : ℕ) → moved setup x n ≡ Goes state answer
  pub turn : IsInTurn setup x

goes-at : (s setup : AnySetup) (y x : IceMessage) (ys ws : List IceMessage) → Some s ≡ Some setup → y ∷ ys ≡ x ∷ ws → TableGoes s y → TableGoes setup x
goes-at s setup y x ys ws e d g = subst (λ (z : AnySetup). TableGoes z x) (ap (setup_or s) e) (subst (λ (z : IceMessage). TableGoes s z) (ap (ice_or y) d) g)

accepts : (b : Bool) (x y : Moved) → b ≡ true → (if b then x else y) ≡ x
accepts true x y e = refl
accepts false x y e = absurd (differ e refl)

early-goes : (k : Cookie) (row : Early) (setup : AnySetup) (x : IceMessage) (ws : List IceMessage) → (early k k (later k) answers row).manager ≡ Some setup → drop (early k k (later k) answers row).heard (early k k (later k) answers row).said_up ≡ x ∷ ws → TableGoes setup x
early-goes k Started setup x ws e d = goes-at _ setup _ x _ ws e d (record { state = AtSetup (record { cookie = k; endian = Lsb }); answer = None; is = λ n. refl; turn = refl })
early-goes k OrderHeard setup x ws e d = absurd cc
early-goes k OrderTaken setup x ws e d = goes-at _ setup _ x _ ws e d (record { state = AtSetup (record { cookie = k; endian = Lsb }); answer = None; is = λ n. refl; turn = refl })
early-goes k Ordered setup x ws e d = goes-at _ setup _ x _ ws e d (record { state = AtCookie (record { cookie = k; endian = Lsb; version = 0 }); answer = Some (asks_cookie 0); is = λ n. refl; turn = tt })
early-goes k Demanded setup x ws e d = absurd cc
early-goes k Shown setup x ws e d =
    goes-at (AtCookie (record { cookie = k; endian = Lsb; version = 0 })) setup (shows_cookie k) x [] ws e d
    (record { state = AtProtocol (record { cookie = k; endian = Lsb }); answer = Some (connection_reply 0); is = λ n. accepts (shows k k.0) _ _ (same-cookie k); turn = tt })

late-goes : (k : Cookie) (row : Late) (setup : AnySetup) (x : IceMessage) (ws : List IceMessage) → (late k row).manager ≡ Some setup → drop (late k row).heard (late k row).said_up ≡ x ∷ ws → TableGoes setup x
late-goes k Connected setup x ws e d = absurd cc
late-goes k Offered setup x ws e d = goes-at _ setup _ x _ ws e d (record { state = AtProtocolCookie (record { cookie = k; endian = Lsb; opcode = 1; version = 0 }); answer = Some (asks_cookie 0); is = λ n. refl; turn = tt })
late-goes k Asked setup x ws e d = absurd cc
late-goes k ShownAgain setup x ws e d =
    goes-at (AtProtocolCookie (record { cookie = k; endian = Lsb; opcode = 1; version = 0 })) setup (shows_cookie k) x [] ws e d
    (record { state = AtReady (record { cookie = k; endian = Lsb; opcode = 1 }); answer = Some (protocol_reply 0); is = λ n. accepts (shows k k.0) _ _ (same-cookie k); turn = tt })
late-goes k Opened setup x ws e d = absurd cc
late-goes k Joined setup x ws e d = absurd cc

pub table-goes : (k : Cookie) (p : SetUp) (setup : AnySetup) (x : IceMessage) (ws : List IceMessage) → Enters k p → p.manager ≡ Some setup → drop p.heard p.said_up ≡ x ∷ ws → TableGoes setup x
table-goes k p setup x ws (inl l) e d = early-goes k l.row setup x ws (ap (λ (q : SetUp). q.manager) (sym l.is) ∙ e) (ap (λ (q : SetUp). drop q.heard q.said_up) (sym l.is) ∙ d)
table-goes k p setup x ws (inr l) e d = late-goes k l.row setup x ws (ap (λ (q : SetUp). q.manager) (sym l.is) ∙ e) (ap (λ (q : SetUp). drop q.heard q.said_up) (sym l.is) ∙ d)

-- where the manager stands before XSMP begins, and after

speaks-at : (s setup : AnySetup) → Some s ≡ Some setup → speaks_xsmp s ≡ speaks_xsmp setup
speaks-at s setup e = ap (λ (o : Option AnySetup). speaks_xsmp (setup_or s o)) e

-- the client has taken at most four messages then
silent-late : (k : Cookie) (row : Late) (setup : AnySetup) → (late k row).manager ≡ Some setup → speaks_xsmp setup ≡ false → (late k row).took ≤ 4
silent-late k Opened setup e silent = lit≤ tt
silent-late k Joined setup e silent = absurd (differ (sym (speaks-at _ setup e)) silent)
silent-late k Connected setup e silent = lit≤ tt
silent-late k Offered setup e silent = lit≤ tt
silent-late k Asked setup e silent = lit≤ tt
silent-late k ShownAgain setup e silent = lit≤ tt

silent-early : (k : Cookie) (row : Early) → (early k k (later k) answers row).took ≤ 4
silent-early k Started = lit≤ tt
silent-early k OrderHeard = lit≤ tt
silent-early k OrderTaken = lit≤ tt
silent-early k Ordered = lit≤ tt
silent-early k Demanded = lit≤ tt
silent-early k Shown = lit≤ tt

pub silent-took : (k : Cookie) (p : SetUp) (setup : AnySetup) → Enters k p → p.manager ≡ Some setup → speaks_xsmp setup ≡ false → p.took ≤ 4
silent-took k p setup (inl l) e silent = subst (λ (q : SetUp). q.took ≤ 4) (sym l.is) (silent-early k l.row)
silent-took k p setup (inr l) e silent = subst (λ (q : SetUp). q.took ≤ 4) (sym l.is) (silent-late k l.row setup (ap (λ (q : SetUp). q.manager) (sym l.is) ∙ e) silent)

opened-late : (k : Cookie) (row : Late) (setup : AnySetup) → (late k row).manager ≡ Some setup → speaks_xsmp setup ≡ true → (late k row).took ≤ 4 → late k row ≡ late k Opened
opened-late k Opened setup e speaks few = refl
opened-late k Joined setup e speaks few = absurd (omega (arith, few))
opened-late k Connected setup e speaks few = absurd (differ speaks (sym (speaks-at _ setup e)))
opened-late k Offered setup e speaks few = absurd (differ speaks (sym (speaks-at _ setup e)))
opened-late k Asked setup e speaks few = absurd (differ speaks (sym (speaks-at _ setup e)))
opened-late k ShownAgain setup e speaks few = absurd (differ speaks (sym (speaks-at _ setup e)))

opened-early : (k : Cookie) (row : Early) (setup : AnySetup) → (early k k (later k) answers row).manager ≡ Some setup → speaks_xsmp setup ≡ false
opened-early k Started setup e = sym (speaks-at _ setup e)
opened-early k OrderHeard setup e = sym (speaks-at _ setup e)
opened-early k OrderTaken setup e = sym (speaks-at _ setup e)
opened-early k Ordered setup e = sym (speaks-at _ setup e)
opened-early k Demanded setup e = sym (speaks-at _ setup e)
opened-early k Shown setup e = sym (speaks-at _ setup e)

pub opened-row : (k : Cookie) (p : SetUp) (setup : AnySetup) → Enters k p → p.manager ≡ Some setup → speaks_xsmp setup ≡ true → p.took ≤ 4 → p ≡ late k Opened
opened-row k p setup (inl l) e speaks few = absurd (differ speaks (opened-early k l.row setup (ap (λ (q : SetUp). q.manager) (sym l.is) ∙ e)))
opened-row k p setup (inr l) e speaks few = l.is ∙ opened-late k l.row setup (ap (λ (q : SetUp). q.manager) (sym l.is) ∙ e) speaks (subst (λ (q : SetUp). q.took ≤ 4) l.is few)

-- the client's table goes on, and it hasn't joined
pub record OpenerGoes (opener : AnyOpener) (x : IceMessage) : Type 0 where
  pub state : AnyOpener
  pub answer : Option IceMessage
  pub is : (n : ℕ) → opened opener x n ≡ GoesOn state answer
  pub calm : fatal_class x ≡ None
  pub opening : (a : Arrival) (previous : List ℕ) (said : List Message) → opening_at a previous state said ≡ saying said a.counts (Opening state previous)

opens-at : (s opener : AnyOpener) (y x : IceMessage) (ys ws : List IceMessage) → Some s ≡ Some opener → y ∷ ys ≡ x ∷ ws → OpenerGoes s y → OpenerGoes opener x
opens-at s opener y x ys ws e d g = subst (λ (z : AnyOpener). OpenerGoes z x) (ap (opener_or s) e) (subst (λ (z : IceMessage). OpenerGoes s z) (ap (ice_or y) d) g)

early-opens : (k : Cookie) (row : Early) (opener : AnyOpener) (x : IceMessage) (ws : List IceMessage) → (early k k (later k) answers row).client ≡ Some opener → drop (early k k (later k) answers row).took (early k k (later k) answers row).said_down ≡ x ∷ ws → OpenerGoes opener x
early-opens k Started opener x ws e d = opens-at _ opener _ x _ ws e d (record { state = OpenSetup (record { cookie = k }); answer = Some connection_setup; is = λ n. refl; calm = refl; opening = λ a previous said. refl })
early-opens k OrderHeard opener x ws e d = opens-at _ opener _ x _ ws e d (record { state = OpenSetup (record { cookie = k }); answer = Some connection_setup; is = λ n. refl; calm = refl; opening = λ a previous said. refl })
early-opens k OrderTaken opener x ws e d = absurd cc
early-opens k Ordered opener x ws e d = absurd cc
early-opens k Demanded opener x ws e d = opens-at _ opener _ x _ ws e d (record { state = OpenSetup (record { cookie = k }); answer = Some (shows_cookie k); is = λ n. refl; calm = refl; opening = λ a previous said. refl })
early-opens k Shown opener x ws e d = absurd cc

late-opens : (k : Cookie) (row : Late) (setup : AnySetup) (opener : AnyOpener) (x : IceMessage) (ws : List IceMessage) → (late k row).manager ≡ Some setup → speaks_xsmp setup ≡ false → (late k row).client ≡ Some opener → drop (late k row).took (late k row).said_down ≡ x ∷ ws → OpenerGoes opener x
late-opens k Connected setup opener x ws m silent e d = opens-at _ opener _ x _ ws e d (record { state = OpenProtocol (record { cookie = k }); answer = Some protocol_setup; is = λ n. refl; calm = refl; opening = λ a previous said. refl })
late-opens k Offered setup opener x ws m silent e d = absurd cc
late-opens k Asked setup opener x ws m silent e d = opens-at _ opener _ x _ ws e d (record { state = OpenProtocol (record { cookie = k }); answer = Some (shows_cookie k); is = λ n. refl; calm = refl; opening = λ a previous said. refl })
late-opens k ShownAgain setup opener x ws m silent e d = absurd cc
late-opens k Opened setup opener x ws m silent e d = absurd (differ (sym (speaks-at _ setup m)) silent)
late-opens k Joined setup opener x ws m silent e d = absurd cc

pub opener-goes : (k : Cookie) (p : SetUp) (setup : AnySetup) (opener : AnyOpener) (x : IceMessage) (ws : List IceMessage) → Enters k p → p.manager ≡ Some setup → speaks_xsmp setup ≡ false → p.client ≡ Some opener → drop p.took p.said_down ≡ x ∷ ws → OpenerGoes opener x
opener-goes k p setup opener x ws (inl l) m silent e d = early-opens k l.row opener x ws (ap (λ (q : SetUp). q.client) (sym l.is) ∙ e) (ap (λ (q : SetUp). drop q.took q.said_down) (sym l.is) ∙ d)
opener-goes k p setup opener x ws (inr l) m silent e d = late-opens k l.row setup opener x ws (ap (λ (q : SetUp). q.manager) (sym l.is) ∙ m) silent (ap (λ (q : SetUp). q.client) (sym l.is) ∙ e) (ap (λ (q : SetUp). drop q.took q.said_down) (sym l.is) ∙ d)
