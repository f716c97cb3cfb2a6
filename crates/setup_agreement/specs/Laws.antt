-- How a set-up comes to its end, in whatever order each end takes what the other said.
use Rattle.std.specs.Prelude.{Bool, List, None, Some, [], false, is_some, length, take, true, ℕ, ◌∷◌, ◌≡◌}
use Rattle.ice_cookie.specs.Cookies.{shows}
use Rattle.ice_cookie.specs.declared.cookies.Cookie.{Cookie}
use Rattle.ice_values.specs.declared.class.ErrorClass.TheVariants.{NoVersion}
use Rattle.ice_values.specs.declared.numbers.Endian.TheVariants.{Lsb}
use Rattle.ice_values.specs.declared.severity.Severity.TheVariants.{FatalToConnection}
use Rattle.ice_values.specs.declared.version.Version.{Version}
use Rattle.ice_messages.specs.declared.message.IceMessage.{IceMessage}
use Rattle.ice_messages.specs.declared.message.IceMessage.TheVariants.{ByteOrder, ConnectionSetup, Error}
use Rattle.ice_setup.specs.Errors.{blame}
use Rattle.ice_setup.specs.Offers.{first_version}
use Rattle.ice_setup.specs.Opener.{client_opcode, connection_setup, protocol_setup, shows_cookie}
use Rattle.ice_setup.specs.Setup.{asks_cookie, connection_reply, manager_opcode, named, protocol_reply, rejection}
use Rattle.ice_setup.specs.declared.opener.AnyOpener.TheVariants.{Joined, OpenSetup}
use Rattle.ice_setup.specs.declared.states.AnySetup.TheVariants.{AwaitSetup, Ready}
use Rattle.setup_agreement.specs.SetUps.{SetUp, Way, after, begun}

-- all is taken that was said
abbrev pub IsQuiet : SetUp → Type 0
IsQuiet p = (p.heard ≡ length p.said_up) × (p.took ≡ length p.said_down)

abbrev pub IsFront : List IceMessage → List IceMessage → Type 0
IsFront front whole = front ≡ take (length front) whole

-- The right cookie

-- all that a client says until it has joined
abbrev pub client_says : Cookie → List IceMessage
client_says cookie = ByteOrder Lsb ∷ connection_setup ∷ shows_cookie cookie ∷ protocol_setup ∷ shows_cookie cookie ∷ []

-- all that the manager says until XSMP begins: the client offers one cookie and one version, which have the index 0
abbrev pub manager_says : List IceMessage
manager_says = ByteOrder Lsb ∷ asks_cookie 0 ∷ connection_reply 0 ∷ asks_cookie 0 ∷ protocol_reply 0 ∷ []

-- Each says this and nothing else, so no Error. Neither closes. Where nothing is under way the manager is ready for the client's messages
-- of XSMP and the client has joined, each under the other's opcode; so no set-up stands still before.
pub record LetsIn (cookie : Cookie) (p : SetUp) : Type 0 where
  pub up : IsFront p.said_up (client_says cookie)
  pub down : IsFront p.said_down manager_says
  pub stay : (is_some p.manager ≡ true) × (is_some p.client ≡ true)
  pub done : IsQuiet p → (p.manager ≡ Some (Ready (record { cookie = cookie; endian = Lsb; opcode = client_opcode }))) × (p.client ≡ Some (Joined (record { opcode = manager_opcode })))

abbrev pub RightCookiesAreLetIn : Type 0
RightCookiesAreLetIn = (cookie : Cookie) (ways : List Way) → LetsIn cookie (after ways (begun cookie cookie))

-- Another cookie, and another version

-- Each says no more than this. Where nothing is under way the manager has closed and the client has ended.
pub record KeepsOut (client manager : List IceMessage) (p : SetUp) : Type 0 where
  pub up : IsFront p.said_up client
  pub down : IsFront p.said_down manager
  pub done : IsQuiet p → (p.manager ≡ None) × (p.client ≡ None)

-- the client shows the other cookie, which is its third message, and the manager rejects that
abbrev pub OtherCookiesAreKeptOut : Type 0
OtherCookiesAreKeptOut =
    (cookie shown : Cookie) (ways : List Way) → shows cookie shown.0 ≡ false
    → KeepsOut (ByteOrder Lsb ∷ connection_setup ∷ shows_cookie shown ∷ []) (ByteOrder Lsb ∷ asks_cookie 0 ∷ rejection (named (shows_cookie shown) 3) ∷ []) (after ways (begun cookie shown))

-- a client that says this in place of its own ConnectionSetup, once each end has taken the other's order
abbrev pub begun_with : Cookie → Cookie → IceMessage → SetUp
begun_with cookie shown setup = record {
  manager = Some (AwaitSetup (record { cookie = cookie; endian = Lsb }));
  client = Some (OpenSetup (record { cookie = shown }));
  said_up = ByteOrder Lsb ∷ setup ∷ [];
  said_down = ByteOrder Lsb ∷ [];
  heard = 1;
  took = 1;
}

-- no version of ICE that is offered is 1.0, and the manager says so of the client's second message
abbrev pub OtherVersionsAreKeptOut : Type 0
OtherVersionsAreKeptOut =
    (cookie shown : Cookie) (must : Bool) (vendor release : List ℕ) (names : List (List ℕ)) (offered : List Version) (ways : List Way) → first_version offered ≡ None
    → KeepsOut (ByteOrder Lsb ∷ ConnectionSetup must vendor release names offered ∷ []) (ByteOrder Lsb ∷ Error (blame FatalToConnection NoVersion (named (ConnectionSetup must vendor release names offered) 2) []) ∷ [])
    (after ways (begun_with cookie shown (ConnectionSetup must vendor release names offered)))
