-- The same set-up by the bytes of what is said, which come to each end in any pieces.
use Rattle.std.specs.Prelude.{Bool, Err, List, None, Ok, Option, Result, Some, [], drop, false, length, map, take, ℕ, ◌++◌, ◌+◌, ◌∷◌, ◌≡◌}
use Rattle.ice_cookie.specs.Cookies.{shows}
use Rattle.ice_cookie.specs.declared.cookies.Cookie.{Cookie}
use Rattle.ice_values.specs.declared.class.ErrorClass.TheVariants.{NoVersion}
use Rattle.ice_values.specs.declared.numbers.Endian.TheVariants.{Lsb}
use Rattle.ice_values.specs.declared.refusals.DecodeRefusal.{DecodeRefusal}
use Rattle.ice_values.specs.declared.severity.Severity.TheVariants.{FatalToConnection}
use Rattle.ice_values.specs.declared.version.Version.{Version}
use Rattle.ice_framing.specs.Frames.{Standing, beginning, cut, fed}
use Rattle.ice_framing.specs.Parts.{Part, TooMuch, Whole, parts_at}
use Rattle.ice_messages.specs.Messages.{IsMessage}
use Rattle.ice_messages.specs.Reading.{decode_at}
use Rattle.ice_messages.specs.declared.message.IceMessage.{IceMessage}
use Rattle.ice_messages.specs.declared.message.IceMessage.TheVariants.{ByteOrder, ConnectionSetup, Error}
use Rattle.ice_setup.specs.Errors.{blame}
use Rattle.ice_setup.specs.Offers.{first_version}
use Rattle.ice_setup.specs.Opener.{client_opcode, connection_setup, opened, shows_cookie}
use Rattle.ice_setup.specs.Setup.{asks_cookie, moved, named, rejection}
use Rattle.ice_setup.specs.declared.opener.AnyOpener.{AnyOpener}
use Rattle.ice_setup.specs.declared.states.AnySetup.{AnySetup}
use Rattle.protocol_messages.specs.declared.message.Message.TheVariants.{Ice}
use Rattle.message_streams.specs.Streams.{HasBytes, bytes_of}
use Rattle.setup_agreement.specs.Laws.{IsQuiet, KeepsOut, LetsIn, begun_with}
use Rattle.setup_agreement.specs.SetUps.{SetUp, begun, hears, takes}

-- What a part of a stream says: none where it can't be read.

abbrev pub read_as : Result IceMessage DecodeRefusal → Option IceMessage
read_as (Ok message) = Some message
read_as (Err refusal) = None

abbrev pub message_in : Part → Option IceMessage
message_in (Whole frame) = read_as (decode_at frame.endian frame.bytes)
message_in (TooMuch header) = None

-- Each end takes the messages of its parts. It is at its end where it can't read one, and then takes none.

abbrev pub manager_reads : Option AnySetup → Option IceMessage → SetUp → SetUp
manager_reads (Some state) (Some message) p = hears (moved state message (p.heard + 1)) p
manager_reads state message p = record p { manager = None }

abbrev pub client_reads : Option AnyOpener → Option IceMessage → SetUp → SetUp
client_reads (Some state) (Some message) p = takes (opened state message (p.took + 1)) p
client_reads state message p = record p { client = None }

abbrev pub hears_parts : List Part → SetUp → SetUp
hears_parts [] p = p
hears_parts (part ∷ parts) p = hears_parts parts (manager_reads p.manager (message_in part) p)

abbrev pub takes_parts : List Part → SetUp → SetUp
takes_parts [] p = p
takes_parts (part ∷ parts) p = takes_parts parts (client_reads p.client (message_in part) p)

-- Where both ends stand and what they have said, how the stream of each stands where it is read, and what is under way
pub record Wires : Type 0 where
  pub ends : SetUp
  pub at_manager : Standing
  pub at_client : Standing
  pub up : List ℕ
  pub down : List ℕ

pub data Piece : Type 0 where
  -- so many of the bytes under way come to the manager
  Comes : ℕ → Piece
  -- so many come to the client
  Takes : ℕ → Piece

-- the bytes of these messages, and of those that were said since
abbrev pub ice_bytes : List IceMessage → List ℕ
ice_bytes messages = bytes_of client_opcode (map Ice messages)

abbrev pub said_since : List IceMessage → List IceMessage → List ℕ
said_since before now = ice_bytes (drop (length before) now)

abbrev pub began : SetUp → Wires
began p = record { ends = p; at_manager = beginning; at_client = beginning; up = ice_bytes p.said_up; down = ice_bytes p.said_down }

abbrev pub manager_read : SetUp → ℕ → Wires → Wires
manager_read p count w = record w {
  ends = p;
  at_manager = (cut (fed w.at_manager (take count w.up))).standing;
  up = drop count w.up;
  down = w.down ++ said_since w.ends.said_down p.said_down;
}

abbrev pub client_read : SetUp → ℕ → Wires → Wires
client_read p count w = record w {
  ends = p;
  at_client = (cut (fed w.at_client (take count w.down))).standing;
  up = w.up ++ said_since w.ends.said_up p.said_up;
  down = drop count w.down;
}

abbrev pub piece : Piece → Wires → Wires
piece (Comes count) w = manager_read (hears_parts (parts_at (fed w.at_manager (take count w.up))) w.ends) count w
piece (Takes count) w = client_read (takes_parts (parts_at (fed w.at_client (take count w.down))) w.ends) count w

abbrev pub after_pieces : List Piece → Wires → Wires
after_pieces [] w = w
after_pieces (p ∷ pieces) w = after_pieces pieces (piece p w)

-- nothing is under way, and no end holds part of a frame
pub record IsStill (w : Wires) : Type 0 where
  pub up : w.up ≡ []
  pub at_manager : w.at_manager.held ≡ []
  pub down : w.down ≡ []
  pub at_client : w.at_client.held ≡ []

-- The right cookie, of 16 bytes: whatever the pieces, no Error is said and neither end closes. Where nothing is under way all messages
-- are taken, and so both have come to XSMP.
pub record LetsInByBytes (cookie : Cookie) (w : Wires) : Type 0 where
  pub lets_in : LetsIn cookie w.ends
  pub done : IsStill w → IsQuiet w.ends

abbrev pub RightCookiesAreLetInByBytes : Type 0
RightCookiesAreLetInByBytes = (cookie : Cookie) (pieces : List Piece) → length cookie.0 ≡ 16 → LetsInByBytes cookie (after_pieces pieces (began (begun cookie cookie)))

-- another cookie: whatever the pieces, no more is said than by messages, and where nothing is under way all is taken
pub record KeepsOutByBytes (client manager : List IceMessage) (w : Wires) : Type 0 where
  pub kept_out : KeepsOut client manager w.ends
  pub done : IsStill w → IsQuiet w.ends

abbrev pub OtherCookiesAreKeptOutByBytes : Type 0
OtherCookiesAreKeptOutByBytes =
    (cookie shown : Cookie) (pieces : List Piece) → shows cookie shown.0 ≡ false → length shown.0 ≡ 16
    → KeepsOutByBytes (ByteOrder Lsb ∷ connection_setup ∷ shows_cookie shown ∷ []) (ByteOrder Lsb ∷ asks_cookie 0 ∷ rejection (named (shows_cookie shown) 3) ∷ []) (after_pieces pieces (began (begun cookie shown)))

-- A client that says this in place of its own ConnectionSetup, once each end has taken the other's order
abbrev pub ordered : Standing
ordered = record { order = Some Lsb; held = [] }

abbrev pub began_with : Cookie → Cookie → IceMessage → Wires
began_with cookie shown setup = record { ends = begun_with cookie shown setup; at_manager = ordered; at_client = ordered; up = ice_bytes (setup ∷ []); down = [] }

-- another version, in whatever else has a spelling
abbrev pub OtherVersionsAreKeptOutByBytes : Type 0
OtherVersionsAreKeptOutByBytes =
    (cookie shown : Cookie) (must : Bool) (vendor release : List ℕ) (names : List (List ℕ)) (offered : List Version) (pieces : List Piece) → first_version offered ≡ None
    → IsMessage (ConnectionSetup must vendor release names offered) → HasBytes client_opcode (Ice (ConnectionSetup must vendor release names offered))
    → KeepsOutByBytes (ByteOrder Lsb ∷ ConnectionSetup must vendor release names offered ∷ []) (ByteOrder Lsb ∷ Error (blame FatalToConnection NoVersion (named (ConnectionSetup must vendor release names offered) 2) []) ∷ [])
    (after_pieces pieces (began_with cookie shown (ConnectionSetup must vendor release names offered)))
