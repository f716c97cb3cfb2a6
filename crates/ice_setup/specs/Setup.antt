-- The set-up of a connection, manager's side: what a message brings in a state.
use Rattle.std.specs.Prelude.{ℕ, ◌≤◌, Bool, true, false, List, [], length, Option, Some, None, ◌==◌, ◌||◌, not, if◌then◌else◌, codes}
use Rattle.ice_cookie.specs.Cookies.{shows}
use Rattle.ice_values.specs.Cells.{byte}
use Rattle.ice_values.specs.Fields.{ErrorFields}
use Rattle.ice_values.specs.declared.numbers.Endian.{Endian}
use Rattle.ice_values.specs.declared.numbers.Endian.TheVariants.{Lsb}
use Rattle.ice_values.specs.declared.severity.Severity.TheVariants.{CanContinue, FatalToProtocol, FatalToConnection}
use Rattle.ice_messages.specs.Messages.{minor_of, layout, IsTooLong}
use Rattle.ice_messages.specs.declared.message.IceMessage.{IceMessage}
use Rattle.ice_messages.specs.declared.message.IceMessage.TheVariants.{Error, ByteOrder, ConnectionSetup, AuthenticationRequired, AuthenticationReply, ConnectionReply, ProtocolSetup, ProtocolReply, Ping, PingReply, WantToClose}
use Rattle.ice_values.specs.declared.class.ErrorClass.{ErrorClass}
use Rattle.ice_values.specs.declared.class.ErrorClass.TheVariants.{BadState, NoAuthentication, NoVersion, AuthenticationRejected, ProtocolDuplicate, MajorOpcodeDuplicate, UnknownProtocol}
use Rattle.ice_setup.specs.Errors.{blame, opcode_values, text_values}
use Rattle.ice_setup.specs.Offers.{is_xsmp, first_version, first_cookie_name}
use Rattle.ice_setup.specs.declared.errors.Offending.{Offending}
use Rattle.ice_setup.specs.declared.states.AwaitOrder.{AwaitOrder}
use Rattle.ice_setup.specs.declared.states.AwaitSetup.{AwaitSetup}
use Rattle.ice_setup.specs.declared.states.AwaitCookie.{AwaitCookie}
use Rattle.ice_setup.specs.declared.states.AwaitProtocol.{AwaitProtocol}
use Rattle.ice_setup.specs.declared.states.AwaitProtocolCookie.{AwaitProtocolCookie}
use Rattle.ice_setup.specs.declared.states.Ready.{Ready}
use Rattle.ice_setup.specs.declared.states.AnySetup.{AnySetup}
use Rattle.ice_setup.specs.declared.states.AnySetup.TheVariants.{AwaitOrder as AtOrder, AwaitSetup as AtSetup, AwaitCookie as AtCookie, AwaitProtocol as AtProtocol, AwaitProtocolCookie as AtProtocolCookie, Ready as AtReady}
use Rattle.ice_setup.specs.declared.states.Moved.{Moved}
use Rattle.ice_setup.specs.declared.states.Moved.TheVariants.{Goes, Ends, Close, Ask}

-- ---- the tests of a state

-- the order of the client's numbers, which its first message says
abbrev pub endian_of : AnySetup → Option Endian
endian_of (AtOrder s) = None
endian_of (AtSetup s) = Some s.endian
endian_of (AtCookie s) = Some s.endian
endian_of (AtProtocol s) = Some s.endian
endian_of (AtProtocolCookie s) = Some s.endian
endian_of (AtReady s) = Some s.endian

-- the client's major opcode for XSMP
abbrev pub opcode_of : AnySetup → Option ℕ
opcode_of (AtReady s) = Some s.opcode
opcode_of s = None

-- ConnectionReply was sent
abbrev pub connected : AnySetup → Bool
connected (AtOrder s) = false
connected (AtSetup s) = false
connected (AtCookie s) = false
connected (AtProtocol s) = true
connected (AtProtocolCookie s) = true
connected (AtReady s) = true

-- XSMP ends, and the connection stays
abbrev pub unset : Ready → AwaitProtocol
unset s = record { cookie = s.cookie; endian = s.endian }

-- ---- answers

-- how the manager calls itself
abbrev pub vendor_name : List ℕ
vendor_name = codes "smd"

abbrev pub release_name : List ℕ
release_name = codes "1.0"

-- the manager's own major opcode for XSMP
abbrev pub manager_opcode : ℕ
manager_opcode = 1

abbrev pub connection_reply : ℕ → IceMessage
connection_reply version = ConnectionReply version vendor_name release_name

abbrev pub protocol_reply : ℕ → IceMessage
protocol_reply version = ProtocolReply version manager_opcode vendor_name release_name

-- the cookie is asked for, by the name's index and without data
abbrev pub asks_cookie : ℕ → IceMessage
asks_cookie name = AuthenticationRequired name []

-- a wrong cookie, which always ends the connection
abbrev pub rejection : Offending → IceMessage
rejection offending = Error (blame FatalToProtocol AuthenticationRejected offending (text_values (codes "cookie refused")))

-- a ConnectionSetup that is refused, which ends the connection
abbrev pub refuses_connection : ErrorClass → Offending → Moved
refuses_connection class offending = Ends (Some (Error (blame FatalToConnection class offending [])))

-- a ProtocolSetup that is refused, after which the state is the same
abbrev pub refuses_protocol : AnySetup → ErrorClass → List ℕ → Offending → Moved
refuses_protocol state class values offending = Goes state (Some (Error (blame FatalToProtocol class offending values)))

-- the Error of what is refused in a state: before ConnectionReply was sent it is fatal to the connection
abbrev pub refusal : AnySetup → ErrorClass → Offending → List ℕ → ErrorFields
refusal state class offending values = blame (if connected state then CanContinue else FatalToConnection) class offending values

-- What is refused: before ConnectionReply was sent that ends the connection, and later the state is the same.
abbrev pub refuses : AnySetup → ErrorClass → Offending → List ℕ → Moved
refuses state class offending values =
    if connected state then Goes state (Some (Error (refusal state class offending values)))
    else Ends (Some (Error (refusal state class offending values)))

-- a message without a place in the state
abbrev pub out_of_place : AnySetup → Offending → Moved
out_of_place state offending = refuses state BadState offending []

-- the client wants to close, which the session decides while it speaks XSMP
abbrev pub wants_to_close : AnySetup → Moved
wants_to_close (AtReady s) = Ask (AtReady s)
wants_to_close state = Close

-- ---- the cells of the table

-- what every state behind the first does
abbrev pub other_cell : AnySetup → IceMessage → Offending → Moved
other_cell state Ping offending = Goes state (Some PingReply)
other_cell state (Error error) offending = Goes state None
other_cell state WantToClose offending = wants_to_close state
other_cell state message offending = out_of_place state offending

abbrev pub order_cell : AwaitOrder → IceMessage → Offending → Moved
order_cell s (ByteOrder order) offending = Goes (AtSetup (record { cookie = s.cookie; endian = order })) None
order_cell s message offending = out_of_place (AtOrder s) offending

-- a ConnectionSetup, by the indices of the version and of the name that it offers
abbrev pub connection_offer : AwaitSetup → Option ℕ → Option ℕ → Offending → Moved
connection_offer s None name offending = refuses_connection NoVersion offending
connection_offer s (Some version) None offending = refuses_connection NoAuthentication offending
connection_offer s (Some version) (Some name) offending = Goes (AtCookie (record { cookie = s.cookie; endian = s.endian; version = version })) (Some (asks_cookie name))

abbrev pub setup_cell : AwaitSetup → IceMessage → Offending → Moved
setup_cell s (ConnectionSetup must vendor release names offered) offending = connection_offer s (first_version offered) (first_cookie_name names) offending
setup_cell s message offending = other_cell (AtSetup s) message offending

abbrev pub cookie_cell : AwaitCookie → IceMessage → Offending → Moved
cookie_cell s (AuthenticationReply proof) offending =
    if shows s.cookie proof then Goes (AtProtocol (record { cookie = s.cookie; endian = s.endian })) (Some (connection_reply s.version))
    else Ends (Some (rejection offending))
cookie_cell s message offending = other_cell (AtCookie s) message offending

-- a ProtocolSetup for XSMP, by the indices of the version and of the name that it offers
abbrev pub protocol_offer : AwaitProtocol → ℕ → Bool → Option ℕ → Option ℕ → Offending → Moved
protocol_offer s opcode must None name offending = refuses_protocol (AtProtocol s) NoVersion [] offending
protocol_offer s opcode must (Some version) (Some name) offending =
    Goes (AtProtocolCookie (record { cookie = s.cookie; endian = s.endian; opcode = opcode; version = version })) (Some (asks_cookie name))
protocol_offer s opcode must (Some version) None offending =
    if must then refuses_protocol (AtProtocol s) NoAuthentication [] offending
    else Goes (AtReady (record { cookie = s.cookie; endian = s.endian; opcode = opcode })) (Some (protocol_reply version))

-- a ProtocolSetup, tested in this order
abbrev pub protocol_setup : AwaitProtocol → ℕ → List ℕ → Bool → Option ℕ → Option ℕ → Offending → Moved
protocol_setup s opcode protocol must version name offending =
    if opcode == 0 then refuses_protocol (AtProtocol s) MajorOpcodeDuplicate (opcode_values opcode) offending
    else if not (is_xsmp protocol) then refuses_protocol (AtProtocol s) UnknownProtocol (text_values protocol) offending
    else protocol_offer s opcode must version name offending

abbrev pub protocol_cell : AwaitProtocol → IceMessage → Offending → Moved
protocol_cell s (ProtocolSetup opcode must protocol vendor release names offered) offending = protocol_setup s opcode protocol must (first_version offered) (first_cookie_name names) offending
protocol_cell s message offending = other_cell (AtProtocol s) message offending

abbrev pub protocol_cookie_cell : AwaitProtocolCookie → IceMessage → Offending → Moved
protocol_cookie_cell s (AuthenticationReply proof) offending =
    if shows s.cookie proof then Goes (AtReady (record { cookie = s.cookie; endian = s.endian; opcode = s.opcode })) (Some (protocol_reply s.version))
    else Ends (Some (rejection offending))
protocol_cookie_cell s message offending = other_cell (AtProtocolCookie s) message offending

-- one more ProtocolSetup, tested in this order
abbrev pub ready_setup : Ready → ℕ → List ℕ → Offending → Moved
ready_setup s opcode protocol offending =
    if (opcode == 0) || (opcode == s.opcode) then refuses_protocol (AtReady s) MajorOpcodeDuplicate (opcode_values opcode) offending
    else if not (is_xsmp protocol) then refuses_protocol (AtReady s) UnknownProtocol (text_values protocol) offending
    else refuses_protocol (AtReady s) ProtocolDuplicate (text_values protocol) offending

abbrev pub ready_cell : Ready → IceMessage → Offending → Moved
ready_cell s (ProtocolSetup opcode must protocol vendor release names offered) offending = ready_setup s opcode protocol offending
ready_cell s message offending = other_cell (AtReady s) message offending

-- what an Error names of a message
abbrev pub named : IceMessage → ℕ → Offending
named message sequence = record { minor = minor_of message; sequence = sequence }

-- The whole table: what a message with this number brings.
abbrev pub moved : AnySetup → IceMessage → ℕ → Moved
moved (AtOrder s) message sequence = order_cell s message (named message sequence)
moved (AtSetup s) message sequence = setup_cell s message (named message sequence)
moved (AtCookie s) message sequence = cookie_cell s message (named message sequence)
moved (AtProtocol s) message sequence = protocol_cell s message (named message sequence)
moved (AtProtocolCookie s) message sequence = protocol_cookie_cell s message (named message sequence)
moved (AtReady s) message sequence = ready_cell s message (named message sequence)

-- its body has at most 65,536 bytes
abbrev pub HasFittingBody : Endian → IceMessage → Type 0
HasFittingBody e message = length (layout byte e message).1 ≤ 65536

-- What is answered has a spelling that is not too long.
abbrev pub CanBeSaid : Moved → Type 0
CanBeSaid (Goes state (Some answer)) = ¬ (IsTooLong Lsb answer)
CanBeSaid (Goes state None) = Unit {0}
CanBeSaid (Ends (Some answer)) = ¬ (IsTooLong Lsb answer)
CanBeSaid (Ends None) = Unit {0}
CanBeSaid Close = Unit {0}
CanBeSaid (Ask state) = Unit {0}
