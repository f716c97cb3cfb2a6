-- The set-up of a connection, client's side: what a message brings in a state.
use Rattle.std.specs.Prelude.{ℕ, false, List, [], ◌∷◌, Some, None, ◌==◌, if◌then◌else◌, codes}
use Rattle.ice_cookie.specs.declared.cookies.Cookie.{Cookie}
use Rattle.ice_values.specs.declared.numbers.Endian.TheVariants.{Lsb}
use Rattle.ice_values.specs.declared.version.Version.{Version}
use Rattle.ice_values.specs.declared.severity.Severity.{Severity}
use Rattle.ice_values.specs.declared.severity.Severity.TheVariants.{CanContinue, FatalToConnection}
use Rattle.ice_values.specs.declared.class.ErrorClass.TheVariants.{BadState}
use Rattle.ice_messages.specs.Messages.{IsTooLong}
use Rattle.ice_messages.specs.declared.message.IceMessage.{IceMessage}
use Rattle.ice_messages.specs.declared.message.IceMessage.TheVariants.{Error, ByteOrder, ConnectionSetup, AuthenticationRequired, AuthenticationReply, ConnectionReply, ProtocolSetup, ProtocolReply, Ping, PingReply}
use Rattle.ice_setup.specs.Errors.{blame}
use Rattle.ice_setup.specs.Offers.{cookie_name, xsmp_name}
use Rattle.ice_setup.specs.Setup.{named}
use Rattle.ice_setup.specs.declared.errors.Offending.{Offending}
use Rattle.ice_setup.specs.declared.opener.OpenOrder.{OpenOrder}
use Rattle.ice_setup.specs.declared.opener.OpenSetup.{OpenSetup}
use Rattle.ice_setup.specs.declared.opener.OpenProtocol.{OpenProtocol}
use Rattle.ice_setup.specs.declared.opener.AnyOpener.{AnyOpener}
use Rattle.ice_setup.specs.declared.opener.AnyOpener.TheVariants.{OpenOrder as AtOrder, OpenSetup as AtSetup, OpenProtocol as AtProtocol, Joined as AtJoined}
use Rattle.ice_setup.specs.declared.opener.OpenMoved.{OpenMoved}
use Rattle.ice_setup.specs.declared.opener.OpenMoved.TheVariants.{Goes, Ends}

-- ---- what the client sends

-- how the client calls itself
abbrev pub client_vendor : List ℕ
client_vendor = codes "smclient"

abbrev pub client_release : List ℕ
client_release = codes "1.0"

-- the client's own major opcode for XSMP
abbrev pub client_opcode : ℕ
client_opcode = 1

-- the one version of ICE and of XSMP that it offers
abbrev pub offered_version : Version
offered_version = record { major = 1; minor = 0 }

abbrev pub connection_setup : IceMessage
connection_setup = ConnectionSetup false client_vendor client_release (cookie_name ∷ []) (offered_version ∷ [])

abbrev pub protocol_setup : IceMessage
protocol_setup = ProtocolSetup client_opcode false xsmp_name client_vendor client_release (cookie_name ∷ []) (offered_version ∷ [])

abbrev pub shows_cookie : Cookie → IceMessage
shows_cookie cookie = AuthenticationReply cookie.0

-- a message without a place, which ends the connection
abbrev pub stops : Offending → OpenMoved
stops offending = Ends (Some (Error (blame FatalToConnection BadState offending [])))

-- ---- the cells of the table

-- an Error: one that is fatal ends the client without an answer
abbrev pub blamed : AnyOpener → Severity → OpenMoved
blamed state CanContinue = Goes state None
blamed state severity = Ends None

-- what every state behind the first does
abbrev pub other_cell : AnyOpener → IceMessage → Offending → OpenMoved
other_cell state Ping offending = Goes state (Some PingReply)
other_cell state (Error error) offending = blamed state error.severity
other_cell state message offending = stops offending

abbrev pub order_cell : OpenOrder → IceMessage → Offending → OpenMoved
order_cell s (ByteOrder order) offending = Goes (AtSetup (record { cookie = s.cookie })) (Some connection_setup)
order_cell s (Error error) offending = blamed (AtOrder s) error.severity
order_cell s message offending = stops offending

-- The cookie is asked for, by the index of a name. The client offered one.
abbrev pub demand_cell : AnyOpener → Cookie → ℕ → Offending → OpenMoved
demand_cell state cookie index offending = if index == 0 then Goes state (Some (shows_cookie cookie)) else stops offending

-- a ConnectionReply, by the index of a version
abbrev pub connection_cell : OpenSetup → ℕ → Offending → OpenMoved
connection_cell s index offending = if index == 0 then Goes (AtProtocol (record { cookie = s.cookie })) (Some protocol_setup) else stops offending

-- a ProtocolReply, by the index of a version and the manager's major opcode
abbrev pub protocol_cell : ℕ → ℕ → Offending → OpenMoved
protocol_cell index opcode offending = if index == 0 then Goes (AtJoined (record { opcode = opcode })) None else stops offending

abbrev pub setup_cell : OpenSetup → IceMessage → Offending → OpenMoved
setup_cell s (AuthenticationRequired index proof) offending = demand_cell (AtSetup s) s.cookie index offending
setup_cell s (ConnectionReply index vendor release) offending = connection_cell s index offending
setup_cell s message offending = other_cell (AtSetup s) message offending

abbrev pub opening_cell : OpenProtocol → IceMessage → Offending → OpenMoved
opening_cell s (AuthenticationRequired index proof) offending = demand_cell (AtProtocol s) s.cookie index offending
opening_cell s (ProtocolReply index opcode vendor release) offending = protocol_cell index opcode offending
opening_cell s message offending = other_cell (AtProtocol s) message offending

-- The whole table: what a message with this number brings.
abbrev pub opened : AnyOpener → IceMessage → ℕ → OpenMoved
opened (AtOrder s) message sequence = order_cell s message (named message sequence)
opened (AtSetup s) message sequence = setup_cell s message (named message sequence)
opened (AtProtocol s) message sequence = opening_cell s message (named message sequence)
opened (AtJoined s) message sequence = other_cell (AtJoined s) message (named message sequence)

-- What is answered has a spelling that is not too long.
abbrev pub CanBeSaid : OpenMoved → Type 0
CanBeSaid (Goes state (Some answer)) = ¬ (IsTooLong Lsb answer)
CanBeSaid (Goes state None) = Unit {0}
CanBeSaid (Ends (Some answer)) = ¬ (IsTooLong Lsb answer)
CanBeSaid (Ends None) = Unit {0}
