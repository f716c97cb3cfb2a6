-- The line of each message: its name, and then its fields in the order of the standard.
use Rattle.std.specs.Prelude.{◌≡◌, ◌⊎◌, ℕ, Bool, List, [], ◌++◌, codes}
use Rattle.ice_messages.specs.declared.message.IceMessage.{IceMessage}
use Rattle.ice_messages.specs.declared.message.IceMessage.TheVariants.{Error, ByteOrder, ConnectionSetup, AuthenticationRequired, AuthenticationReply, AuthenticationNextPhase, ConnectionReply, ProtocolSetup, ProtocolReply, Ping, PingReply, WantToClose, NoClose}
use Rattle.ice_messages.specs.Messages.{minor_of}
use Rattle.ice_values.specs.declared.property.Property.{Property}
use Rattle.ice_values.specs.declared.version.Version.{Version}
use Rattle.ice_values.specs.declared.saves.SaveKind.{SaveKind}
use Rattle.ice_values.specs.declared.saves.SaveStyle.{SaveStyle}
use Rattle.xsmp_messages.specs.declared.message.XsmpMessage.{XsmpMessage}
use Rattle.xsmp_messages.specs.declared.message.XsmpMessage.TheVariants.{Error as XsmpError, RegisterClient, RegisterClientReply, SaveYourself, SaveYourselfRequest, InteractRequest, Interact, InteractDone, SaveYourselfDone, Die, ShutdownCancelled, ConnectionClosed, SetProperties, DeleteProperties, GetProperties, GetPropertiesReply, SaveYourselfPhase2Request, SaveYourselfPhase2, SaveComplete}
use Rattle.message_text.specs.Fields.{field, number_field, bool_text, bytes_field, dialog_text, error_text, kind_text, list_text, order_text, property_text, style_text, version_text}
use Rattle.message_text.specs.Properties.{property_lines}
use Rattle.message_text.specs.Words.{bytes_text}
use Rattle.message_text.specs.declared.words.Writing.{Writing}
use Rattle.message_text.specs.declared.words.Writing.TheVariants.{Codes, Words}

-- ---- ICE

abbrev pub ice_name : IceMessage → List ℕ
ice_name (Error error) = codes "Error"
ice_name (ByteOrder order) = codes "ByteOrder"
ice_name (ConnectionSetup must vendor release names offered) = codes "ConnectionSetup"
ice_name (AuthenticationRequired index proof) = codes "AuthenticationRequired"
ice_name (AuthenticationReply proof) = codes "AuthenticationReply"
ice_name (AuthenticationNextPhase proof) = codes "AuthenticationNextPhase"
ice_name (ConnectionReply index vendor release) = codes "ConnectionReply"
ice_name (ProtocolSetup opcode must protocol vendor release names offered) = codes "ProtocolSetup"
ice_name (ProtocolReply index opcode vendor release) = codes "ProtocolReply"
ice_name Ping = codes "Ping"
ice_name PingReply = codes "PingReply"
ice_name WantToClose = codes "WantToClose"
ice_name NoClose = codes "NoClose"

-- the two messages by which a party offers what it can speak
abbrev pub IsSetup : IceMessage → Type 0
IsSetup message = (minor_of message ≡ 2) ⊎ (minor_of message ≡ 7)

-- who made a party's program, and which release it is
abbrev pub makers_text : Writing → List ℕ → List ℕ → List ℕ
makers_text writing vendor release = bytes_field writing (codes "vendor") vendor ++ bytes_field writing (codes "release") release

-- these, and what the party can speak
abbrev pub offer_text : Writing → List ℕ → List ℕ → List (List ℕ) → List Version → List ℕ
offer_text writing vendor release names offered =
    makers_text writing vendor release ++ (field (codes "names") (list_text (bytes_text writing) names) ++ field (codes "versions") (list_text version_text offered))

abbrev pub ice_fields : Writing → IceMessage → List ℕ
ice_fields writing (Error error) = error_text writing error
ice_fields writing (ByteOrder order) = field (codes "order") (order_text writing order)
ice_fields writing (ConnectionSetup must vendor release names offered) = field (codes "must") (bool_text writing must) ++ offer_text writing vendor release names offered
ice_fields writing (AuthenticationRequired index proof) = number_field (codes "index") index ++ bytes_field writing (codes "proof") proof
ice_fields writing (AuthenticationReply proof) = bytes_field writing (codes "proof") proof
ice_fields writing (AuthenticationNextPhase proof) = bytes_field writing (codes "proof") proof
ice_fields writing (ConnectionReply index vendor release) = number_field (codes "index") index ++ makers_text writing vendor release
ice_fields writing (ProtocolSetup opcode must protocol vendor release names offered) =
    number_field (codes "opcode") opcode ++ (field (codes "must") (bool_text writing must) ++ (bytes_field writing (codes "protocol") protocol ++ offer_text writing vendor release names offered))
ice_fields writing (ProtocolReply index opcode vendor release) = number_field (codes "index") index ++ (number_field (codes "opcode") opcode ++ makers_text writing vendor release)
ice_fields writing Ping = []
ice_fields writing PingReply = []
ice_fields writing WantToClose = []
ice_fields writing NoClose = []

-- all of a line, without a newline
abbrev pub ice_text : Writing → IceMessage → List ℕ
ice_text writing message = ice_name message ++ ice_fields writing message

-- ---- XSMP

abbrev pub xsmp_name : XsmpMessage → List ℕ
xsmp_name (XsmpError error) = codes "Error"
xsmp_name (RegisterClient previous) = codes "RegisterClient"
xsmp_name (RegisterClientReply id) = codes "RegisterClientReply"
xsmp_name (SaveYourself kind shutdown style fast) = codes "SaveYourself"
xsmp_name (SaveYourselfRequest kind shutdown style fast global) = codes "SaveYourselfRequest"
xsmp_name (InteractRequest dialog) = codes "InteractRequest"
xsmp_name Interact = codes "Interact"
xsmp_name (InteractDone cancel) = codes "InteractDone"
xsmp_name (SaveYourselfDone success) = codes "SaveYourselfDone"
xsmp_name Die = codes "Die"
xsmp_name ShutdownCancelled = codes "ShutdownCancelled"
xsmp_name (ConnectionClosed reasons) = codes "ConnectionClosed"
xsmp_name (SetProperties properties) = codes "SetProperties"
xsmp_name (DeleteProperties names) = codes "DeleteProperties"
xsmp_name GetProperties = codes "GetProperties"
xsmp_name (GetPropertiesReply properties) = codes "GetPropertiesReply"
xsmp_name SaveYourselfPhase2Request = codes "SaveYourselfPhase2Request"
xsmp_name SaveYourselfPhase2 = codes "SaveYourselfPhase2"
xsmp_name SaveComplete = codes "SaveComplete"

-- which save is asked for
abbrev pub save_text : Writing → SaveKind → Bool → SaveStyle → Bool → List ℕ
save_text writing kind shutdown style fast =
    field (codes "kind") (kind_text writing kind)
    ++ (field (codes "shutdown") (bool_text writing shutdown)
    ++ (field (codes "style") (style_text writing style)
    ++ field (codes "fast") (bool_text writing fast)))

-- the properties of a client
abbrev pub properties_field : Writing → List Property → List ℕ
properties_field Codes properties = field (codes "properties") (list_text (property_text Codes) properties)
properties_field Words properties = property_lines properties

abbrev pub xsmp_fields : Writing → XsmpMessage → List ℕ
xsmp_fields writing (XsmpError error) = error_text writing error
xsmp_fields writing (RegisterClient previous) = bytes_field writing (codes "previous") previous
xsmp_fields writing (RegisterClientReply id) = bytes_field writing (codes "id") id
xsmp_fields writing (SaveYourself kind shutdown style fast) = save_text writing kind shutdown style fast
xsmp_fields writing (SaveYourselfRequest kind shutdown style fast global) = save_text writing kind shutdown style fast ++ field (codes "global") (bool_text writing global)
xsmp_fields writing (InteractRequest dialog) = field (codes "dialog") (dialog_text writing dialog)
xsmp_fields writing Interact = []
xsmp_fields writing (InteractDone cancel) = field (codes "cancel") (bool_text writing cancel)
xsmp_fields writing (SaveYourselfDone success) = field (codes "success") (bool_text writing success)
xsmp_fields writing Die = []
xsmp_fields writing ShutdownCancelled = []
xsmp_fields writing (ConnectionClosed reasons) = field (codes "reasons") (list_text (bytes_text writing) reasons)
xsmp_fields writing (SetProperties properties) = properties_field writing properties
xsmp_fields writing (DeleteProperties names) = field (codes "names") (list_text (bytes_text writing) names)
xsmp_fields writing GetProperties = []
xsmp_fields writing (GetPropertiesReply properties) = properties_field writing properties
xsmp_fields writing SaveYourselfPhase2Request = []
xsmp_fields writing SaveYourselfPhase2 = []
xsmp_fields writing SaveComplete = []

-- all of a line, without a newline
abbrev pub xsmp_text : Writing → XsmpMessage → List ℕ
xsmp_text writing message = xsmp_name message ++ xsmp_fields writing message
