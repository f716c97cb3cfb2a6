-- What the manager says to a client, and its bytes.
use Rattle.std.specs.Prelude.{ℕ, List, Option, Some, None}
use Rattle.ice_setup.specs.Setup.{manager_opcode}
use Rattle.protocol_messages.specs.Messages.{spelled_under, IsTooLong}
use Rattle.protocol_messages.specs.declared.message.Message.{Message}

-- a message's bytes, those of XSMP under the manager's opcode
abbrev pub spelled : Message → List ℕ
spelled message = spelled_under manager_opcode message

-- what is said, if anything, has a spelling that is not too long
abbrev pub CanBeSaid : Option Message → Type 0
CanBeSaid None = Unit {0}
CanBeSaid (Some message) = ¬ (IsTooLong message)
