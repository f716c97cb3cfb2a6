-- What a client says to its manager, and its bytes.
use Rattle.std.specs.Prelude.{ℕ, List, [], ◌∷◌, Option, Some, None}
use Rattle.std.specs.List.{AllByRecursion}
use Rattle.ice_values.specs.declared.numbers.Endian.TheVariants.{Lsb}
use Rattle.ice_messages.specs.Messages.{IsTooLong as IsLongIce}
use Rattle.ice_messages.specs.declared.message.IceMessage.{IceMessage}
use Rattle.ice_setup.specs.Opener.{client_opcode}
use Rattle.protocol_messages.specs.Messages.{spelled_under, IsTooLong}
use Rattle.protocol_messages.specs.declared.message.Message.{Message}
use Rattle.protocol_messages.specs.declared.message.Message.TheVariants.{Ice}

-- a message's bytes, those of XSMP under the client's opcode
abbrev pub spelled : Message → List ℕ
spelled message = spelled_under client_opcode message

-- each of these messages has a spelling
abbrev pub AreShort : List Message → Type 0
AreShort messages = AllByRecursion (λ message. ¬ (IsTooLong message)) messages

-- an answer of ICE, if there is one
abbrev pub answer_of : Option IceMessage → List Message
answer_of None = []
answer_of (Some message) = Ice message ∷ []

-- it is not too long
abbrev pub CanBeSaid : Option IceMessage → Type 0
CanBeSaid None = Unit {0}
CanBeSaid (Some message) = ¬ (IsLongIce Lsb message)
