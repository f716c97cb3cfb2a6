-- What one end of a session says to the other, and its bytes.
use Rattle.std.specs.Prelude.{ℕ, List}
use Rattle.ice_values.specs.declared.numbers.Endian.TheVariants.{Lsb}
use Rattle.ice_messages.specs.Messages.{canon as ice_canon, IsTooLong as IsLongIce}
use Rattle.xsmp_messages.specs.Messages.{canon as xsmp_canon, IsTooLong as IsLongXsmp}
use Rattle.protocol_messages.specs.declared.message.Message.{Message}
use Rattle.protocol_messages.specs.declared.message.Message.TheVariants.{Ice, Xsmp}

-- Messages are written least significant byte first, with zeros in unused bytes: those of ICE under major opcode 0, those of
-- XSMP under the sender's own.
abbrev pub spelled_under : ℕ → Message → List ℕ
spelled_under opcode (Ice message) = ice_canon Lsb message
spelled_under opcode (Xsmp message) = xsmp_canon Lsb opcode message

-- the body has more than 65,536 bytes, or a part of it is too long
abbrev pub IsTooLong : Message → Type 0
IsTooLong (Ice message) = IsLongIce Lsb message
IsTooLong (Xsmp message) = IsLongXsmp Lsb message
