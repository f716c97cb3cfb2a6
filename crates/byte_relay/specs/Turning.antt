-- What an Error says in the order of the numbers of its message, besides its own fields (ICE, chapter 7: Error Class Encoding).
use Rattle.std.specs.Prelude.{ℕ, ◌+◌, Bool, List, length, drop, nat_lt, ◌==◌, ◌||◌, if◌then◌else◌}
use Rattle.owned_lists.specs.Bytes.{overwritten}
use Rattle.ice_values.specs.Numbers.{number, number_bytes}
use Rattle.ice_values.specs.Fields.{ErrorFields}
use Rattle.ice_values.specs.Classes.{class_number}
use Rattle.ice_values.specs.declared.class.ErrorClass.TheVariants.{BadValue, SetupFailed, AuthenticationRejected, AuthenticationFailed, ProtocolDuplicate, UnknownProtocol}
use Rattle.ice_values.specs.declared.numbers.Endian.{Endian}
use Rattle.ice_messages.specs.declared.message.IceMessage.{IceMessage}
use Rattle.ice_messages.specs.declared.message.IceMessage.TheVariants.{Error as IceError}
use Rattle.xsmp_messages.specs.declared.message.XsmpMessage.{XsmpMessage}
use Rattle.xsmp_messages.specs.declared.message.XsmpMessage.TheVariants.{Error as XsmpError}
use Rattle.byte_relay.specs.declared.turning.Leading.{Leading}
use Rattle.byte_relay.specs.declared.turning.Leading.TheVariants.{Place, Text, Bytes}

-- What leads the values of an Error of XSMP: where its class is BadValue, the place and the number of the wrong bytes.
abbrev pub leading_in_xsmp : ℕ → Leading
leading_in_xsmp class = if class == class_number BadValue then Place else Bytes

-- the classes of ICE's own whose values are a STRING
abbrev pub has_text : ℕ → Bool
has_text class =
    class == class_number SetupFailed || class == class_number AuthenticationRejected || class == class_number AuthenticationFailed || class == class_number ProtocolDuplicate
    || class == class_number UnknownProtocol

-- the same of ICE, some of whose classes have a STRING
abbrev pub leading_in_ice : ℕ → Leading
leading_in_ice class = if has_text class then Text else leading_in_xsmp class

-- the number of n bytes at a place, in the other order
abbrev pub turned_number : Endian → Endian → ℕ → ℕ → List ℕ → List ℕ
turned_number e to n at bytes = overwritten bytes at (number_bytes to n (number e n (drop at bytes)))

-- Values with what leads them in the other order: two CARD32, where there are 8 bytes, or the length of a STRING, where that many bytes follow it.
abbrev pub turned_values : Endian → Endian → Leading → List ℕ → List ℕ
turned_values e to Place values = if nat_lt (length values) 8 then values else turned_number e to 4 4 (turned_number e to 4 0 values)
turned_values e to Text values = if nat_lt (length values) (2 + number e 2 values) then values else turned_number e to 2 0 values
turned_values e to Bytes values = values

abbrev pub turned_error : Endian → Endian → Leading → ErrorFields → ErrorFields
turned_error e to leading error = record error { values = turned_values e to leading error.values }

-- A message as it is to be said in the other order. Only an Error's values have numbers that the spelling doesn't turn.
abbrev pub turned_ice : Endian → Endian → IceMessage → IceMessage
turned_ice e to (IceError error) = IceError (turned_error e to (leading_in_ice error.class) error)
turned_ice e to m = m

abbrev pub turned_xsmp : Endian → Endian → XsmpMessage → XsmpMessage
turned_xsmp e to (XsmpError error) = XsmpError (turned_error e to (leading_in_xsmp error.class) error)
turned_xsmp e to m = m
