-- The classes of Errors (ICE, chapter 7: Error Class Encoding).
use Rattle.std.specs.Prelude.{ℕ}
use Rattle.ice_values.specs.declared.class.ErrorClass.{ErrorClass}
use Rattle.ice_values.specs.declared.class.ErrorClass.TheVariants.{BadMinor, BadState, BadLength, BadValue, BadMajor, NoAuthentication, NoVersion, SetupFailed, AuthenticationRejected, AuthenticationFailed, ProtocolDuplicate, MajorOpcodeDuplicate, UnknownProtocol}

-- The generic ones, of any protocol over ICE, and then ICE's own.
abbrev pub class_number : ErrorClass → ℕ
class_number BadMinor = 0x8000
class_number BadState = 0x8001
class_number BadLength = 0x8002
class_number BadValue = 0x8003
class_number BadMajor = 0
class_number NoAuthentication = 1
class_number NoVersion = 2
class_number SetupFailed = 3
class_number AuthenticationRejected = 4
class_number AuthenticationFailed = 5
class_number ProtocolDuplicate = 6
class_number MajorOpcodeDuplicate = 7
class_number UnknownProtocol = 8
