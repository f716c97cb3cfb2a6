-- Refusals of calls that take no memory.
use Rattle.ice_values.specs.declared.refusals.DecodeRefusal.{DecodeRefusal}
use Rattle.ice_values.specs.declared.refusals.DecodeRefusal.TheVariants.{BadMinor, BadLength, BadValue}
use Rattle.xsmp_messages.specs.declared.refusals.ViewRefusal.{ViewRefusal}
use Rattle.xsmp_messages.specs.declared.refusals.ViewRefusal.TheVariants.{BadMinor as BadMinorToView, BadLength as BadLengthToView, BadValue as BadValueToView}

-- the same refusal of decoding
abbrev pub as_decoding : ViewRefusal → DecodeRefusal
as_decoding BadMinorToView = BadMinor
as_decoding BadLengthToView = BadLength
as_decoding (BadValueToView at len) = BadValue at len
