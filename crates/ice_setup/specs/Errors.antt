-- The Errors of the manager (ICE, chapter 7: Error): their values, and what they name.
use Rattle.std.specs.Prelude.{ℕ, List, ◌∷◌, ◌++◌, length, slice_index}
use Rattle.ice_values.specs.Cells.{free, zeros, pad_len}
use Rattle.ice_values.specs.Numbers.{number_bytes}
use Rattle.ice_values.specs.Fields.{text16, ErrorFields}
use Rattle.ice_values.specs.declared.numbers.Endian.TheVariants.{Lsb}
use Rattle.ice_values.specs.Classes.{class_number}
use Rattle.ice_values.specs.declared.class.ErrorClass.{ErrorClass}
use Rattle.ice_values.specs.declared.severity.Severity.{Severity}
use Rattle.ice_setup.specs.declared.errors.Offending.{Offending}

-- an Error that refuses a message
abbrev pub blame : Severity → ErrorClass → Offending → List ℕ → ErrorFields
blame severity class offending values = record { class = class_number class; minor = offending.minor; severity = severity; sequence = offending.sequence; values = values }

-- The values: an opcode and zeros to a unit;
abbrev pub opcode_values : ℕ → List ℕ
opcode_values opcode = opcode ∷ zeros (free 7)

-- a text and zeros to a unit;
abbrev pub text_values : List ℕ → List ℕ
text_values text = zeros (text16 Lsb text ++ free (pad_len (length (text16 Lsb text)) 8))

-- and for one byte its offset, a length of 1, the byte, and zeros to a unit.
abbrev pub wrong_byte : ℕ → List ℕ → List ℕ
wrong_byte at bytes = number_bytes Lsb 4 at ++ number_bytes Lsb 4 1 ++ (slice_index bytes at ∷ zeros (free 7))
