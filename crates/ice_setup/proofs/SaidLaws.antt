-- Which answers have a spelling that is not too long.
use Rattle.std.proofs.Common.{refl, lit≤, ◌≡◌, ℕ, ◌+◌, ◌≤◌, List, ◌++◌, Option, Bool, length, ap, ◌∙◌, arith, inl, inr, length-append, length-drop, drop}
use Rattle.ice_values.specs.Cells.{Cells, byte, free, pad_len}
use Rattle.ice_values.specs.Fields.{ErrorFields, text16, texts, versions}
use Rattle.ice_values.specs.declared.numbers.Endian.{Endian}
use Rattle.ice_values.specs.declared.numbers.Endian.TheVariants.{Lsb}
use Rattle.ice_values.specs.declared.class.ErrorClass.{ErrorClass}
use Rattle.ice_values.specs.declared.severity.Severity.{Severity}
use Rattle.ice_values.specs.declared.version.Version.{Version}
use Rattle.ice_values.specs.Numbers.{number_bytes}
use Rattle.ice_values.proofs.CellLaws.{length-zeros, length-free, length-known, Begins-length}
use Rattle.ice_values.proofs.NumberLaws.{length-number_bytes}
use Rattle.ice_values.proofs.HeaderLaws.{parts_of}
use Rattle.ice_values.proofs.LengthLaws.{length-error_body, length-text16}
use Rattle.ice_messages.specs.Messages.{minor_of, layout, IsTooLong}
use Rattle.ice_messages.specs.declared.message.IceMessage.{IceMessage}
use Rattle.ice_messages.specs.declared.message.IceMessage.TheVariants.{Error, ProtocolSetup}
use Rattle.ice_setup.specs.Errors.{blame, text_values}
use Rattle.ice_setup.specs.Laws.{SpelledFits}
use Rattle.ice_setup.specs.Setup.{HasFittingBody}
use Rattle.ice_setup.specs.declared.errors.Offending.{Offending}

-- an Error with few values
pub error_said : (severity : Severity) (class : ErrorClass) (offending : Offending) (values : List ℕ) → length values ≤ 65528 → ¬ (IsTooLong Lsb (Error (blame severity class offending values)))
error_said severity class offending values few = λ too_long.
    let error : ErrorFields = blame severity class offending values in
    elim too_long [ inl long_part ↦ long_part | inr long ↦ omega (arith, length-error_body Lsb error, few) ]

pub length-text_values : (text : List ℕ) → length (text_values text) ≡ length (text16 Lsb text) + pad_len (length (text16 Lsb text)) 8
length-text_values text =
    let padding : ℕ = pad_len (length (text16 Lsb text)) 8 in
    length-zeros (text16 Lsb text ++ free padding) ∙ length-append (text16 Lsb text) (free padding) ∙ ap (λ (n : ℕ). length (text16 Lsb text) + n) (length-free padding)

parts_fit : (front p v r n o : Cells) → length front + length p + length v + length r ≤ length (front ++ p ++ v ++ r ++ n ++ o)
parts_fit front p v r n o = omega (arith, length-append {A = Option ℕ})

-- the name of a protocol that a ProtocolSetup brought, where its body was not too long
pub protocol_fits : (e : Endian) (opcode : ℕ) (must : Bool) (protocol vendor release : List ℕ) (names : List (List ℕ)) (offered : List Version)
    → HasFittingBody e (ProtocolSetup opcode must protocol vendor release names offered) → length (text_values protocol) ≤ 65528
protocol_fits e opcode must protocol vendor release names offered fits =
    let front : Cells = byte (length offered) ++ byte (length names) ++ free 6 in
    let parts = parts_fit front (text16 e protocol) (text16 e vendor) (text16 e release) (texts e names) (versions e offered) in
    let eight : 8 ≤ length front = lit≤ tt in
    omega (arith, parts, fits, eight, length-text_values protocol, length-text16 e protocol, length-text16 Lsb protocol, length-text16 e vendor, length-text16 e release)

-- ---- what a frame spells

two_own : (e : Endian) (m : IceMessage) → length (layout byte e m).0 ≡ 2
two_own e (Error error) = length-known (number_bytes e 2 error.class) ∙ length-number_bytes e 2 error.class
two_own e m = refl

pub spelled_fits : SpelledFits
spelled_fits e m bytes spells short =
    let parts = parts_of e 0 (minor_of m) (layout byte e m).0 (layout byte e m).1 bytes (two_own e m) spells.1 in
    omega (arith, short, Begins-length (layout byte e m).1 (drop 8 bytes) parts.0 parts.1.body_at, length-drop 8 bytes)
