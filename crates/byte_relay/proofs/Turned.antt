-- What turning keeps: a turned message has a spelling, of the length that it had.
use Rattle.std.proofs.Common.{◌≡◌, ℕ, ◌+◌, ◌%◌, ◌≤◌, Bool, true, false, List, length, drop, refl, sym, ap, ◌∙◌, arith, inl, inr}
use Rattle.std.specs.Prelude.{nat_lt}
use Rattle.std.proofs.lemmas.Bool.{ltb-false}
use Rattle.sm_world.proofs.Overwriting.{length-overwritten}
use Rattle.ice_values.specs.Cells.{byte}
use Rattle.ice_values.specs.Fields.{ErrorFields, IsError}
use Rattle.ice_values.specs.Numbers.{number, number_bytes}
use Rattle.ice_values.specs.declared.numbers.Endian.{Endian}
use Rattle.ice_values.proofs.NumberLaws.{length-number_bytes}
use Rattle.ice_values.proofs.LengthLaws.{length-error_body}
use Rattle.ice_messages.specs.Messages.{IsMessage as IsIce, HasLongPart, IsTooLong as IsTooLongIce, Spells as SpellsIce, minor_of as ice_minor, layout as ice_layout}
use Rattle.ice_messages.specs.declared.message.IceMessage.{IceMessage}
use Rattle.ice_messages.specs.declared.message.IceMessage.TheVariants.{Error as IceError, ConnectionSetup, AuthenticationRequired, AuthenticationReply, AuthenticationNextPhase, ProtocolSetup}
use Rattle.xsmp_messages.specs.Messages.{IsMessage as IsXsmp, IsTooLong as IsTooLongXsmp, Spells as SpellsXsmp, minor_of as xsmp_minor, layout as xsmp_layout}
use Rattle.xsmp_messages.specs.declared.message.XsmpMessage.{XsmpMessage}
use Rattle.xsmp_messages.specs.declared.message.XsmpMessage.TheVariants.{Error as XsmpError}
use Rattle.byte_relay.specs.Turning.{turned_number, turned_values, turned_error, turned_ice, turned_xsmp, leading_in_ice, leading_in_xsmp}
use Rattle.byte_relay.specs.declared.turning.Leading.{Leading}
use Rattle.byte_relay.specs.declared.turning.Leading.TheVariants.{Place, Text, Bytes}
use Rattle.byte_relay.proofs.Lengths.{same_ice, same_xsmp, ice_own, xsmp_own, body_fits}

pub length-turned_number : (e to : Endian) (n at : ℕ) (bytes : List ℕ) → at + n ≤ length bytes → length (turned_number e to n at bytes) ≡ length bytes
length-turned_number e to n at bytes room =
    let size = length-number_bytes to n (number e n (drop at bytes)) in
    length-overwritten bytes at (number_bytes to n (number e n (drop at bytes))) (omega (arith, size, room))

place_length : (e to : Endian) (values : List ℕ) (short : Bool) → nat_lt (length values) 8 ≡ short → length (turned_values e to Place values) ≡ length values
place_length e to values true is = rw is refl
place_length e to values false is =
    let room = ltb-false (length values) 8 is in
    let first = length-turned_number e to 4 0 values (omega (arith, room)) in
    rw is (length-turned_number e to 4 4 (turned_number e to 4 0 values) (omega (arith, room, first)) ∙ first)

text_length : (e to : Endian) (values : List ℕ) (short : Bool) → nat_lt (length values) (2 + number e 2 values) ≡ short → length (turned_values e to Text values) ≡ length values
text_length e to values true is = rw is refl
text_length e to values false is =
    let room = ltb-false (length values) (2 + number e 2 values) is in
    rw is (length-turned_number e to 2 0 values (omega (arith, room)))

pub length-turned : (e to : Endian) (leading : Leading) (values : List ℕ) → length (turned_values e to leading values) ≡ length values
length-turned e to Place values = place_length e to values (nat_lt (length values) 8) refl
length-turned e to Text values = text_length e to values (nat_lt (length values) (2 + number e 2 values)) refl
length-turned e to Bytes values = refl

error_fits : (e to : Endian) (leading : Leading) (error : ErrorFields) → IsError error → IsError (turned_error e to leading error)
error_fits e to leading error fits = (fits.0, fits.1, ap (λ (n : ℕ). n % 8) (length-turned e to leading error.values) ∙ fits.2)

pub ice_fits : (e to : Endian) (m : IceMessage) → IsIce m → IsIce (turned_ice e to m)
ice_fits e to (IceError error) fits = error_fits e to (leading_in_ice error.class) error fits
ice_fits e to m fits = fits

pub xsmp_fits : (e to : Endian) (m : XsmpMessage) → IsXsmp m → IsXsmp (turned_xsmp e to m)
xsmp_fits e to (XsmpError error) fits = error_fits e to (leading_in_xsmp error.class) error fits
xsmp_fits e to m fits = fits

-- ---- the length of a body

pub ice_length : (e to : Endian) (m : IceMessage) → length (ice_layout byte to (turned_ice e to m)).1 ≡ length (ice_layout byte e m).1
ice_length e to (IceError error) = length-error_body to (turned_error e to (leading_in_ice error.class) error) ∙ (ap (λ (n : ℕ). 8 + n) (length-turned e to (leading_in_ice error.class) error.values) ∙ sym (length-error_body e error))
ice_length e to m = sym (same_ice e to m)

pub xsmp_length : (e to : Endian) (m : XsmpMessage) → length (xsmp_layout byte to (turned_xsmp e to m)).1 ≡ length (xsmp_layout byte e m).1
xsmp_length e to (XsmpError error) = length-error_body to (turned_error e to (leading_in_xsmp error.class) error) ∙ (ap (λ (n : ℕ). 8 + n) (length-turned e to (leading_in_xsmp error.class) error.values) ∙ sym (length-error_body e error))
xsmp_length e to m = sym (same_xsmp e to m)

-- ---- a turned message isn't too long

no_long_part : (m : IceMessage) → IsIce m → HasLongPart m → ⊥
no_long_part (ConnectionSetup must vendor release names offered) fits (inl long) = omega (arith, fits.2.0, long)
no_long_part (ConnectionSetup must vendor release names offered) fits (inr long) = omega (arith, fits.2.2, long)
no_long_part (AuthenticationRequired index proof) fits long = omega (arith, fits, long)
no_long_part (AuthenticationReply proof) fits long = omega (arith, fits, long)
no_long_part (AuthenticationNextPhase proof) fits long = omega (arith, fits, long)
no_long_part (ProtocolSetup opcode must protocol vendor release names offered) fits (inl long) = omega (arith, fits.3.0, long)
no_long_part (ProtocolSetup opcode must protocol vendor release names offered) fits (inr long) = omega (arith, fits.3.2, long)
no_long_part m fits long = long

pub ice_not_long : (e to : Endian) (m : IceMessage) (frame : List ℕ) → SpellsIce e m frame → length frame ≤ 65544 → IsTooLongIce to (turned_ice e to m) → ⊥
ice_not_long e to m frame spells short (inl long) = no_long_part (turned_ice e to m) (ice_fits e to m spells.0) long
ice_not_long e to m frame spells short (inr long) =
    let body = body_fits e 0 (ice_minor m) (ice_layout byte e m).0 (ice_layout byte e m).1 frame (ice_own e m) spells.1 short in
    omega (arith, body, ice_length e to m, long)

pub xsmp_not_long : (e to : Endian) (opcode : ℕ) (m : XsmpMessage) (frame : List ℕ) → SpellsXsmp e opcode m frame → length frame ≤ 65544 → IsTooLongXsmp to (turned_xsmp e to m) → ⊥
xsmp_not_long e to opcode m frame spells short long =
    let body = body_fits e opcode (xsmp_minor m) (xsmp_layout byte e m).0 (xsmp_layout byte e m).1 frame (xsmp_own e m) spells.1 short in
    omega (arith, body, xsmp_length e to m, long)
