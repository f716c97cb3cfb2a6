-- What is sent fits into a message.
use Rattle.std.proofs.Common.{◌≡◌, ℕ, ◌+◌, ◌*◌, ◌≤◌, true, List, ◌++◌, length, take, drop, ap, ◌∙◌, arith, inr, length-append}
use Rattle.std.specs.Prelude.{codes, replicate}
use Rattle.std.proofs.lemmas.List.{length-replicate, length-take}
use Rattle.byteorder.specs.Endian.{big_bytes, little_bytes}
use Rattle.byteorder.specs.Numbers.{length-bytes_high_first, length-bytes_low_first}
use Rattle.hex.specs.Hex.{lower_digits}
use Rattle.hex.proofs.HexLemmas.{length-encode_with}
use Rattle.ice_values.specs.Cells.{pad_len}
use Rattle.ice_values.specs.Fields.{ErrorFields}
use Rattle.ice_values.specs.Properties.{array8, property}
use Rattle.ice_values.specs.declared.numbers.Endian.TheVariants.{Lsb}
use Rattle.ice_values.specs.declared.property.Property.{Property}
use Rattle.ice_values.proofs.LengthLaws.{length-array8, length-listed, length-error_body}
use Rattle.checkpoint_records.specs.Rules.{hex8, client_id, IsClientId, IsTable}
use Rattle.xsmp_messages.specs.Messages.{IsTooLong}
use Rattle.xsmp_messages.specs.declared.message.XsmpMessage.{XsmpMessage}
use Rattle.xsmp_messages.specs.declared.message.XsmpMessage.TheVariants.{Error, RegisterClientReply, SaveYourself, Interact, Die, ShutdownCancelled, GetPropertiesReply, SaveYourselfPhase2, SaveComplete}
use Rattle.session_model.specs.Errors.{value_at, bad_state, bad_id, no_room, full_table, lone_shutdown}
use Rattle.session_model.specs.declared.events.Arrival.{Arrival}
use Rattle.session_model.proofs.Tidy.{is_small}

length-hex8 : (n : ℕ) → length (hex8 n) ≡ 8
length-hex8 n = length-encode_with lower_digits (big_bytes 4 n) ∙ ap (λ (x : ℕ). 2 * x) (length-bytes_high_first 4 n)

length-client_id : (epoch n : ℕ) → length (client_id epoch n) ≡ 21
length-client_id epoch n =
    let a : length (codes "smd-" ++ hex8 epoch ++ codes "-" ++ hex8 n) ≡ length (codes "smd-" ++ hex8 epoch ++ codes "-") + length (hex8 n) = length-append (codes "smd-" ++ hex8 epoch ++ codes "-") (hex8 n) in
    let b : length (codes "smd-" ++ hex8 epoch ++ codes "-") ≡ length (codes "smd-" ++ hex8 epoch) + 1 = length-append (codes "smd-" ++ hex8 epoch) (codes "-") in
    let c : length (codes "smd-" ++ hex8 epoch) ≡ 4 + length (hex8 epoch) = length-append (codes "smd-") (hex8 epoch) in
    omega (arith, a, b, c, length-hex8 epoch, length-hex8 n)

length-id : (epoch : ℕ) (id : List ℕ) → IsClientId epoch id → length id ≡ 21
length-id epoch id i = ap (λ (xs : List ℕ). length xs) i.is ∙ length-client_id i.epoch i.number

pub short-id : (epoch : ℕ) (id : List ℕ) → IsClientId epoch id → IsTooLong Lsb (RegisterClientReply id) → ⊥
short-id epoch id i long =
    let a : length (array8 Lsb id) ≡ 4 + length id + pad_len (4 + length id) 8 = length-array8 Lsb id in
    let b : 4 + length id + pad_len (4 + length id) 8 ≡ 32 = ap (λ (n : ℕ). 4 + n + pad_len (4 + n) 8) (length-id epoch id i) in
    omega (arith, a, b, long)

pub short-table : (table : List Property) → IsTable table → IsTooLong Lsb (GetPropertiesReply table) → ⊥
short-table table t long = t.limits (inr (omega (arith, length-listed (property Lsb) Lsb table, long)))

pub short-small : (m : XsmpMessage) → is_small m ≡ true → IsTooLong Lsb m → ⊥
short-small (SaveYourself kind shutdown style fast) e long = omega arith
short-small Interact e long = omega arith
short-small Die e long = omega arith
short-small ShutdownCancelled e long = omega arith
short-small SaveYourselfPhase2 e long = omega arith
short-small SaveComplete e long = omega arith
short-small m e long = absurd (grind arith)

pub short-error : (error : ErrorFields) → length error.values ≤ 65528 → IsTooLong Lsb (Error error) → ⊥
short-error error k long = omega (arith, k, long, length-error_body Lsb error)

-- Errors

padded : (n : ℕ) → n ≤ 65520 → n + pad_len n 8 ≤ 65520
padded n k = omega arith

pub length-value : (at : ℕ) (bytes : List ℕ) → length (value_at at bytes) ≡ 8 + (length bytes + pad_len (length bytes) 8)
length-value at bytes =
    let a : length (value_at at bytes) ≡ length (little_bytes 4 at ++ little_bytes 4 (length bytes) ++ bytes) + length (replicate (pad_len (length bytes) 8) 0) = length-append (little_bytes 4 at ++ little_bytes 4 (length bytes) ++ bytes) (replicate (pad_len (length bytes) 8) 0) in
    let b : length (little_bytes 4 at ++ little_bytes 4 (length bytes) ++ bytes) ≡ length (little_bytes 4 at ++ little_bytes 4 (length bytes)) + length bytes = length-append (little_bytes 4 at ++ little_bytes 4 (length bytes)) bytes in
    let c : length (little_bytes 4 at ++ little_bytes 4 (length bytes)) ≡ length (little_bytes 4 at) + length (little_bytes 4 (length bytes)) = length-append (little_bytes 4 at) (little_bytes 4 (length bytes)) in
    let d : length (replicate (pad_len (length bytes) 8) 0) ≡ pad_len (length bytes) 8 = length-replicate {A = ℕ} (pad_len (length bytes) 8) 0 in
    omega (arith, a, b, c, d, length-bytes_low_first 0 4 at, length-bytes_low_first 0 4 (length bytes))

taken : (n : ℕ) (bytes : List ℕ) → length (take n bytes) ≤ n
taken n bytes = omega (arith, length-take n bytes)

short-value : (at n : ℕ) (bytes : List ℕ) → n ≤ 65520 → length (value_at at (take n bytes)) ≤ 65528
short-value at n bytes k =
    let a : length (take n bytes) ≤ 65520 = omega (arith, taken n bytes) in
    omega (arith, length-value at (take n bytes), padded (length (take n bytes)) a)

pub error-state : (x : Arrival) → length (bad_state x).values ≤ 65528
error-state x = omega arith

pub error-id : (x : Arrival) → length (bad_id x).values ≤ 65528
error-id x = short-value 8 65520 (drop 8 x.frame) (omega arith)

pub error-room : (x : Arrival) → length (no_room x).values ≤ 65528
error-room x = short-value 8 8 (drop 8 x.frame) (omega arith)

pub error-full : (x : Arrival) → length (full_table x).values ≤ 65528
error-full x = short-value 8 4 (drop 8 x.frame) (omega arith)

pub error-lone : (x : Arrival) → length (lone_shutdown x).values ≤ 65528
error-lone x = short-value 12 1 (drop 12 x.frame) (omega arith)
