-- The messages that state an order, by their bytes.
use Rattle.std.proofs.Common.{◌≡◌, ℕ, zero, suc, ◌≤◌, ◌==◌, Bool, true, false, List, [], ◌∷◌, ◌++◌, length, drop, slice_index, nat_lt, refl, arith, IsTrue}
use Rattle.std.specs.Prelude.{◌&&◌, ◌↔◌}
use Rattle.std.proofs.lemmas.Bool.{eqb-true, ltb-true, false≢true}
use Rattle.std.proofs.lemmas.List.{length-drop}
use Rattle.ice_values.specs.Cells.{byte, free, Begins}
use Rattle.ice_values.specs.Fields.{order_number}
use Rattle.ice_values.specs.Frames.{IsFrame}
use Rattle.ice_values.specs.Numbers.{number}
use Rattle.ice_values.specs.Reading.{IsBytes}
use Rattle.ice_values.specs.declared.numbers.Endian.{Endian}
use Rattle.ice_values.specs.declared.numbers.Endian.TheVariants.{Lsb, Msb}
use Rattle.ice_values.proofs.HeaderLaws.{Header, spelled}
use Rattle.ice_messages.specs.Messages.{Spells, shape}
use Rattle.ice_messages.specs.declared.message.IceMessage.TheVariants.{ByteOrder}
use Rattle.byte_relay.specs.Orders.{is_byte_order}

both : (a b : Bool) → (a && b) ≡ true → (a ≡ true) × (b ≡ true)
both true b is = (refl, is)
both false b is = absurd (false≢true is)

-- the order that a byte below 2 states
stated : (n : ℕ) → nat_lt n 2 ≡ true → (order : Endian) × (n ≡ order_number order)
stated zero below = (Lsb, refl)
stated (suc zero) below = (Msb, refl)
stated (suc (suc n)) below = absurd (omega (arith, ltb-true (suc (suc n)) 2 below))

own_begins : (bytes : List ℕ) (n : ℕ) → 8 ≤ length bytes → slice_index bytes 2 ≡ n → Begins (byte n ++ free 1) (drop 2 bytes) (drop 4 bytes)
own_begins (b0 ∷ b1 ∷ b2 ∷ b3 ∷ bytes) n le is = (is, refl)
own_begins bytes n le is = absurd (omega arith)

spells : (e : Endian) (frame : List ℕ) → IsFrame e frame → IsBytes frame → is_byte_order e frame ≡ true → (order : Endian) × Spells e (ByteOrder order) frame
spells e frame whole fits is =
    let last = both (slice_index frame 0 == 0 && slice_index frame 1 == 1 && nat_lt (slice_index frame 2) 2) (number e 4 (drop 4 frame) == 0) is in
    let third = both (slice_index frame 0 == 0 && slice_index frame 1 == 1) (nat_lt (slice_index frame 2) 2) last.0 in
    let first = both (slice_index frame 0 == 0) (slice_index frame 1 == 1) third.0 in
    let none : number e 4 (drop 4 frame) ≡ 0 = eqb-true (number e 4 (drop 4 frame)) 0 last.1 in
    let order = stated (slice_index frame 2) third.1 in
    let header : Header e 0 1 frame = record { frame = whole; fits = fits; opcode_at = eqb-true (slice_index frame 0) 0 first.0; minor_at = eqb-true (slice_index frame 1) 1 first.1 } in
    (order.0, (tt, spelled e 0 1 (byte (order_number order.0) ++ free 1) [] frame (drop 8 frame) header (own_begins frame (order_number order.0) whole.header order.1) refl (omega (arith, length-drop 8 frame, whole.units, none))))

is_one : (e order : Endian) (frame : List ℕ) → 8 ≤ length frame → Begins (shape byte e (ByteOrder order)) frame [] → is_byte_order e frame ≡ true
is_one Lsb Lsb (b0 ∷ b1 ∷ b2 ∷ b3 ∷ b4 ∷ b5 ∷ b6 ∷ b7 ∷ bytes) le h = rw (h.0, h.1.0, h.1.1.0, h.1.1.1.0, h.1.1.1.1.0, h.1.1.1.1.1.0, h.1.1.1.1.1.1.0) refl
is_one Lsb Msb (b0 ∷ b1 ∷ b2 ∷ b3 ∷ b4 ∷ b5 ∷ b6 ∷ b7 ∷ bytes) le h = rw (h.0, h.1.0, h.1.1.0, h.1.1.1.0, h.1.1.1.1.0, h.1.1.1.1.1.0, h.1.1.1.1.1.1.0) refl
is_one Msb Lsb (b0 ∷ b1 ∷ b2 ∷ b3 ∷ b4 ∷ b5 ∷ b6 ∷ b7 ∷ bytes) le h = rw (h.0, h.1.0, h.1.1.0, h.1.1.1.0, h.1.1.1.1.0, h.1.1.1.1.1.0, h.1.1.1.1.1.1.0) refl
is_one Msb Msb (b0 ∷ b1 ∷ b2 ∷ b3 ∷ b4 ∷ b5 ∷ b6 ∷ b7 ∷ bytes) le h = rw (h.0, h.1.0, h.1.1.0, h.1.1.1.0, h.1.1.1.1.0, h.1.1.1.1.1.0, h.1.1.1.1.1.1.0) refl
is_one e order frame le h = absurd (omega arith)

pub states_an_order : (e : Endian) (frame : List ℕ) → IsFrame e frame → IsBytes frame → IsTrue (is_byte_order e frame) ↔ ((order : Endian) × Spells e (ByteOrder order) frame)
states_an_order e frame whole fits = (spells e frame whole fits, λ spelled_so. is_one e spelled_so.0 frame whole.header spelled_so.1.1)
