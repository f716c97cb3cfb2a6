-- A frame is a message's spelling where its header, its own bytes and its body are.
use Rattle.std.proofs.Common.{◌≡◌, ℕ, ◌+◌, ◌-◌, ◌*◌, ◌/◌, ◌^◌, ◌<◌, ◌≤◌, List, [], ◌∷◌, ◌++◌, length, drop, refl, sym, ap, ◌∙◌, subst, arith, slice_index, take-append-drop, length-drop, length-append}
use Rattle.std.proofs.lemmas.List.{drop-drop}
use Rattle.ice_values.specs.Cells.{Cells, byte, known, free, Begins, pad_len}
use Rattle.ice_values.specs.Numbers.{number, number_bytes, card32}
use Rattle.ice_values.specs.Fields.{spelling}
use Rattle.ice_values.specs.Frames.{IsFrame}
use Rattle.ice_values.specs.declared.numbers.Endian.{Endian}
use Rattle.ice_values.proofs.CellLaws.{IsBytes, IsBytes-drop, Begins-append, Begins-split, Begins-known, from_known, Begins-free, Begins-drop, Begins-length, Begins-marked, Begins-opened, Begins-cell, all_free, length-known, length-free}
use Rattle.ice_values.proofs.NumberLaws.{back4, length-number_bytes, number-again, number-fits}

-- a frame of these opcodes
pub record Header (e : Endian) (opcode minor : ℕ) (bytes : List ℕ) : Type 0 where
  pub frame : IsFrame e bytes
  pub fits : IsBytes bytes
  pub opcode_at : slice_index bytes 0 ≡ opcode
  pub minor_at : slice_index bytes 1 ≡ minor

-- the units that a header states, and what is left after a body of n bytes
units_are : (n left units : ℕ) → 8 * units ≡ n + left → left < 8 → ((n + pad_len n 8) / 8 ≡ units) × (left ≡ pad_len n 8)
units_are n left units whole short = (omega arith, omega arith)

two_front : (bytes : List ℕ) → 2 ≤ length bytes → Begins (known (slice_index bytes 0 ∷ slice_index bytes 1 ∷ [])) bytes (drop 2 bytes)
two_front (b0 ∷ b1 ∷ bytes) le = (refl, (refl, refl))
two_front bytes le = absurd (omega arith)

pub spelled : (e : Endian) (opcode minor : ℕ) (own body : Cells) (bytes rest : List ℕ) → Header e opcode minor bytes → Begins own (drop 2 bytes) (drop 4 bytes) → Begins body (drop 8 bytes) rest → length rest < 8
    → Begins (spelling e opcode minor own body) bytes []
spelled e opcode minor own body bytes rest h is_own is_body short =
    let le : 8 ≤ length bytes = h.frame.header in
    let whole : length bytes - 8 ≡ length body + length rest = sym (length-drop 8 bytes) ∙ Begins-length body (drop 8 bytes) rest is_body in
    let stated : 8 * number e 4 (drop 4 bytes) ≡ length body + length rest = omega (arith, whole, h.frame.units) in
    let units = units_are (length body) (length rest) (number e 4 (drop 4 bytes)) stated short in
    let four : 4 ≤ length (drop 4 bytes) = omega (arith, length-drop 4 bytes) in
    let front : Begins (known (opcode ∷ minor ∷ [])) bytes (drop 2 bytes) =
    subst (λ (o : ℕ). Begins (known (o ∷ minor ∷ [])) bytes (drop 2 bytes)) h.opcode_at
    (subst (λ (m : ℕ). Begins (known (slice_index bytes 0 ∷ m ∷ [])) bytes (drop 2 bytes)) h.minor_at (two_front bytes (omega arith))) in
    let count : Begins (known (number_bytes e 4 (number e 4 (drop 4 bytes)))) (drop 4 bytes) (drop 8 bytes) =
    Begins-known (number_bytes e 4 (number e 4 (drop 4 bytes))) (drop 4 bytes) (drop 8 bytes)
    (sym (take-append-drop 4 (drop 4 bytes)) ∙ ap (λ (l : List ℕ). l ++ drop 4 (drop 4 bytes)) (sym (back4 e (drop 4 bytes) four (IsBytes-drop 4 bytes h.fits)))
    ∙ ap (λ (l : List ℕ). number_bytes e 4 (number e 4 (drop 4 bytes)) ++ l) (drop-drop 4 4 bytes)) in
    let length_field : Begins (card32 e ((length body + pad_len (length body) 8) / 8)) (drop 4 bytes) (drop 8 bytes) =
    subst (λ (u : ℕ). Begins (card32 e u) (drop 4 bytes) (drop 8 bytes)) (sym units.0) count in
    let padding : Begins (free (pad_len (length body) 8)) rest [] = subst (λ (n : ℕ). Begins (free n) rest []) units.1 (all_free rest) in
    Begins-append (known (opcode ∷ minor ∷ []) ++ own ++ card32 e ((length body + pad_len (length body) 8) / 8) ++ body) (free (pad_len (length body) 8)) bytes rest []
    (Begins-append (known (opcode ∷ minor ∷ []) ++ own ++ card32 e ((length body + pad_len (length body) 8) / 8)) body bytes (drop 8 bytes) rest
    (Begins-append (known (opcode ∷ minor ∷ []) ++ own) (card32 e ((length body + pad_len (length body) 8) / 8)) bytes (drop 4 bytes) (drop 8 bytes)
    (Begins-append (known (opcode ∷ minor ∷ [])) own bytes (drop 2 bytes) (drop 4 bytes) front is_own) length_field) is_body) padding

-- what a message's spelling says of its parts
pub record Parts (e : Endian) (own body : Cells) (bytes rest : List ℕ) : Type 0 where
  pub own_at : Begins own (drop 2 bytes) (drop 4 bytes)
  pub body_at : Begins body (drop 8 bytes) rest
  pub left : length rest ≡ pad_len (length body) 8
  pub units_at : drop 4 bytes ≡ number_bytes e 4 ((length body + pad_len (length body) 8) / 8) ++ drop 8 bytes

pub parts_of : (e : Endian) (opcode minor : ℕ) (own body : Cells) (bytes : List ℕ) → length own ≡ 2 → Begins (spelling e opcode minor own body) bytes [] → (rest : List ℕ) × Parts e own body bytes rest
parts_of e opcode minor own body bytes two h =
    let units : ℕ = (length body + pad_len (length body) 8) / 8 in
    let front : Cells = known (opcode ∷ minor ∷ []) in
    let a = Begins-split (front ++ own ++ card32 e units ++ body) (free (pad_len (length body) 8)) bytes [] h in
    let b = Begins-split (front ++ own ++ card32 e units) body bytes a.0 a.1 in
    let d = Begins-split (front ++ own) (card32 e units) bytes b.0 b.1 in
    let f = Begins-split front own bytes d.0 d.1 in
    let two_in : drop 2 bytes ≡ f.0 = Begins-drop front bytes f.0 f.1 in
    let four_in : drop 4 bytes ≡ d.0 =
    sym (drop-drop 2 2 bytes) ∙ ap (drop 2) two_in ∙ subst (λ (n : ℕ). drop n f.0 ≡ d.0) two (Begins-drop own f.0 d.0 f.2) in
    let four : length (card32 e units) ≡ 4 = length-known (number_bytes e 4 units) ∙ length-number_bytes e 4 units in
    let eight_in : drop 8 bytes ≡ b.0 =
    sym (drop-drop 4 4 bytes) ∙ ap (drop 4) four_in ∙ subst (λ (n : ℕ). drop n d.0 ≡ b.0) four (Begins-drop (card32 e units) d.0 b.0 d.2) in (
      a.0,
      record {
        own_at = rw (two_in, four_in) f.2;
        body_at = rw eight_in b.2;
        units_at = rw (four_in, eight_in) (from_known (number_bytes e 4 units) d.0 b.0 d.2);
        left = let len = Begins-length (free (pad_len (length body) 8)) a.0 [] a.2 in omega (arith, len, length-free (pad_len (length body) 8));
      },
    )

pub length-spelling : (e : Endian) (opcode minor : ℕ) (own body : Cells) → length own ≡ 2 → length (spelling e opcode minor own body) ≡ 8 + length body + pad_len (length body) 8
length-spelling e opcode minor own body two =
    let units : ℕ = (length body + pad_len (length body) 8) / 8 in
    let front : Cells = known (opcode ∷ minor ∷ []) in
    let opcodes : length front ≡ 2 = refl in
    omega (
      arith,
      opcodes,
      two,
      length-append front own,
      length-append (front ++ own ++ card32 e units ++ body) (free (pad_len (length body) 8)),
      length-append (front ++ own ++ card32 e units) body,
      length-append (front ++ own) (card32 e units),
      length-known (number_bytes e 4 units),
      length-number_bytes e 4 units,
      length-free (pad_len (length body) 8),
    )

-- A spelling whose units a CARD32 can state is a frame.
pub is_frame : (e : Endian) (opcode minor : ℕ) (own body : Cells) (bytes : List ℕ) → length own ≡ 2 → length bytes < 8 + 8 * 256 ^ 4 → Begins (spelling e opcode minor own body) bytes [] → IsFrame e bytes
is_frame e opcode minor own body bytes two short h =
    let parts = parts_of e opcode minor own body bytes two h in
    let units : ℕ = (length body + pad_len (length body) 8) / 8 in
    let count = ap length parts.1.units_at ∙ length-append (number_bytes e 4 units) (drop 8 bytes) in
    let after = Begins-length body (drop 8 bytes) parts.0 parts.1.body_at in
    let header : 8 ≤ length bytes = omega (arith, count, length-number_bytes e 4 units, length-drop 4 bytes) in
    let whole : length bytes ≡ 8 + 8 * units = omega (arith, header, after, length-drop 8 bytes, parts.1.left) in
    let stated : number e 4 (drop 4 bytes) ≡ units = rw parts.1.units_at (number-again e 4 units (drop 8 bytes) (omega (arith, whole, short))) in
    record { header = header; units = omega (arith, whole, stated) }

-- What has fewer units than it states is no spelling.
pub is_cut : (e : Endian) (opcode minor : ℕ) (own body : Cells) (bytes : List ℕ) → length own ≡ 2 → IsBytes bytes → length bytes < 8 + 8 * number e 4 (drop 4 bytes) → Begins (spelling e opcode minor own body) bytes [] → ⊥
is_cut e opcode minor own body bytes two fits short h =
    let stated = number-fits e 4 (drop 4 bytes) (IsBytes-drop 4 bytes fits) in
    let frame = is_frame e opcode minor own body bytes two (omega (arith, short, stated)) h in
    omega (arith, frame.units, short)

-- two bytes of a header that are free
pub free_own : (bytes : List ℕ) → 8 ≤ length bytes → Begins (free 2) (drop 2 bytes) (drop 4 bytes)
free_own bytes le = subst (λ (l : List ℕ). Begins (free 2) (drop 2 bytes) l) (drop-drop 2 2 bytes) (Begins-free 2 (drop 2 bytes) (omega (arith, length-drop 2 bytes)))

-- ---- the bytes of a header that are a message's own

module _ (e : Endian) (opcode minor : ℕ) (body : Cells) (bytes : List ℕ) where
  pub own_first : (b : ℕ) → slice_index bytes 2 ≡ b → Begins (spelling e opcode minor (free 2) body) bytes [] → Begins (spelling e opcode minor (byte b ++ free 1) body) bytes []
  own_first b at h = Begins-marked 2 b (spelling e opcode minor (free 2) body) bytes [] at h

  pub own_second : (a b : ℕ) → slice_index bytes 3 ≡ b → Begins (spelling e opcode minor (byte a ++ free 1) body) bytes [] → Begins (spelling e opcode minor (byte a ++ byte b) body) bytes []
  own_second a b at h = Begins-marked 3 b (spelling e opcode minor (byte a ++ free 1) body) bytes [] at h

  pub first_own : (b : ℕ) → Begins (spelling e opcode minor (byte b ++ free 1) body) bytes [] → (slice_index bytes 2 ≡ b) × Begins (spelling e opcode minor (free 2) body) bytes []
  first_own b h =
      (Begins-cell 2 b (spelling e opcode minor (byte b ++ free 1) body) bytes [] refl h, Begins-opened 2 (spelling e opcode minor (byte b ++ free 1) body) bytes [] h)

  pub second_own : (a b : ℕ) → Begins (spelling e opcode minor (byte a ++ byte b) body) bytes [] → (slice_index bytes 3 ≡ b) × Begins (spelling e opcode minor (byte a ++ free 1) body) bytes []
  second_own a b h =
      (Begins-cell 3 b (spelling e opcode minor (byte a ++ byte b) body) bytes [] refl h, Begins-opened 3 (spelling e opcode minor (byte a ++ byte b) body) bytes [] h)

pub minor_is : (e : Endian) (opcode minor : ℕ) (own body : Cells) (bytes : List ℕ) → Begins (spelling e opcode minor own body) bytes [] → slice_index bytes 1 ≡ minor
minor_is e opcode minor own body bytes h = Begins-cell 1 minor (spelling e opcode minor own body) bytes [] refl h
