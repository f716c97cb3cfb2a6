-- The two setup messages: their counts and enumerated bytes at their places.
use Rattle.std.proofs.Common.{◌≡◌, ℕ, Bool, List, [], ◌++◌, length, refl, subst, sym, slice_index, append_assoc}
use Rattle.ice_values.specs.Cells.{Cells, byte, free, Begins}
use Rattle.ice_values.specs.Fields.{bool_number, spelling, text16, texts, versions}
use Rattle.ice_values.specs.declared.numbers.Endian.{Endian}
use Rattle.ice_values.specs.declared.numbers.Endian.TheVariants.{Lsb, Msb}
use Rattle.ice_values.proofs.CellLaws.{Begins-marked, Begins-opened, Begins-cell}
use Rattle.ice_values.proofs.HeaderLaws.{own_first, own_second, first_own, second_own}
use Rattle.ice_messages.specs.Messages.{shape}
use Rattle.ice_messages.specs.declared.message.IceMessage.{IceMessage}
use Rattle.ice_messages.specs.declared.message.IceMessage.TheVariants.{ConnectionSetup, ProtocolSetup}
use Rattle.ice_messages.proofs.Parts.{Makers, Lists, offer, protocol}

-- what is free of a message's enumerated bytes
abbrev pub form : Endian → IceMessage → Cells
form e m = shape (λ n. free 1) e m

abbrev pub setup_of : Bool → Makers × Lists → IceMessage
setup_of must x = ConnectionSetup must x.0.0 x.0.1 x.1.0 x.1.1

same_offer : (front vendor release names offered : Cells) → front ++ ((vendor ++ release) ++ (names ++ offered)) ≡ front ++ vendor ++ release ++ names ++ offered
same_offer front vendor release names offered = simp append_assoc

-- a ConnectionSetup with its counts, and without
pub setup_in : (e : Endian) (must : Bool) (x : Makers × Lists) (bytes : List ℕ) → slice_index bytes 2 ≡ length x.1.1 → slice_index bytes 3 ≡ length x.1.0
    → Begins (spelling e 0 2 (free 2) (free 8 ++ offer e x)) bytes [] → Begins (form e (setup_of must x)) bytes []
setup_in e must x bytes at2 at3 h =
    let body : Cells = free 8 ++ text16 e x.0.0 ++ text16 e x.0.1 ++ texts e x.1.0 ++ versions e x.1.1 in
    own_second e 0 2 body bytes (length x.1.1) (length x.1.0) at3
    (own_first e 0 2 body bytes (length x.1.1) at2
    (subst (λ (cells : Cells). Begins (spelling e 0 2 (free 2) cells) bytes []) (same_offer (free 8) (text16 e x.0.0) (text16 e x.0.1) (texts e x.1.0) (versions e x.1.1)) h))

pub setup_out : (e : Endian) (must : Bool) (x : Makers × Lists) (bytes : List ℕ) → Begins (form e (setup_of must x)) bytes []
    → (slice_index bytes 2 ≡ length x.1.1) × (slice_index bytes 3 ≡ length x.1.0) × Begins (spelling e 0 2 (free 2) (free 8 ++ offer e x)) bytes []
setup_out e must x bytes h =
    let body : Cells = free 8 ++ text16 e x.0.0 ++ text16 e x.0.1 ++ texts e x.1.0 ++ versions e x.1.1 in
    let a = second_own e 0 2 body bytes (length x.1.1) (length x.1.0) h in
    let b = first_own e 0 2 body bytes (length x.1.1) a.1 in
    (b.0, a.0, subst (λ (cells : Cells). Begins (spelling e 0 2 (free 2) cells) bytes []) (sym (same_offer (free 8) (text16 e x.0.0) (text16 e x.0.1) (texts e x.1.0) (versions e x.1.1))) b.1)

-- with its enumerated byte, and without
pub setup_marked : (e : Endian) (must : Bool) (x : Makers × Lists) (bytes : List ℕ) → slice_index bytes 8 ≡ bool_number must → Begins (form e (setup_of must x)) bytes [] → Begins (shape byte e (setup_of must x)) bytes []
setup_marked Lsb must x bytes at h = Begins-marked 8 (bool_number must) (form Lsb (setup_of must x)) bytes [] at h
setup_marked Msb must x bytes at h = Begins-marked 8 (bool_number must) (form Msb (setup_of must x)) bytes [] at h

pub setup_opened : (e : Endian) (must : Bool) (x : Makers × Lists) (bytes : List ℕ) → Begins (shape byte e (setup_of must x)) bytes [] → (slice_index bytes 8 ≡ bool_number must) × Begins (form e (setup_of must x)) bytes []
setup_opened Lsb must x bytes h = (Begins-cell 8 (bool_number must) (shape byte Lsb (setup_of must x)) bytes [] refl h, Begins-opened 8 (shape byte Lsb (setup_of must x)) bytes [] h)
setup_opened Msb must x bytes h = (Begins-cell 8 (bool_number must) (shape byte Msb (setup_of must x)) bytes [] refl h, Begins-opened 8 (shape byte Msb (setup_of must x)) bytes [] h)

-- ---- a ProtocolSetup

abbrev pub protocol_of : ℕ → Bool → List ℕ × (Makers × Lists) → IceMessage
protocol_of opcode must x = ProtocolSetup opcode must x.0 x.1.0.0 x.1.0.1 x.1.1.0 x.1.1.1

same_protocol : (front name vendor release names offered : Cells) → front ++ (name ++ ((vendor ++ release) ++ (names ++ offered))) ≡ front ++ name ++ vendor ++ release ++ names ++ offered
same_protocol front name vendor release names offered = simp append_assoc

abbrev protocol_flat : Endian → Cells → List ℕ × (Makers × Lists) → Cells
protocol_flat e front x = front ++ text16 e x.0 ++ text16 e x.1.0.0 ++ text16 e x.1.0.1 ++ texts e x.1.1.0 ++ versions e x.1.1.1

counts_in : (e : Endian) (x : List ℕ × (Makers × Lists)) (bytes : List ℕ) → slice_index bytes 8 ≡ length x.1.1.1 → slice_index bytes 9 ≡ length x.1.1.0
    → Begins (spelling e 0 7 (free 2) (protocol_flat e (free 8) x)) bytes [] → Begins (spelling e 0 7 (free 2) (protocol_flat e (byte (length x.1.1.1) ++ byte (length x.1.1.0) ++ free 6) x)) bytes []
counts_in Lsb x bytes at8 at9 h =
    Begins-marked 9 (length x.1.1.0) (spelling Lsb 0 7 (free 2) (protocol_flat Lsb (byte (length x.1.1.1) ++ free 1 ++ free 6) x)) bytes [] at9
    (Begins-marked 8 (length x.1.1.1) (spelling Lsb 0 7 (free 2) (protocol_flat Lsb (free 8) x)) bytes [] at8 h)
counts_in Msb x bytes at8 at9 h =
    Begins-marked 9 (length x.1.1.0) (spelling Msb 0 7 (free 2) (protocol_flat Msb (byte (length x.1.1.1) ++ free 1 ++ free 6) x)) bytes [] at9
    (Begins-marked 8 (length x.1.1.1) (spelling Msb 0 7 (free 2) (protocol_flat Msb (free 8) x)) bytes [] at8 h)

counts_out : (e : Endian) (x : List ℕ × (Makers × Lists)) (bytes : List ℕ) → Begins (spelling e 0 7 (free 2) (protocol_flat e (byte (length x.1.1.1) ++ byte (length x.1.1.0) ++ free 6) x)) bytes []
    → (slice_index bytes 8 ≡ length x.1.1.1) × (slice_index bytes 9 ≡ length x.1.1.0) × Begins (spelling e 0 7 (free 2) (protocol_flat e (free 8) x)) bytes []
counts_out Lsb x bytes h =
    let cells : Cells = spelling Lsb 0 7 (free 2) (protocol_flat Lsb (byte (length x.1.1.1) ++ byte (length x.1.1.0) ++ free 6) x) in (
      Begins-cell 8 (length x.1.1.1) cells bytes [] refl h,
      Begins-cell 9 (length x.1.1.0) cells bytes [] refl h,
      Begins-opened 8 (spelling Lsb 0 7 (free 2) (protocol_flat Lsb (byte (length x.1.1.1) ++ free 1 ++ free 6) x)) bytes [] (Begins-opened 9 cells bytes [] h),
    )
counts_out Msb x bytes h =
    let cells : Cells = spelling Msb 0 7 (free 2) (protocol_flat Msb (byte (length x.1.1.1) ++ byte (length x.1.1.0) ++ free 6) x) in (
      Begins-cell 8 (length x.1.1.1) cells bytes [] refl h,
      Begins-cell 9 (length x.1.1.0) cells bytes [] refl h,
      Begins-opened 8 (spelling Msb 0 7 (free 2) (protocol_flat Msb (byte (length x.1.1.1) ++ free 1 ++ free 6) x)) bytes [] (Begins-opened 9 cells bytes [] h),
    )

-- with its opcode and counts, and without
pub protocol_in : (e : Endian) (opcode : ℕ) (must : Bool) (x : List ℕ × (Makers × Lists)) (bytes : List ℕ) → slice_index bytes 2 ≡ opcode → slice_index bytes 8 ≡ length x.1.1.1 → slice_index bytes 9 ≡ length x.1.1.0
    → Begins (spelling e 0 7 (free 2) (free 8 ++ protocol e x)) bytes [] → Begins (form e (protocol_of opcode must x)) bytes []
protocol_in e opcode must x bytes at2 at8 at9 h =
    own_first e 0 7 (protocol_flat e (byte (length x.1.1.1) ++ byte (length x.1.1.0) ++ free 6) x) bytes opcode at2
    (counts_in e x bytes at8 at9
    (subst (λ (cells : Cells). Begins (spelling e 0 7 (free 2) cells) bytes []) (same_protocol (free 8) (text16 e x.0) (text16 e x.1.0.0) (text16 e x.1.0.1) (texts e x.1.1.0) (versions e x.1.1.1)) h))

pub protocol_out : (e : Endian) (opcode : ℕ) (must : Bool) (x : List ℕ × (Makers × Lists)) (bytes : List ℕ) → Begins (form e (protocol_of opcode must x)) bytes []
    → (slice_index bytes 2 ≡ opcode) × (slice_index bytes 8 ≡ length x.1.1.1) × (slice_index bytes 9 ≡ length x.1.1.0) × Begins (spelling e 0 7 (free 2) (free 8 ++ protocol e x)) bytes []
protocol_out e opcode must x bytes h =
    let a = first_own e 0 7 (protocol_flat e (byte (length x.1.1.1) ++ byte (length x.1.1.0) ++ free 6) x) bytes opcode h in
    let b = counts_out e x bytes a.1 in
    (a.0, b.0, b.1, subst (λ (cells : Cells). Begins (spelling e 0 7 (free 2) cells) bytes []) (sym (same_protocol (free 8) (text16 e x.0) (text16 e x.1.0.0) (text16 e x.1.0.1) (texts e x.1.1.0) (versions e x.1.1.1))) b.2)
