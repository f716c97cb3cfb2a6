-- What the looks of a recovery tell of the file.
use Rattle.std.proofs.Common.{◌≡◌, ◌≢◌, ◌-◌, ◌+◌, ◌<◌, ◌≤◌, ◌%◌, ◌⊎◌, ℕ, Bool, true, false, List, length, take, drop, slice_index, min, refl, ap, sym, subst, ◌∙◌, arith}
use Rattle.std.specs.Prelude.{IfErr, IfOk, None, Option, Result, Some, Ok, Err}
use Rattle.std.proofs.lemmas.Grind.{same_number_lists}
use Rattle.std.proofs.lemmas.List.{get_or-drop, get_or-take, length-drop, length-take}
use Rattle.sm_world.specs.Outside.{Outside}
use Rattle.checkpoint_records.specs.Books.{empty_book}
use Rattle.checkpoint_changes.specs.Amendments.{SlotDamaged}
use Rattle.checkpoint_records.specs.declared.records.Book.{Book}
use Rattle.checkpoint_slots.specs.declared.fault.StoreFault.{StoreFault}
use Rattle.checkpoint_slots.specs.declared.fault.StoreFault.TheVariants.{Damaged, DiskFault, NoMemory, Worn, WrongSize}
use Rattle.checkpoint_slots.specs.declared.layout.Slot.{Slot}
use Rattle.checkpoint_slots.specs.declared.turn.Current.{Current}
use Rattle.checkpoint_slots.specs.Layout.{slot_of, start_of}
use Rattle.checkpoint_slots.specs.Turns.{HasBook, HasCurrent, SteadyFile}
use Rattle.checkpoint_slots.specs.Recovery.{BookAt, LeadsTo, Recovers, SlotStands, StandsBy, length_of, may_be_length}
use Rattle.checkpoint_slots.specs.Causes.{Finds, IsBookFault, IsSettled, Looks, Never}
use Rattle.checkpoint_slots.proofs.Files.{recovers-by, slot-byte, slot-length}

-- no byte is in doubt after a look either
pub settled-by : {old new : Outside} (file : List ℕ) → new.first ≡ old.first → new.told ≡ old.told → IsSettled old file → IsSettled new file
settled-by file first told settled = record { began = settled.began; effects = settled.effects; first = first ∙ settled.first; told = told ∙ settled.told; size = settled.size; reads = settled.reads; left = settled.left }

pub settled-on : {old new : Outside} {failed : Bool} (file : List ℕ) → Looks old new failed → IsSettled old file → IsSettled new file
settled-on file looks settled = settled-by file looks.uses.first looks.told settled

-- a fault that is no damage, of one look or of all
pub no-damage : {A B : Type 0} (once outside : Outside) (P : List ℕ → A → Type 0) (Q : List ℕ → B → Type 0) (D : List ℕ → ℕ → Type 0) (fault : StoreFault) → ((file : List ℕ) → IsSettled outside file → IsSettled once file) → Finds {A = A} once P (λ file at. Never) (Err fault) → Finds {A = B} outside Q D (Err fault)
no-damage once outside P Q D (WrongSize size) goes f = f
no-damage once outside P Q D (Damaged at) goes f = λ file settled. absurd (f file (goes file settled))
no-damage once outside P Q D DiskFault goes f = tt
no-damage once outside P Q D Worn goes f = f
no-damage once outside P Q D NoMemory goes f = tt

-- bytes that aren't read
pub book-fault : {B : Type 0} (outside : Outside) (Q : List ℕ → B → Type 0) (D : List ℕ → ℕ → Type 0) (at : ℕ) (bytes : List ℕ) (n : ℕ) (fault : StoreFault) → IsBookFault at bytes n fault
    → ((file : List ℕ) → IsSettled outside file → (damage : ℕ) → SlotDamaged bytes n damage → D file (at + damage)) → Finds {A = B} outside Q D (Err fault)
book-fault outside Q D at bytes n (WrongSize size) is k = absurd is
book-fault outside Q D at bytes n (Damaged place) is k = λ file settled. subst (λ (x : ℕ). D file x) (sym is.2) (k file settled is.0 is.1)
book-fault outside Q D at bytes n DiskFault is k = absurd is
book-fault outside Q D at bytes n Worn is k = absurd is
book-fault outside Q D at bytes n NoMemory is k = tt

module _ (file : List ℕ) (slot : Slot) where
  pub bad-length : (n : ℕ) → n ≡ length_of (slot_of file slot) → (n % 8 ≢ 0) ⊎ ((n % 8 ≡ 0) × (8388584 < n)) → SlotStands (start_of slot) (slot_of file slot) (Err (start_of slot + 8))
  unfolding SlotStands
  bad-length n e bad =
      let may : may_be_length n ≡ false = grind (arith, bad) in
      subst (λ (k : ℕ). BookAt (may_be_length k) (start_of slot) k (drop 16 (slot_of file slot)) (Err (start_of slot + 8))) e
      (subst (λ (b : Bool). BookAt b (start_of slot) n (drop 16 (slot_of file slot)) (Err (start_of slot + 8))) (sym may) refl)

  -- what is read of a slot behind its head
  behind-by : (size : ℕ) → size + 16 ≡ 8388608 → take size (drop (start_of slot + 16) file) ≡ drop 16 (slot_of file slot)
  behind-by size e =
      let long : length (take size (drop (start_of slot + 16) file)) ≡ min size (length file - (start_of slot + 16)) = length-take size (drop (start_of slot + 16) file) ∙ ap (λ (k : ℕ). min size k) (length-drop (start_of slot + 16) file) in
      let other : length (drop 16 (slot_of file slot)) ≡ length (slot_of file slot) - 16 = length-drop 16 (slot_of file slot) in
      same_number_lists (take size (drop (start_of slot + 16) file)) (drop 16 (slot_of file slot)) (omega (arith, long, other, slot-length file slot, e)) (λ i within.
      let small : i < size = omega (arith, within, long) in
      let there : start_of slot + 16 + i ≡ start_of slot + (16 + i) = omega arith in
      get_or-take size (drop (start_of slot + 16) file) i 0 small ∙ get_or-drop (start_of slot + 16) file i 0 ∙ ap (λ (j : ℕ). slice_index file j) there ∙ sym (slot-byte file slot (16 + i) (omega (arith, small, e))) ∙ sym (get_or-drop 16 (slot_of file slot) i 0))

  module _ (at n : ℕ) (bytes : List ℕ) (place : at ≡ start_of slot + 16) (count : n ≡ length_of (slot_of file slot)) (read : bytes ≡ take 8388592 (drop at file)) where
    bytes-are : bytes ≡ drop 16 (slot_of file slot)
    bytes-are = read ∙ ap (λ (k : ℕ). take 8388592 (drop k file)) place ∙ behind-by 8388592 refl

    module _ (units : n % 8 ≡ 0) (fits : n ≤ 8388584) where
      may-be : may_be_length (length_of (slot_of file slot)) ≡ true
      may-be = let may : may_be_length n ≡ true = grind (arith, units, fits) in subst (λ (k : ℕ). may_be_length k ≡ true) count may

      -- a book that was read,
      pub has-read : (book : Book) (end : Option ℕ) → LeadsTo at bytes n book end → HasBook slot end book (slot_of file slot)
      has-read book end leads = record {
        may = may-be;
        leads = subst (λ (k : ℕ). LeadsTo (start_of slot + 16) (drop 16 (slot_of file slot)) k book end) count
            (subst (λ (xs : List ℕ). LeadsTo (start_of slot + 16) xs n book end) bytes-are
            (subst (λ (k : ℕ). LeadsTo k bytes n book end) place leads));
      }

      -- and its damage
      pub has-failed-read : (damage : ℕ) → SlotDamaged bytes n damage → SlotStands (start_of slot) (slot_of file slot) (Err (at + damage))
      unfolding SlotStands
      has-failed-read damage is =
          let there : SlotDamaged (drop 16 (slot_of file slot)) (length_of (slot_of file slot)) damage = subst (λ (k : ℕ). SlotDamaged (drop 16 (slot_of file slot)) k damage) count (subst (λ (xs : List ℕ). SlotDamaged xs n damage) bytes-are is) in
          subst (λ (b : Bool). BookAt b (start_of slot) (length_of (slot_of file slot)) (drop 16 (slot_of file slot)) (Err (at + damage))) (sym may-be)
          (Err damage, there, ap (λ (k : ℕ). Err (k + damage)) place)

-- what was made of the bytes of a slot
pub found-or-damaged : (outside : Outside) (slot : Slot) (at n : ℕ) (bytes : List ℕ) (result : Result (Book × Option ℕ) StoreFault) → IfOk result (λ found. LeadsTo at bytes n found.0 found.1) → IfErr result (IsBookFault at bytes n) → at ≡ start_of slot + 16 → n % 8 ≡ 0 → n ≤ 8388584
    → ((file : List ℕ) → IsSettled outside file → n ≡ length_of (slot_of file slot)) → ((file : List ℕ) → IsSettled outside file → bytes ≡ take 8388592 (drop at file))
    → Finds outside (λ file found. HasBook slot found.1 found.0 (slot_of file slot)) (λ file place. SlotStands (start_of slot) (slot_of file slot) (Err place)) result
found-or-damaged outside slot at n bytes (Ok found) ok err place units fits count read = λ file settled. has-read file slot at n bytes place (count file settled) (read file settled) units fits found.0 found.1 ok
found-or-damaged outside slot at n bytes (Err fault) ok err place units fits count read =
    book-fault {B = Book × Option ℕ} outside (λ file found. HasBook slot found.1 found.0 (slot_of file slot)) (λ file x. SlotStands (start_of slot) (slot_of file slot) (Err x)) at bytes n fault err
    (λ file settled damage is. has-failed-read file slot at n bytes place (count file settled) (read file settled) units fits damage is)

-- a slot that leads to a book stands for it
pub book-stands : (slot : Slot) (end : Option ℕ) (book : Book) (bytes : List ℕ) → HasBook slot end book bytes → SlotStands (start_of slot) bytes (Ok book)
unfolding SlotStands
book-stands slot end book bytes has =
    subst (λ (b : Bool). BookAt b (start_of slot) (length_of bytes) (drop 16 bytes) (Ok book)) (sym has.may) (Ok (book, has.leads.more), has.leads.leads, refl)

-- Files of a steady turn

pub steady-some : (file : List ℕ) (current : Current) (book : Book) → HasCurrent (Some current) file → HasBook current.slot current.end book (slot_of file current.slot) → SteadyFile (Some current) book file
steady-some file current book has there =
    record { recovers = recovers-by file (Ok (Some current.slot)) book has.0 (book-stands current.slot current.end book (slot_of file current.slot) there); chooses = has; ends = there }

pub steady-none : (file : List ℕ) (book : Book) → HasCurrent None file → book ≡ empty_book → SteadyFile None book file
steady-none file book has empty = record { recovers = recovers-by file (Ok None) book has (ap (λ (b : Book). Ok b) empty); chooses = has; ends = tt }

pub fails-some : (file : List ℕ) (current : Current) (at : ℕ) → HasCurrent (Some current) file → SlotStands (start_of current.slot) (slot_of file current.slot) (Err at) → Recovers file (Err at)
fails-some file current at has stands = subst (λ (x : Result (Option Slot) ℕ). StandsBy file x (Err at)) (sym has.0) stands
