-- Two files that are the same but for a range: what recovery makes of the one by what it makes of the other.
use Rattle.std.proofs.Common.{◌≡◌, ◌+◌, ◌-◌, ◌<◌, ◌≤◌, ◌⊎◌, ℕ, Bool, true, false, nat_lt, if◌then◌else◌, List, length, drop, slice_index, min, refl, ap, sym, subst, ◌∙◌, inl, inr, arith}
use Rattle.std.specs.Prelude.{Option, Some, None, Result, Ok, Err}
use Rattle.std.proofs.lemmas.Grind.{same_number_lists}
use Rattle.std.proofs.lemmas.List.{get_or-drop, get_or-take, length-drop, length-take}
use Rattle.sm_world.specs.Crash.{covers}
use Rattle.checkpoint_records.specs.declared.records.Book.{Book}
use Rattle.checkpoint_slots.specs.declared.layout.Slot.{Slot}
use Rattle.checkpoint_slots.specs.declared.layout.Slot.TheVariants.{First, Second}
use Rattle.checkpoint_slots.specs.declared.turn.Current.{Current}
use Rattle.checkpoint_slots.specs.Layout.{gate_at, is_gate_open, is_open, other, slot_of, start_of}
use Rattle.checkpoint_slots.specs.Recovery.{Recovers, SlotStands, StandsBy, choose, chosen, generation_of}
use Rattle.checkpoint_slots.specs.Turns.{ClosedFile, HasBook, SteadyFile, target}
use Rattle.checkpoint_slots.proofs.Images.{Agree}

-- the parts of a file that a range leaves

-- a range lies apart from a slot
abbrev pub IsApart : ℕ → ℕ → Slot → Type 0
IsApart at n slot = (at + n ≤ start_of slot) ⊎ (start_of slot + 8388608 ≤ at)

apart-outside : (at n i : ℕ) (slot : Slot) → IsApart at n slot → i < 8388608 → covers at n (start_of slot + i) ≡ false
apart-outside at n i First (inl before) within = grind (arith, before, within)
apart-outside at n i First (inr behind) within = grind (arith, behind, within)
apart-outside at n i Second (inl before) within = grind (arith, before, within)
apart-outside at n i Second (inr behind) within = grind (arith, behind, within)

pub slot-length : (file : List ℕ) (slot : Slot) → length (slot_of file slot) ≡ min 8388608 (length file - start_of slot)
unfolding slot_of
slot-length file slot = length-take 8388608 (drop (start_of slot) file) ∙ ap (λ (n : ℕ). min 8388608 n) (length-drop (start_of slot) file)

pub slot-byte : (file : List ℕ) (slot : Slot) (i : ℕ) → i < 8388608 → slice_index (slot_of file slot) i ≡ slice_index file (start_of slot + i)
unfolding slot_of
slot-byte file slot i within = get_or-take 8388608 (drop (start_of slot) file) i 0 within ∙ get_or-drop (start_of slot) file i 0

pub slot-short : (file : List ℕ) (slot : Slot) → length (slot_of file slot) ≤ 8388608
slot-short file slot = omega (arith, slot-length file slot)

slot-within : (file : List ℕ) (slot : Slot) (i : ℕ) → i < length (slot_of file slot) → start_of slot + i < length file
slot-within file slot i within = omega (arith, slot-length file slot, within)

module _ (at n : ℕ) (one two : List ℕ) (agree : Agree at n one two) where
  pub same-slot : (slot : Slot) → IsApart at n slot → slot_of one slot ≡ slot_of two slot
  same-slot slot apart = same_number_lists (slot_of one slot) (slot_of two slot)
      (slot-length one slot ∙ ap (λ (k : ℕ). min 8388608 (k - start_of slot)) agree.size ∙ sym (slot-length two slot))
      (λ i within.
      let short : i < 8388608 = omega (arith, within, slot-short one slot) in
      let inside : start_of slot + i < length two = subst (λ (k : ℕ). start_of slot + i < k) agree.size (slot-within one slot i within) in
      slot-byte one slot i short ∙ agree.bytes (start_of slot + i) inside (apart-outside at n i slot apart short) ∙ sym (slot-byte two slot i short))

  pub same-gate : length two ≡ 16777280 → (slot : Slot) → covers at n (gate_at slot) ≡ false → slice_index one (gate_at slot) ≡ slice_index two (gate_at slot)
  same-gate size First outside = agree.bytes 0 (omega (arith, size)) outside
  same-gate size Second outside = agree.bytes 32 (omega (arith, size)) outside

-- what is chosen depends on the gates and, where both are open, on the generations

other-is : (slot : Slot) → ℕ
other-is slot = gate_at (other slot)

-- the gate of the slot that isn't current is closed, and the current one's is open or there is none
abbrev pub IsClosedBeside : Option Current → List ℕ → Type 0
IsClosedBeside None file = (is_open file First ≡ false) × (is_open file Second ≡ false)
IsClosedBeside (Some current) file = (is_open file current.slot ≡ true) × (is_open file (other current.slot) ≡ false)

chosen-none : (file : List ℕ) → is_open file First ≡ false → is_open file Second ≡ false → chosen file ≡ Ok None
chosen-none file first second = rw (first, second) refl

pub chosen-beside : (file : List ℕ) (slot : Slot) → is_open file slot ≡ true → is_open file (other slot) ≡ false → chosen file ≡ Ok (Some slot)
chosen-beside file First here there = rw (here, there) refl
chosen-beside file Second here there = rw (here, there) refl

-- where a slot is chosen its gate is open, and where none is, no gate is
abbrev none-chosen : Result (Option Slot) ℕ
none-chosen = Ok None

pub none-open : (first second : Bool) (a b : ℕ) → choose first second a b ≡ Ok None → (first ≡ false) × (second ≡ false)
none-open false false a b e = (refl, refl)
none-open true false a b e = absurd (grind (arith, e))
none-open false true a b e = absurd (grind (arith, e))
none-open true true a b e = absurd (both (nat_lt a b) (nat_lt b a) e) where
  both : (x y : Bool) → (if x then Ok (Some Second) else (if y then Ok (Some First) else Err 64)) ≡ none-chosen → ⊥
  both true y e = grind (arith, e)
  both false true e = grind (arith, e)
  both false false e = grind (arith, e)

open-first : (first second : Bool) (a b : ℕ) → choose first second a b ≡ Ok (Some First) → first ≡ true
open-first true second a b e = refl
open-first false true a b e = absurd (grind (arith, e))
open-first false false a b e = absurd (grind (arith, e))

open-second : (first second : Bool) (a b : ℕ) → choose first second a b ≡ Ok (Some Second) → second ≡ true
open-second first true a b e = refl
open-second true false a b e = absurd (grind (arith, e))
open-second false false a b e = absurd (grind (arith, e))

pub chosen-open : (file : List ℕ) (slot : Slot) → chosen file ≡ Ok (Some slot) → is_open file slot ≡ true
chosen-open file First e = open-first _ _ _ _ e
chosen-open file Second e = open-second _ _ _ _ e

-- Files of a turn

-- a range leaves what is current: its slot and its gate, and the second gate where nothing is
abbrev pub Leaves : Option Current → ℕ → ℕ → Type 0
Leaves None at n = covers at n (gate_at Second) ≡ false
Leaves (Some current) at n = IsApart at n current.slot × covers at n (gate_at current.slot) ≡ false

stands-by : (file : List ℕ) (choice : Result (Option Slot) ℕ) (book : Book) → chosen file ≡ choice → Recovers file (Ok book) → StandsBy file choice (Ok book)
stands-by file choice book e r = subst (λ (x : Result (Option Slot) ℕ). StandsBy file x (Ok book)) e r

pub recovers-by : (file : List ℕ) (choice : Result (Option Slot) ℕ) (book : Book) → chosen file ≡ choice → StandsBy file choice (Ok book) → Recovers file (Ok book)
recovers-by file choice book e r = subst (λ (x : Result (Option Slot) ℕ). StandsBy file x (Ok book)) (sym e) r

module _ (at n : ℕ) (one two : List ℕ) (agree : Agree at n one two) (size : length two ≡ 16777280) where
  pub same-open : (slot : Slot) → covers at n (gate_at slot) ≡ false → is_open one slot ≡ is_open two slot
  same-open slot outside = ap is_gate_open (same-gate at n one two agree size slot outside)

  -- What is current stays so where the range leaves it and the other gate is closed afterwards.
  pub kept-file : (current : Option Current) (book : Book) → Leaves current at n → SteadyFile current book one → is_open two (target current) ≡ false → SteadyFile current book two
  kept-file None book leaves steady closed =
      let gates = none-open (is_open one First) (is_open one Second) _ _ steady.chooses in
      let none : chosen two ≡ Ok None = chosen-none two closed (sym (same-open Second leaves) ∙ gates.1) in
      record { recovers = recovers-by two (Ok None) book none (stands-by one (Ok None) book steady.chooses steady.recovers); chooses = none; ends = tt }
  kept-file (Some current) book leaves steady closed =
      let slots : slot_of one current.slot ≡ slot_of two current.slot = same-slot at n one two agree current.slot leaves.0 in
      let open-now : is_open two current.slot ≡ true = sym (same-open current.slot leaves.1) ∙ chosen-open one current.slot steady.chooses.0 in
      let choice : chosen two ≡ Ok (Some current.slot) = chosen-beside two current.slot open-now closed in
      record {
        recovers = recovers-by two (Ok (Some current.slot)) book choice (subst (λ (slot : List ℕ). SlotStands (start_of current.slot) slot (Ok book)) slots (stands-by one (Ok (Some current.slot)) book steady.chooses.0 steady.recovers));
        chooses = (choice, ap generation_of (sym slots) ∙ steady.chooses.1);
        ends = subst (λ (slot : List ℕ). HasBook current.slot current.end book slot) slots steady.ends;
      }

-- a gate lies apart from every slot, and from the other gate
pub gate-apart : (slot here : Slot) → IsApart (gate_at slot) 1 here
gate-apart First First = inl (omega arith)
gate-apart First Second = inl (omega arith)
gate-apart Second First = inl (omega arith)
gate-apart Second Second = inl (omega arith)

gate-leaves : (current : Option Current) → Leaves current (gate_at (target current)) 1
gate-leaves None = refl
gate-leaves (Some current) = (gate-apart (other current.slot) current.slot, beside current.slot) where
  beside : (slot : Slot) → covers (gate_at (other slot)) 1 (gate_at slot) ≡ false
  beside First = refl
  beside Second = refl

slot-leaves : (current : Option Current) (n : ℕ) → n ≤ 8388608 → Leaves current (start_of (target current)) n
slot-leaves None n short = grind (arith, short)
slot-leaves (Some current) n short = (beside current.slot, gates current.slot) where
  beside : (slot : Slot) → IsApart (start_of (other slot)) n slot
  beside First = inr (omega arith)
  beside Second = inl (omega (arith, short))

  gates : (slot : Slot) → covers (start_of (other slot)) n (gate_at slot) ≡ false
  gates First = grind arith
  gates Second = grind arith

closed-by : (file : List ℕ) (slot : Slot) → slice_index file (gate_at slot) ≡ 0 → is_open file slot ≡ false
closed-by file slot e = ap is_gate_open e

-- the other gate was closed
pub close-file : (current : Option Current) (book : Book) (one two : List ℕ) → Agree (gate_at (target current)) 1 one two → length two ≡ 16777280 → slice_index two (gate_at (target current)) ≡ 0 → SteadyFile current book one → ClosedFile current book two
close-file current book one two agree size zero steady =
    record { steady = kept-file (gate_at (target current)) 1 one two agree size current book (gate-leaves current) steady (closed-by two (target current) zero); gate = zero }

slot-gate : (n : ℕ) (slot : Slot) → n ≤ 8388608 → covers (start_of slot) n (gate_at slot) ≡ false
slot-gate n First short = grind arith
slot-gate n Second short = grind arith

-- the other slot was written to, as far as that may have come
pub fill-file : (current : Option Current) (book : Book) (n : ℕ) (one two : List ℕ) → n ≤ 8388608 → Agree (start_of (target current)) n one two → length two ≡ 16777280 → ClosedFile current book one → ClosedFile current book two
fill-file current book n one two short agree size closed =
    let zero : slice_index two (gate_at (target current)) ≡ 0 = sym (same-gate (start_of (target current)) n one two agree size (target current) (slot-gate n (target current) short)) ∙ closed.gate in
    record { steady = kept-file (start_of (target current)) n one two agree size current book (slot-leaves current n short) closed.steady (closed-by two (target current) zero); gate = zero }
