-- Files of which a range behind the book of the current slot was written to.
use Rattle.std.proofs.Common.{◌≡◌, ◌+◌, ◌-◌, ◌<◌, ◌≤◌, ℕ, Bool, true, false, List, length, take, drop, slice_index, min, refl, ap, sym, subst, ◌∙◌, inl, inr, arith}
use Rattle.std.specs.Prelude.{None, Option, Some, option_map}
use Rattle.std.proofs.lemmas.Grind.{same_number_lists}
use Rattle.std.proofs.lemmas.List.{get_or-drop, get_or-take, length-drop, length-take}
use Rattle.sm_world.specs.Crash.{covers}
use Rattle.checkpoint_records.specs.declared.records.Book.{Book}
use Rattle.checkpoint_changes.specs.Amendments.{Amended, SlotLeads}
use Rattle.checkpoint_records.specs.declared.head.Format.TheVariants.{Several}
use Rattle.checkpoint_changes.specs.Changes.{IsChange, change_cells}
use Rattle.checkpoint_changes.specs.declared.changes.Change.{Change}
use Rattle.checkpoint_slots.specs.declared.layout.Slot.{Slot}
use Rattle.checkpoint_slots.specs.declared.layout.Slot.TheVariants.{First, Second}
use Rattle.checkpoint_slots.specs.declared.turn.Current.{Current}
use Rattle.checkpoint_slots.specs.Layout.{gate_at, is_gate_open, is_open, other, slot_of, start_of}
use Rattle.checkpoint_slots.specs.Recovery.{choose, chosen, generation_of, length_of, may_be_length}
use Rattle.checkpoint_slots.specs.Turns.{HasBook, HasCurrent, SteadyFile, advanced}
use Rattle.checkpoint_slots.proofs.Files.{IsApart, same-gate, same-slot, slot-byte, slot-length}
use Rattle.checkpoint_slots.proofs.Images.{Agree}
use Rattle.checkpoint_slots.proofs.Looking.{steady-some}
use Rattle.checkpoint_slots.proofs.Reading.{little-same}
use Rattle.checkpoint_journal.specs.Journal.{behind, size_of}
use Rattle.checkpoint_journal.proofs.Growing.{SameBelow, behind-size, leads-more, leads-still}

-- A range lies behind the head of a slot and within it.
pub record IsWithin (slot : Slot) (at n : ℕ) : Type 0 where
  pub after : start_of slot + 16 ≤ at
  pub before : at + n ≤ start_of slot + 8388608

gate-out : (slot gate : Slot) (at n : ℕ) → IsWithin slot at n → covers at n (gate_at gate) ≡ false
gate-out First First at n is = let a = is.after in grind (arith, a)
gate-out First Second at n is = let a = is.after in grind (arith, a)
gate-out Second First at n is = let a = is.after in grind (arith, a)
gate-out Second Second at n is = let a = is.after in grind (arith, a)

head-out : (slot : Slot) (at n i : ℕ) → IsWithin slot at n → i < 16 → covers at n (start_of slot + i) ≡ false
head-out First at n i is small = let a = is.after in grind (arith, a, small)
head-out Second at n i is small = let a = is.after in grind (arith, a, small)

other-apart : (slot : Slot) (at n : ℕ) → IsWithin slot at n → IsApart at n (other slot)
other-apart First at n is = let b = is.before in inl (omega (arith, b))
other-apart Second at n is = let a = is.after in inr (omega (arith, a))

pub slot-fits : (slot : Slot) → start_of slot + 8388608 ≤ 16777280
slot-fits First = omega arith
slot-fits Second = omega arith

-- what a steady file has where amendments may stand behind its book
record Reaches (slot : Slot) (end : ℕ) (book : Book) (bytes : List ℕ) : Type 0 where
  may : may_be_length (length_of bytes) ≡ true
  more : ℕ
  leads : SlotLeads (drop 16 bytes) (length_of bytes) book (Some more)
  place : end ≡ start_of slot + 16 + length_of bytes + more

reaches : (slot : Slot) (end : ℕ) (book : Book) (bytes : List ℕ) → HasBook slot (Some end) book bytes → Reaches slot end book bytes
reaches slot end book bytes has = by has.leads.more has.leads.leads has.leads.ends where
  by : (more : Option ℕ) → SlotLeads (drop 16 bytes) (length_of bytes) book more → Some end ≡ option_map (λ k. start_of slot + 16 + length_of bytes + k) more → Reaches slot end book bytes
  by None leads e = absurd cc
  by (Some more) leads e = record { may = has.may; more = more; leads = leads; place = grind (arith, e) }

has-end : (slot : Slot) (end : ℕ) (book : Book) (bytes : List ℕ) → Reaches slot end book bytes → HasBook slot (Some end) book bytes
has-end slot end book bytes is = record { may = is.may; leads = record { more = Some is.more; leads = is.leads; ends = ap (λ (k : ℕ). Some k) is.place } }

module _ (slot : Slot) (at n : ℕ) (one two : List ℕ) (agree : Agree at n one two) (size : length two ≡ 16777280) (is : IsWithin slot at n) where
  -- a byte of the slot that the range leaves
  byte-same : (i : ℕ) → i < 8388608 → covers at n (start_of slot + i) ≡ false → slice_index (slot_of one slot) i ≡ slice_index (slot_of two slot) i
  byte-same i small outside =
      let room = slot-fits slot in
      slot-byte one slot i small ∙ agree.bytes (start_of slot + i) (omega (arith, small, room, size)) outside ∙ sym (slot-byte two slot i small)

  head-same : (i : ℕ) → i < 16 → slice_index (slot_of one slot) i ≡ slice_index (slot_of two slot) i
  head-same i small = byte-same i (omega (arith, small)) (head-out slot at n i is small)

  generation-same : generation_of (slot_of one slot) ≡ generation_of (slot_of two slot)
  unfolding generation_of
  generation-same = little-same 0 8 (slot_of one slot) (slot_of two slot) (λ i within. head-same i (omega (arith, within)))

  length-same : length_of (slot_of one slot) ≡ length_of (slot_of two slot)
  unfolding length_of
  length-same = little-same 0 4 (drop 8 (slot_of one slot)) (drop 8 (slot_of two slot)) (λ i within.
      get_or-drop 8 (slot_of one slot) i 0 ∙ head-same (8 + i) (omega (arith, within)) ∙ sym (get_or-drop 8 (slot_of two slot) i 0))

  sizes-same : length (drop 16 (slot_of one slot)) ≡ length (drop 16 (slot_of two slot))
  sizes-same = length-drop 16 (slot_of one slot) ∙ ap (λ (k : ℕ). k - 16) (slot-length one slot ∙ ap (λ (k : ℕ). min 8388608 (k - start_of slot)) agree.size ∙ sym (slot-length two slot)) ∙ sym (length-drop 16 (slot_of two slot))

  -- the same slot is chosen
  chosen-same : chosen one ≡ chosen two
  chosen-same = by slot generation-same (ap generation_of (same-slot at n one two agree (other slot) (other-apart slot at n is))) where
    opens : (gate : Slot) → is_open one gate ≡ is_open two gate
    opens gate = ap is_gate_open (same-gate at n one two agree size gate (gate-out slot gate at n is))

    all : generation_of (slot_of one First) ≡ generation_of (slot_of two First) → generation_of (slot_of one Second) ≡ generation_of (slot_of two Second) → chosen one ≡ chosen two
    all first second =
        ap (λ (b : Bool). choose b (is_open one Second) (generation_of (slot_of one First)) (generation_of (slot_of one Second))) (opens First)
        ∙ ap (λ (b : Bool). choose (is_open two First) b (generation_of (slot_of one First)) (generation_of (slot_of one Second))) (opens Second)
        ∙ ap (λ (g : ℕ). choose (is_open two First) (is_open two Second) g (generation_of (slot_of one Second))) first
        ∙ ap (λ (g : ℕ). choose (is_open two First) (is_open two Second) (generation_of (slot_of two First)) g) second

    by : (here : Slot) → generation_of (slot_of one here) ≡ generation_of (slot_of two here) → generation_of (slot_of one (other here)) ≡ generation_of (slot_of two (other here)) → chosen one ≡ chosen two
    by First mine theirs = all mine theirs
    by Second mine theirs = all theirs mine

  current-same : (current : Current) → current.slot ≡ slot → HasCurrent (Some current) one → HasCurrent (Some current) two
  current-same current e has = (sym chosen-same ∙ has.0, subst (λ (s : Slot). generation_of (slot_of two s) ≡ current.generation) (sym e) (sym generation-same ∙ subst (λ (s : Slot). generation_of (slot_of one s) ≡ current.generation) e has.1))

  -- the bytes behind the head
  body-same : (i : ℕ) → 16 + i < 8388608 → covers at n (start_of slot + 16 + i) ≡ false → slice_index (drop 16 (slot_of one slot)) i ≡ slice_index (drop 16 (slot_of two slot)) i
  body-same i small outside =
      let there : start_of slot + 16 + i ≡ start_of slot + (16 + i) = omega arith in
      get_or-drop 16 (slot_of one slot) i 0 ∙ byte-same (16 + i) small (subst (λ (k : ℕ). covers at n k ≡ false) there outside) ∙ sym (get_or-drop 16 (slot_of two slot) i 0)

-- an index that the range doesn't hold
before-range : (at n i : ℕ) → i < at → covers at n i ≡ false
before-range at n i less = grind (arith, less)

after-range : (at n i : ℕ) → at + n ≤ i → covers at n i ≡ false
after-range at n i more = grind (arith, more)

slot-begins : (slot : Slot) → 64 ≤ start_of slot
slot-begins First = omega arith
slot-begins Second = omega arith

module _ (current : Current) (end : ℕ) (ends : current.end ≡ Some end) (book : Book) (one two : List ℕ) (size : length two ≡ 16777280) (steady : SteadyFile (Some current) book one) where
  there : Reaches current.slot end book (slot_of one current.slot)
  there = reaches current.slot end book (slot_of one current.slot) (subst (λ (e : Option ℕ). HasBook current.slot e book (slot_of one current.slot)) ends steady.ends)

  -- The bytes behind the last gate were written to, that gate not among them.
  pub behind-file : (n : ℕ) → end + 1 + n ≤ start_of current.slot + 8388608 → Agree (end + 1) n one two → SteadyFile (Some current) book two
  behind-file n fits agree =
      let slot : Slot = current.slot in
      let place = there.place in
      let is : IsWithin slot (end + 1) n = record { after = omega (arith, place); before = fits } in
      let count : length_of (slot_of one slot) ≡ length_of (slot_of two slot) = length-same slot (end + 1) n one two agree size is in
      let same : SameBelow (length_of (slot_of one slot) + there.more + 1) (drop 16 (slot_of one slot)) (drop 16 (slot_of two slot)) = λ i within.
      body-same slot (end + 1) n one two agree size is i (omega (arith, within, place, fits)) (before-range (end + 1) n (start_of slot + 16 + i) (omega (arith, within, place))) in
      let leads : SlotLeads (drop 16 (slot_of two slot)) (length_of (slot_of one slot)) book (Some there.more) = leads-still (drop 16 (slot_of one slot)) (drop 16 (slot_of two slot)) (length_of (slot_of one slot)) book there.more (sizes-same slot (end + 1) n one two agree size is) same there.leads in
      let now : Reaches slot end book (slot_of two slot) = record {
        may = ap may_be_length (sym count) ∙ there.may;
        more = there.more;
        leads = subst (λ (k : ℕ). SlotLeads (drop 16 (slot_of two slot)) k book (Some there.more)) count leads;
        place = place ∙ ap (λ (k : ℕ). start_of slot + 16 + k + there.more) count;
      } in
      steady-some two current book (current-same slot (end + 1) n one two agree size is current refl steady.chooses) (subst (λ (e : Option ℕ). HasBook slot e book (slot_of two slot)) (sym ends) (has-end slot end book (slot_of two slot) now))

  -- The gate was opened before an amendment.
  module _ (delta : List Change) (next : Book) (amended : Amended (change_cells Several) (IsChange Several) book delta next) (room : end + 8 + size_of delta < start_of current.slot + 8388608)
      (tail : take (length (behind delta)) (drop (end + 1) one) ≡ behind delta) (agree : Agree end 1 one two) (gate : slice_index two end ≡ 165) where
    is-within : IsWithin current.slot end 1
    is-within = let place = there.place in record { after = omega (arith, place); before = omega (arith, room) }

    tail-there : take (length (behind delta)) (drop (length_of (slot_of one current.slot) + there.more + 1) (drop 16 (slot_of two current.slot))) ≡ behind delta
    tail-there =
        let slot : Slot = current.slot in
        let place = there.place in
        let fits = slot-fits slot in
        let long = length-take (length (behind delta)) (drop (length_of (slot_of one slot) + there.more + 1) (drop 16 (slot_of two slot))) in
        let deep = length-drop (length_of (slot_of one slot) + there.more + 1) (drop 16 (slot_of two slot)) in
        let deeper = length-drop 16 (slot_of two slot) in
        same_number_lists (take (length (behind delta)) (drop (length_of (slot_of one slot) + there.more + 1) (drop 16 (slot_of two slot)))) (behind delta)
        (omega (arith, long, deep, deeper, slot-length two slot, size, fits, place, room, behind-size delta)) (λ i within.
        let small : i < length (behind delta) = omega (arith, within, long) in
        let inside : 16 + (length_of (slot_of one slot) + there.more + 1 + i) < 8388608 = omega (arith, small, place, room, behind-size delta) in
        let at-file : start_of slot + (16 + (length_of (slot_of one slot) + there.more + 1 + i)) ≡ end + 1 + i = omega (arith, place) in
        let here : end + 1 + i < length two = omega (arith, at-file, inside, fits, size) in
        get_or-take (length (behind delta)) (drop (length_of (slot_of one slot) + there.more + 1) (drop 16 (slot_of two slot))) i 0 small
        ∙ get_or-drop (length_of (slot_of one slot) + there.more + 1) (drop 16 (slot_of two slot)) i 0
        ∙ get_or-drop 16 (slot_of two slot) (length_of (slot_of one slot) + there.more + 1 + i) 0
        ∙ slot-byte two slot (16 + (length_of (slot_of one slot) + there.more + 1 + i)) inside
        ∙ ap (λ (k : ℕ). slice_index two k) at-file
        ∙ sym (agree.bytes (end + 1 + i) here (after-range end 1 (end + 1 + i) (omega arith)))
        ∙ sym (get_or-drop (end + 1) one i 0)
        ∙ sym (get_or-take (length (behind delta)) (drop (end + 1) one) i 0 small)
        ∙ ap (λ (xs : List ℕ). slice_index xs i) tail)

    gate-there : slice_index (drop 16 (slot_of two current.slot)) (length_of (slot_of one current.slot) + there.more) ≡ 165
    gate-there =
        let slot : Slot = current.slot in
        let place = there.place in
        let at-file : start_of slot + (16 + (length_of (slot_of one slot) + there.more)) ≡ end = omega (arith, place) in
        get_or-drop 16 (slot_of two slot) (length_of (slot_of one slot) + there.more) 0 ∙ slot-byte two slot (16 + (length_of (slot_of one slot) + there.more)) (omega (arith, at-file, room)) ∙ ap (λ (k : ℕ). slice_index two k) at-file ∙ gate

    pub gate-file : SteadyFile (advanced (Some current) (size_of delta)) next two
    gate-file =
        let slot : Slot = current.slot in
        let place = there.place in
        let fits = slot-fits slot in
        let count : length_of (slot_of one slot) ≡ length_of (slot_of two slot) = length-same slot end 1 one two agree size is-within in
        let same : SameBelow (length_of (slot_of one slot) + there.more) (drop 16 (slot_of one slot)) (drop 16 (slot_of two slot)) = λ i within.
        body-same slot end 1 one two agree size is-within i (omega (arith, within, place, room)) (before-range end 1 (start_of slot + 16 + i) (omega (arith, within, place))) in
        let long : length_of (slot_of one slot) + there.more < length (drop 16 (slot_of two slot)) = omega (arith, length-drop 16 (slot_of two slot), slot-length two slot, size, fits, place, room) in
        let leads : SlotLeads (drop 16 (slot_of two slot)) (length_of (slot_of one slot)) next (Some (there.more + (8 + size_of delta))) =
        leads-more (drop 16 (slot_of one slot)) (drop 16 (slot_of two slot)) (length_of (slot_of one slot)) book there.more delta next (sizes-same slot end 1 one two agree size is-within) same long gate-there tail-there there.leads amended in
        let now : Reaches slot (end + 8 + size_of delta) next (slot_of two slot) = record {
          may = ap may_be_length (sym count) ∙ there.may;
          more = there.more + (8 + size_of delta);
          leads = subst (λ (k : ℕ). SlotLeads (drop 16 (slot_of two slot)) k next (Some (there.more + (8 + size_of delta)))) count leads;
          place = omega (arith, place, count);
        } in
        let moved : Current = record { slot = current.slot; generation = current.generation; end = option_map (λ e. e + 8 + size_of delta) current.end } in
        steady-some two moved next (current-same slot end 1 one two agree size is-within current refl steady.chooses)
        (subst (λ (e : Option ℕ). HasBook slot (option_map (λ k. k + 8 + size_of delta) e) next (slot_of two slot)) (sym ends) (has-end slot (end + 8 + size_of delta) next (slot_of two slot) now))
