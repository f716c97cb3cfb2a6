-- The file whose filled slot was opened.
use Rattle.std.proofs.Common.{◌≡◌, ◌+◌, ◌-◌, ℕ, true, false, nat_lt, List, length, take, slice_index, refl, ap, sym, ◌∙◌, arith}
use Rattle.std.specs.Prelude.{Option, Some, None, Ok}
use Rattle.checkpoint_records.specs.declared.records.Book.{Book}
use Rattle.checkpoint_slots.specs.declared.layout.Slot.{Slot}
use Rattle.checkpoint_slots.specs.declared.layout.Slot.TheVariants.{First, Second}
use Rattle.checkpoint_slots.specs.declared.turn.Current.{Current}
use Rattle.checkpoint_slots.specs.Layout.{gate_at, is_gate_open, is_open, other, slot_of, start_of}
use Rattle.checkpoint_slots.specs.Recovery.{chosen, generation_of, slot_bytes}
use Rattle.checkpoint_slots.specs.Turns.{FilledFile, HasBook, IsNext, SteadyFile, following, next_generation, target}
use Rattle.checkpoint_slots.proofs.Images.{Agree}
use Rattle.checkpoint_slots.proofs.Files.{chosen-beside, chosen-open, gate-apart, none-open, same-open, same-slot}
use Rattle.checkpoint_slots.proofs.Bodies.{has-book, has-generation}
use Rattle.checkpoint_slots.proofs.Looking.{steady-some}
use Rattle.checkpoint_slots.proofs.Room.{book-room}
use Rattle.sm_world.specs.Crash.{covers}

beside-gate : (slot : Slot) → covers (gate_at (other slot)) 1 (gate_at slot) ≡ false
beside-gate First = refl
beside-gate Second = refl

less-one : (n : ℕ) → nat_lt n (n + 1) ≡ true
less-one n = grind arith

not-less : (n : ℕ) → nat_lt (n + 1) n ≡ false
not-less n = grind arith

-- of two open slots the other one is chosen where its generation is one more
choose-other : (slot : Slot) (file : List ℕ) (n : ℕ) → is_open file slot ≡ true → is_open file (other slot) ≡ true → generation_of (slot_of file slot) ≡ n → generation_of (slot_of file (other slot)) ≡ n + 1 → chosen file ≡ Ok (Some (other slot))
choose-other First file n here there old new = rw (here, there, old, new, less-one n) refl
choose-other Second file n here there old new = rw (here, there, old, new, not-less n, less-one n) refl

module _ (next : Book) (one two : List ℕ) (size : length two ≡ 16777280) where
  -- the next book is chosen
  chosen-next : (current : Option Current) (book : Book) → Agree (gate_at (target current)) 1 one two → is_open two (target current) ≡ true → FilledFile current book next one → generation_of (slot_of two (target current)) ≡ next_generation current → chosen two ≡ Ok (Some (target current))
  chosen-next None book agree opened filled new =
      let gates = none-open (is_open one First) (is_open one Second) _ _ filled.closed.steady.chooses in
      chosen-beside two First opened (sym (same-open 0 1 one two agree size Second refl) ∙ gates.1)
  chosen-next (Some current) book agree opened filled new =
      let steady = filled.closed.steady in
      let at : ℕ = gate_at (other current.slot) in
      let here : is_open two current.slot ≡ true = sym (same-open at 1 one two agree size current.slot (beside-gate current.slot)) ∙ chosen-open one current.slot steady.chooses.0 in
      let old : generation_of (slot_of two current.slot) ≡ current.generation = ap generation_of (sym (same-slot at 1 one two agree current.slot (gate-apart (other current.slot) current.slot))) ∙ steady.chooses.1 in
      choose-other current.slot two current.generation here opened old new

  pub lift-file : (current : Option Current) (book : Book) → IsNext current next → Agree (gate_at (target current)) 1 one two → slice_index two (gate_at (target current)) ≡ 165 → FilledFile current book next one
      → SteadyFile (Some (following current (length (slot_bytes (next_generation current) next)))) next two
  lift-file current book is agree gate filled =
      let slots : slot_of one (target current) ≡ slot_of two (target current) = same-slot (gate_at (target current)) 1 one two agree (target current) (gate-apart (target current) (target current)) in
      let body : List ℕ = slot_bytes (next_generation current) next in
      let begins : take (length body) (slot_of two (target current)) ≡ body = ap (λ (slot : List ℕ). take (length body) slot) (sym slots) ∙ filled.begins in
      let new : generation_of (slot_of two (target current)) ≡ next_generation current = has-generation (next_generation current) next (slot_of two (target current)) begins is.generation in
      let choice : chosen two ≡ Ok (Some (target current)) = chosen-next current book agree (ap is_gate_open gate) filled new in
      let there : HasBook (target current) (Some (start_of (target current) + (length body - 8))) next (slot_of two (target current)) = has-book (next_generation current) next (slot_of two (target current)) begins (target current) (book-room next is.rules) is.rules is.chosen is.epoch in
      steady-some two (following current (length body)) next (choice, new) there
