-- A file stands for one book, and what recovery gave of a file goes on from there.
use Rattle.std.proofs.Common.{◌≡◌, ◌+◌, ◌<◌, ℕ, Bool, true, false, IsTrue, ◌==◌, List, [], drop, slice_index, ap, sym, subst, ◌∙◌, arith}
use Rattle.std.specs.Prelude.{None, Option, Result, Some, Ok, Err}
use Rattle.std.proofs.lemmas.Grind.{same_number_lists}
use Rattle.sm_world.specs.Crash.{Image}
use Rattle.checkpoint_changes.proofs.OnceLaws.{slot_reads_once}
use Rattle.checkpoint_records.specs.declared.records.Book.{Book}
use Rattle.checkpoint_slots.specs.declared.layout.Slot.{Slot}
use Rattle.checkpoint_slots.specs.Layout.{slot_of, start_of}
use Rattle.checkpoint_slots.specs.Laws.{FilesRecoverToOne, SettledStoresStand}
use Rattle.checkpoint_slots.specs.Recovery.{BookAt, SlotStands, StandsBy, chosen, length_of, may_be_length, placed}
use Rattle.checkpoint_slots.specs.Turns.{SteadyFile}

book-once : (b : Bool) (at n : ℕ) (bytes : List ℕ) (one two : Result Book ℕ) → BookAt b at n bytes one → BookAt b at n bytes two → one ≡ two
book-once false at n bytes one two p q = p ∙ sym q
book-once true at n bytes one two p q =
    p.2 ∙ ap (λ (inner : Result (Book × Option ℕ) ℕ). placed (at + 16) inner) (slot_reads_once bytes n p.0 q.0 p.1 q.1) ∙ sym q.2

slot-once : (at : ℕ) (slot : List ℕ) (one two : Result Book ℕ) → SlotStands at slot one → SlotStands at slot two → one ≡ two
unfolding SlotStands
slot-once at slot one two p q = book-once (may_be_length (length_of slot)) at (length_of slot) (drop 16 slot) one two p q

choice-once : (file : List ℕ) (choice : Result (Option Slot) ℕ) (one two : Result Book ℕ) → StandsBy file choice one → StandsBy file choice two → one ≡ two
choice-once file (Ok None) one two p q = p ∙ sym q
choice-once file (Ok (Some slot)) one two p q = slot-once (start_of slot) (slot_of file slot) one two p q
choice-once file (Err at) one two p q = p ∙ sym q

pub recovers-once : FilesRecoverToOne
recovers-once file one two p q = choice-once file (chosen file) one two p q

same-byte : (x y : ℕ) → IsTrue (x == y) → x ≡ y
same-byte x y e = grind (arith, e)

-- a crash before any effect leaves the file as it is
pub only-file : (first file : List ℕ) → Image first [] file → file ≡ first
only-file first file image = same_number_lists file first image.size (λ i within. same-byte (slice_index file i) (slice_index first i) (image.bytes i (subst (λ (n : ℕ). i < n) image.size within)))

pub settled-stands : SettledStoresStand
settled-stands current book file size steady = record {
  size = size;
  calm = λ i within byte read. read;
  images = λ other image. subst (λ (f : List ℕ). SteadyFile current book f) (sym (only-file file other image)) steady;
}
