-- What is answered of a slot.
use Rattle.std.proofs.Common.{◌≡◌, ℕ, List, take, drop, Option, sym, ap, ◌∙◌}
use Rattle.std.specs.Prelude.{Result, Ok, Err}
use Rattle.checkpoint_records.specs.Damage.{Gives, IsRefused}
use Rattle.checkpoint_records.specs.Spelling.{Spells}
use Rattle.checkpoint_records.specs.declared.records.Book.{Book}
use Rattle.checkpoint_records.specs.declared.refusals.BookRefusal.{BookRefusal}
use Rattle.checkpoint_records.specs.declared.refusals.BookRefusal.TheVariants.{Damaged, NoMemory}
use Rattle.checkpoint_changes.specs.Amendments.{told_length, IsSlotRefused, ReadsOn, SlotReads}
use Rattle.checkpoint_records.specs.declared.head.Format.{Format}
use Rattle.checkpoint_changes.specs.Changes.{IsChange, change_cells}
use Rattle.checkpoint_changes.proofs.OnceLaws.{slot_reads_once}
use Rattle.checkpoint_changes.proofs.ReadLaws.{front_damaged, slot_leads}

abbrev pub Answer : Type 0
Answer = Result (Book × Option ℕ) ℕ

abbrev read_to : Book → Option ℕ → Answer
read_to book told = Ok (book, told)

pub exact_refusal : (bytes : List ℕ) (n : ℕ) (refusal : BookRefusal) → IsSlotRefused bytes n refusal → (answer : Answer) → SlotReads bytes n answer → Gives (Err refusal) answer
exact_refusal bytes n (Damaged at) cause answer reads = slot_reads_once bytes n answer (Err at) reads cause
exact_refusal bytes n NoMemory cause answer reads = tt

module _ (bytes : List ℕ) (n : ℕ) (front behind : List ℕ) (is_front : front ≡ take n bytes) (is_behind : behind ≡ drop n bytes) where
  pub front_refused : (refusal : BookRefusal) → IsRefused front refusal → IsSlotRefused bytes n refusal
  front_refused (Damaged at) cause = front_damaged bytes n front behind is_front is_behind at cause
  front_refused NoMemory cause = tt

  pub exact_book : (format : Format) (first book : Book) (more : ℕ) → Spells format front first → ReadsOn (change_cells format) (IsChange format) first behind book more → (told : Option ℕ) → told ≡ told_length format more → (answer : Answer) → SlotReads bytes n answer → answer ≡ read_to book told
  exact_book format first book more spells read told is answer reads =
      slot_reads_once bytes n answer (Ok (book, told_length format more)) reads (slot_leads bytes n front behind is_front is_behind format first book more spells read) ∙ ap (read_to book) (sym is)
