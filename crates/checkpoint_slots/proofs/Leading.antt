-- A book that the bytes of a slot lead to keeps the rules, and damage lies within the bytes.
use Rattle.std.proofs.Common.{◌≡◌, ◌+◌, ◌≤◌, ℕ, Bool, true, false, List, [], ◌∷◌, length, take, drop, sym, subst, ◌∙◌, ap, inl, inr, arith}
use Rattle.std.specs.Prelude.{IfOk, None, Option, Result, Some, Ok, Err}
use Rattle.std.proofs.lemmas.List.{length-append, length-drop, length-take-le}
use Rattle.checkpoint_records.specs.Books.{default_name, empty_book}
use Rattle.checkpoint_records.specs.Damage.{IsDamaged}
use Rattle.checkpoint_records.specs.Rules.{KeepsRules}
use Rattle.checkpoint_records.proofs.ChoiceLaws.{empty_rules}
use Rattle.checkpoint_records.specs.declared.head.Format.{Format}
use Rattle.checkpoint_records.specs.declared.records.Book.{Book}
use Rattle.checkpoint_changes.specs.Amendments.{Amends, SlotDamaged, SlotLeads, SlotReads, all_bytes}
use Rattle.checkpoint_changes.specs.Changes.{IsChange, change_cells}
use Rattle.checkpoint_changes.specs.declared.changes.Change.{Change}
use Rattle.checkpoint_changes.proofs.ReadLaws.{amended_chosen}
use Rattle.checkpoint_slots.specs.declared.fault.StoreFault.{StoreFault}
use Rattle.checkpoint_slots.specs.declared.layout.Slot.{Slot}
use Rattle.checkpoint_slots.specs.Layout.{slot_of, start_of}
use Rattle.checkpoint_slots.specs.Recovery.{BookAt, LeadsTo, Recovers, SlotStands, StandsBy, chosen, length_of, may_be_length, placed}

amends-rules : (format : Format) (first : Book) (deltas : List (List Change)) (last : Book) → Amends (change_cells format) (IsChange format) first deltas last → KeepsRules first → KeepsRules last
amends-rules format first [] last is rules = subst (λ (b : Book). KeepsRules b) (sym is) rules
amends-rules format first (delta ∷ deltas) last is rules = amends-rules format is.0 deltas last is.2 is.1.rules

amends-chosen : (format : Format) (first : Book) (deltas : List (List Change)) (last : Book) → Amends (change_cells format) (IsChange format) first deltas last → first.name ≡ default_name → last.name ≡ default_name
amends-chosen format first [] last is default = ap (λ (b : Book). b.name) is ∙ default
amends-chosen format first (delta ∷ deltas) last is default = amends-chosen format is.0 deltas last is.2 (amended_chosen format first delta is.0 is.1 default)

pub leads-rules : (bytes : List ℕ) (n : ℕ) (book : Book) (more : Option ℕ) → SlotLeads bytes n book more → KeepsRules book
leads-rules bytes n book more is = amends-rules is.0 is.1 is.4.deltas book is.4.follow.amends is.3.rules

pub leads-chosen : (bytes : List ℕ) (n : ℕ) (book : Book) (more : Option ℕ) → SlotLeads bytes n book more → book.name ≡ default_name
leads-chosen bytes n book more is = amends-chosen is.0 is.1 is.4.deltas book is.4.follow.amends is.3.chosen

pub rules-of : (at n : ℕ) (bytes : List ℕ) (result : Result (Book × Option ℕ) StoreFault) → IfOk result (λ found. LeadsTo at bytes n found.0 found.1) → IfOk result (λ found. KeepsRules found.0)
rules-of at n bytes (Ok found) ok = leads-rules bytes n found.0 ok.more ok.leads
rules-of at n bytes (Err fault) ok = ok

pub chosen-of : (at n : ℕ) (bytes : List ℕ) (result : Result (Book × Option ℕ) StoreFault) → IfOk result (λ found. LeadsTo at bytes n found.0 found.1) → IfOk result (λ found. found.0.name ≡ default_name)
chosen-of at n bytes (Ok found) ok = leads-chosen bytes n found.0 ok.more ok.leads
chosen-of at n bytes (Err fault) ok = ok

-- a book that a file stands for keeps the rules

the_book : (one two : Book) → ◌≡◌ {A = Result Book ℕ} (Ok one) (Ok two) → one ≡ two
the_book one two e = cc

placed-rules : (at : ℕ) (bytes : List ℕ) (n : ℕ) (inner : Result (Book × Option ℕ) ℕ) (book : Book) → SlotReads bytes n inner → Ok book ≡ placed at inner → KeepsRules book
placed-rules at bytes n (Err damage) book is e = absurd cc
placed-rules at bytes n (Ok found) book is e = subst (λ (b : Book). KeepsRules b) (sym (the_book book found.0 e)) (leads-rules bytes n found.0 found.1 is)

at-rules : (may : Bool) (at n : ℕ) (bytes : List ℕ) (book : Book) → BookAt may at n bytes (Ok book) → KeepsRules book
at-rules false at n bytes book is = absurd cc
at-rules true at n bytes book is = placed-rules (at + 16) bytes n is.0 book is.1 is.2

slot-rules : (at : ℕ) (slot : List ℕ) (book : Book) → SlotStands at slot (Ok book) → KeepsRules book
unfolding SlotStands
slot-rules at slot book is = at-rules (may_be_length (length_of slot)) at (length_of slot) (drop 16 slot) book is

chosen-rules : (file : List ℕ) (choice : Result (Option Slot) ℕ) (book : Book) → StandsBy file choice (Ok book) → KeepsRules book
chosen-rules file (Ok None) book is = empty_rules book (the_book book empty_book is)
chosen-rules file (Ok (Some slot)) book is = slot-rules (start_of slot) (slot_of file slot) book is
chosen-rules file (Err at) book is = absurd cc

pub book-rules : (file : List ℕ) (book : Book) → Recovers file (Ok book) → KeepsRules book
book-rules file book recovers = chosen-rules file (chosen file) book recovers

-- and the session is chosen in it that is called where no name is said

placed-named : (at : ℕ) (bytes : List ℕ) (n : ℕ) (inner : Result (Book × Option ℕ) ℕ) (book : Book) → SlotReads bytes n inner → Ok book ≡ placed at inner → book.name ≡ default_name
placed-named at bytes n (Err damage) book is e = absurd cc
placed-named at bytes n (Ok found) book is e = ap (λ (b : Book). b.name) (the_book book found.0 e) ∙ leads-chosen bytes n found.0 found.1 is

at-named : (may : Bool) (at n : ℕ) (bytes : List ℕ) (book : Book) → BookAt may at n bytes (Ok book) → book.name ≡ default_name
at-named false at n bytes book is = absurd cc
at-named true at n bytes book is = placed-named (at + 16) bytes n is.0 book is.1 is.2

slot-named : (at : ℕ) (slot : List ℕ) (book : Book) → SlotStands at slot (Ok book) → book.name ≡ default_name
unfolding SlotStands
slot-named at slot book is = at-named (may_be_length (length_of slot)) at (length_of slot) (drop 16 slot) book is

stands-named : (file : List ℕ) (choice : Result (Option Slot) ℕ) (book : Book) → StandsBy file choice (Ok book) → book.name ≡ default_name
stands-named file (Ok None) book is = ap (λ (b : Book). b.name) (the_book book empty_book is)
stands-named file (Ok (Some slot)) book is = slot-named (start_of slot) (slot_of file slot) book is
stands-named file (Err at) book is = absurd cc

pub book-chosen : (file : List ℕ) (book : Book) → Recovers file (Ok book) → book.name ≡ default_name
book-chosen file book recovers = stands-named file (chosen file) book recovers

-- damage

damaged-within : (bytes : List ℕ) (at : ℕ) → IsDamaged bytes at → at ≤ length bytes
damaged-within bytes at is = elim is.place [
  | inl none ↦ omega (arith, none)
  | inr front ↦ let e = front.4 in omega (arith, e)
]

pub slot-damaged-within : (bytes : List ℕ) (n at : ℕ) → n ≤ length bytes → SlotDamaged bytes n at → at ≤ length bytes
slot-damaged-within bytes n at fits (inl book) = let w = damaged-within (take n bytes) at book in omega (arith, w, length-take-le n bytes fits, fits)
slot-damaged-within bytes n at fits (inr stops) =
    let e = ap length stops.4.follow.is in
    let size = stops.4.size in
    let place = stops.5 in
    omega (arith, e, size, place, length-append (all_bytes (change_cells stops.0) stops.4.deltas) stops.4.rest, length-drop n bytes, fits)
