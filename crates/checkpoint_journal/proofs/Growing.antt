-- What the bytes of a slot lead to, where they change behind the last gate, or where an amendment is opened.
use Rattle.std.proofs.Common.{◌≡◌, ◌+◌, ◌-◌, ◌<◌, ℕ, Bool, true, false, not, ◌||◌, ◌==◌, nat_lt, List, [], ◌∷◌, ◌++◌, length, take, drop, replicate, slice_index, min, refl, ap, sym, subst, ◌∙◌, arith}
use Rattle.std.specs.Prelude.{Some}
use Rattle.std.proofs.lemmas.Grind.{flat_map-append, same_number_lists}
use Rattle.std.proofs.lemmas.List.{append-nil, append_assoc, drop-drop, drop_more, get_or-drop, get_or-take, length-append, length-drop, length-take, take-append-drop}
use Rattle.byteorder.specs.Endian.{little_bytes}
use Rattle.byteorder.specs.Numbers.{length-bytes_low_first}
use Rattle.ice_values.proofs.OptionLaws.{none_not_some, some_is}
use Rattle.checkpoint_records.specs.Spelling.{Spells}
use Rattle.checkpoint_records.specs.declared.records.Book.{Book}
use Rattle.checkpoint_changes.specs.Amendments.{Amended, Amends, ReadsOn, SlotLeads, all_bytes, amendment_bytes, behind_gate, delta_bytes, is_at_end, told_length}
use Rattle.checkpoint_records.specs.declared.head.Format.{Format}
use Rattle.checkpoint_records.specs.declared.head.Format.TheVariants.{Single, Several}
use Rattle.checkpoint_changes.specs.Changes.{IsChange, change_cells}
use Rattle.checkpoint_changes.specs.declared.changes.Change.{Change}
use Rattle.checkpoint_slots.proofs.Bodies.{drop-by, take-by}
use Rattle.checkpoint_journal.specs.Journal.{behind, size_of}

abbrev pub SameBelow : ℕ → List ℕ → List ℕ → Type 0
SameBelow n one two = (i : ℕ) → i < n → slice_index one i ≡ slice_index two i

-- Two lists of one length that are the same below a place
module _ (one two : List ℕ) (size : length one ≡ length two) where
  take-same : (n : ℕ) → SameBelow n one two → take n one ≡ take n two
  take-same n same =
      let long = length-take n one in
      same_number_lists (take n one) (take n two) (long ∙ ap (λ (k : ℕ). min n k) size ∙ sym (length-take n two)) (λ i within.
      let small : i < n = omega (arith, within, long) in
      get_or-take n one i 0 small ∙ same i small ∙ sym (get_or-take n two i 0 small))

  part-same : (n more : ℕ) → SameBelow (n + more) one two → take more (drop n one) ≡ take more (drop n two)
  part-same n more same =
      let long : length (take more (drop n one)) ≡ min more (length (drop n one)) = length-take more (drop n one) in
      let sizes : length (drop n one) ≡ length (drop n two) = length-drop n one ∙ ap (λ (k : ℕ). k - n) size ∙ sym (length-drop n two) in
      same_number_lists (take more (drop n one)) (take more (drop n two)) (long ∙ ap (λ (k : ℕ). min more k) sizes ∙ sym (length-take more (drop n two))) (λ i within.
      let small : i < more = omega (arith, within, long) in
      get_or-take more (drop n one) i 0 small ∙ get_or-drop n one i 0 ∙ same (n + i) (omega (arith, small)) ∙ sym (get_or-drop n two i 0) ∙ sym (get_or-take more (drop n two) i 0 small))

end-same : (xs ys : List ℕ) → length xs ≡ length ys → slice_index xs 0 ≡ slice_index ys 0 → is_at_end xs ≡ is_at_end ys
end-same xs ys size gate = ap (λ (n : ℕ). nat_lt n 8 || not (slice_index xs 0 == 165)) size ∙ ap (λ (byte : ℕ). nat_lt (length ys) 8 || not (byte == 165)) gate

module _ (bytes : List ℕ) (n : ℕ) (first book : Book) (more : ℕ) (reads : ReadsOn (change_cells Several) (IsChange Several) first (drop n bytes) book more) where
  -- the amendments that were read, and what follows them
  amendments-are : take more (drop n bytes) ≡ all_bytes (change_cells Several) reads.deltas
  amendments-are = ap (λ (xs : List ℕ). take more xs) reads.follow.is ∙ take-by more (all_bytes (change_cells Several) reads.deltas) reads.rest (sym reads.size)

  rest-is : reads.rest ≡ drop more (drop n bytes)
  rest-is = sym (ap (λ (xs : List ℕ). drop more xs) reads.follow.is ∙ drop-by more (all_bytes (change_cells Several) reads.deltas) reads.rest (sym reads.size))

-- What is known where a length is told: the book at the front has the second format.
record Told (bytes : List ℕ) (n : ℕ) (book : Book) (more : ℕ) : Type 0 where
  first : Book
  spells : Spells Several (take n bytes) first
  reads : ReadsOn (change_cells Several) (IsChange Several) first (drop n bytes) book more

told : (bytes : List ℕ) (n : ℕ) (book : Book) (more : ℕ) → SlotLeads bytes n book (Some more) → Told bytes n book more
told bytes n book more leads = by leads.0 leads.3 leads.4 leads.5
  where
    by : (format : Format) → Spells format (take n bytes) leads.1 → ReadsOn (change_cells format) (IsChange format) leads.1 (drop n bytes) book leads.2 → Some more ≡ told_length format leads.2 → Told bytes n book more
    by Single spells reads e = absurd (none_not_some more (sym e))
    by Several spells reads e = record { first = leads.1; spells = spells; reads = subst (λ (k : ℕ). ReadsOn (change_cells Several) (IsChange Several) leads.1 (drop n bytes) book k) (sym (some_is more leads.2 e)) reads }

-- Bytes that agree up to the last gate, that gate included, lead to the same book.
pub leads-still : (one two : List ℕ) (n : ℕ) (book : Book) (more : ℕ) → length one ≡ length two → SameBelow (n + more + 1) one two → SlotLeads one n book (Some more) → SlotLeads two n book (Some more)
leads-still one two n book more size same leads =
    let t = told one n book more leads in
    let first : Book = t.first in
    let reads : ReadsOn (change_cells Several) (IsChange Several) first (drop n one) book more = t.reads in
    let rest : List ℕ = drop more (drop n two) in
    let below : SameBelow (n + more) one two = λ i within. same i (omega (arith, within)) in
    let whole : Spells Several (take n two) first = subst (λ (xs : List ℕ). Spells Several xs first) (take-same one two size n (λ i within. same i (omega (arith, within)))) t.spells in
    let sizes : length reads.rest ≡ length rest = ap length (rest-is one n first book more reads) ∙ length-drop more (drop n one) ∙ ap (λ (k : ℕ). k - more) (length-drop n one ∙ ap (λ (k : ℕ). k - n) size ∙ sym (length-drop n two)) ∙ sym (length-drop more (drop n two)) in
    let at-gate : (xs : List ℕ) → slice_index (drop more (drop n xs)) 0 ≡ slice_index xs (n + (more + 0)) = λ xs. get_or-drop more (drop n xs) 0 0 ∙ get_or-drop n xs (more + 0) 0 in
    let gate : slice_index reads.rest 0 ≡ slice_index rest 0 = ap (λ (xs : List ℕ). slice_index xs 0) (rest-is one n first book more reads) ∙ at-gate one ∙ same (n + (more + 0)) (omega arith) ∙ sym (at-gate two) in
    let front : take more (drop n two) ≡ all_bytes (change_cells Several) reads.deltas = sym (part-same one two size n more below) ∙ amendments-are one n first book more reads in (
      Several,
      first,
      more,
      whole,
      record {
        deltas = reads.deltas;
        rest = rest;
        follow = record { amends = reads.follow.amends; is = sym (take-append-drop more (drop n two)) ∙ ap (λ (xs : List ℕ). xs ++ rest) front };
        ended = sym (end-same reads.rest rest sizes gate) ∙ reads.ended;
        size = reads.size;
      },
      refl,
    )

-- one amendment more

amends-more : (first : Book) (deltas : List (List Change)) (book : Book) (delta : List Change) (next : Book) → Amends (change_cells Several) (IsChange Several) first deltas book → Amended (change_cells Several) (IsChange Several) book delta next → Amends (change_cells Several) (IsChange Several) first (deltas ++ delta ∷ []) next
amends-more first [] book delta next is more = (next, subst (λ (b : Book). Amended (change_cells Several) (IsChange Several) b delta next) is more, refl)
amends-more first (d ∷ deltas) book delta next is more = (is.0, is.1, amends-more is.0 deltas book delta next is.2 more)

closed : (short : Bool) → (short || true) ≡ true
closed true = refl
closed false = refl

pub amendment-size : (delta : List Change) → length (amendment_bytes (change_cells Several) delta) ≡ 8 + size_of delta
amendment-size delta =
    let numbers : List ℕ = little_bytes 4 (size_of delta) in
    omega (arith, length-append (replicate 3 0) (numbers ++ delta_bytes (change_cells Several) delta), length-append numbers (delta_bytes (change_cells Several) delta), length-bytes_low_first 0 4 (size_of delta))

pub behind-size : (delta : List Change) → length (behind delta) ≡ 8 + size_of delta
behind-size delta = omega (arith, amendment-size delta, length-append (behind_gate (change_cells Several) delta) (0 ∷ []))

-- The gate was opened before an amendment.
pub leads-more : (one two : List ℕ) (n : ℕ) (book : Book) (more : ℕ) (delta : List Change) (next : Book) → length one ≡ length two → SameBelow (n + more) one two → n + more < length two → slice_index two (n + more) ≡ 165 → take (length (behind delta)) (drop (n + more + 1) two) ≡ behind delta
    → SlotLeads one n book (Some more) → Amended (change_cells Several) (IsChange Several) book delta next → SlotLeads two n next (Some (more + (8 + size_of delta)))
leads-more one two n book more delta next size same fits gate tail leads amended =
    let t = told one n book more leads in
    let first : Book = t.first in
    let reads : ReadsOn (change_cells Several) (IsChange Several) first (drop n one) book more = t.reads in
    let whole : Spells Several (take n two) first = subst (λ (xs : List ℕ). Spells Several xs first) (take-same one two size n (λ i within. same i (omega (arith, within)))) t.spells in
    let front : take more (drop n two) ≡ all_bytes (change_cells Several) reads.deltas = sym (part-same one two size n more same) ∙ amendments-are one n first book more reads in
    let r : List ℕ = drop (length (behind delta)) (drop (n + more + 1) two) in
    let long : more < length (drop n two) = omega (arith, length-drop n two, fits) in
    let further : drop (more + 1) (drop n two) ≡ drop (n + more + 1) two = drop-drop (more + 1) n two ∙ ap (λ (k : ℕ). drop k two) (omega arith) in
    let split : drop (n + more + 1) two ≡ behind_gate (change_cells Several) delta ++ (0 ∷ r) = sym (take-append-drop (length (behind delta)) (drop (n + more + 1) two)) ∙ ap (λ (xs : List ℕ). xs ++ r) tail ∙ append_assoc (behind_gate (change_cells Several) delta) (0 ∷ []) r in
    let rest : drop more (drop n two) ≡ amendment_bytes (change_cells Several) delta ++ (0 ∷ r) = drop_more (drop n two) more 0 long ∙ ap (λ (byte : ℕ). byte ∷ drop (more + 1) (drop n two)) (get_or-drop n two more 0 ∙ gate) ∙ ap (λ (xs : List ℕ). 165 ∷ xs) (further ∙ split) in
    let all : all_bytes (change_cells Several) (reads.deltas ++ delta ∷ []) ≡ all_bytes (change_cells Several) reads.deltas ++ amendment_bytes (change_cells Several) delta = flat_map-append (amendment_bytes (change_cells Several)) reads.deltas (delta ∷ []) ∙ ap (λ (xs : List ℕ). all_bytes (change_cells Several) reads.deltas ++ xs) (append-nil (amendment_bytes (change_cells Several) delta)) in (
      Several,
      first,
      more + (8 + size_of delta),
      whole,
      record {
        deltas = reads.deltas ++ delta ∷ [];
        rest = 0 ∷ r;
        follow = record {
          amends = amends-more first reads.deltas book delta next reads.follow.amends amended;
          is = sym (take-append-drop more (drop n two)) ∙ ap (λ (xs : List ℕ). xs ++ drop more (drop n two)) front ∙ ap (λ (xs : List ℕ). all_bytes (change_cells Several) reads.deltas ++ xs) rest
              ∙ sym (append_assoc (all_bytes (change_cells Several) reads.deltas) (amendment_bytes (change_cells Several) delta) (0 ∷ r)) ∙ ap (λ (xs : List ℕ). xs ++ 0 ∷ r) (sym all);
        };
        ended = closed (nat_lt (length (0 ∷ r)) 8);
        size = let a = ap length all in omega (arith, a, reads.size, length-append (all_bytes (change_cells Several) reads.deltas) (amendment_bytes (change_cells Several) delta), amendment-size delta);
      },
      refl,
    )
