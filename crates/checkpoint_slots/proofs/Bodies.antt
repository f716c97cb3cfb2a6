-- A slot that begins with what a commit writes has its generation and its book.
use Rattle.std.proofs.Common.{◌≡◌, ◌+◌, ◌-◌, ◌<◌, ◌≤◌, ◌^◌, ◌%◌, ℕ, Bool, true, false, ◌||◌, nat_lt, List, [], ◌∷◌, ◌++◌, length, replicate, take, drop, refl, ap, sym, subst, ◌∙◌, arith}
use Rattle.std.specs.Prelude.{Some}
use Rattle.std.proofs.Math.Seq.{drop-append_seam, take-append_seam}
use Rattle.std.proofs.lemmas.List.{append_assoc, length-append, take-append-drop}
use Rattle.byteorder.specs.Endian.{little_bytes, little_number}
use Rattle.byteorder.specs.Numbers.{length-bytes_low_first, little_number-reads_back}
use Rattle.checkpoint_records.specs.Books.{default_name}
use Rattle.checkpoint_records.specs.Rules.{KeepsRules}
use Rattle.checkpoint_records.specs.Spelling.{Spells, book_bytes}
use Rattle.checkpoint_records.specs.declared.head.Format.TheVariants.{Several}
use Rattle.checkpoint_records.specs.declared.records.Book.{Book}
use Rattle.checkpoint_slots.specs.declared.layout.Slot.{Slot}
use Rattle.checkpoint_slots.specs.Layout.{start_of}
use Rattle.checkpoint_slots.specs.Recovery.{LeadsTo, generation_of, length_of, may_be_length, slot_bytes}
use Rattle.checkpoint_slots.specs.Turns.{HasBook}

-- whole units, and room for it
pub record HasRoom (n : ℕ) : Type 0 where
  pub units : n % 8 ≡ 0
  pub fits : n ≤ 8388584

room-may : (n : ℕ) → HasRoom n → may_be_length n ≡ true
room-may n room = let u = room.units in let f = room.fits in grind (arith, u, f)

pub drop-by : (n : ℕ) (front rest : List ℕ) → length front ≡ n → drop n (front ++ rest) ≡ rest
drop-by n front rest e = subst (λ (k : ℕ). drop k (front ++ rest) ≡ rest) e (drop-append_seam front rest)

pub take-by : (n : ℕ) (front rest : List ℕ) → length front ≡ n → take n (front ++ rest) ≡ front
take-by n front rest e = subst (λ (k : ℕ). take k (front ++ rest) ≡ front) e (take-append_seam front rest)

little-length : (n x : ℕ) → length (little_bytes n x) ≡ n
little-length n x = length-bytes_low_first 0 n x

abbrev pub whole : ℕ → List ℕ → List ℕ → List ℕ
whole generation bytes rest = little_bytes 8 generation ++ (little_bytes 4 (length bytes) ++ (replicate 4 0 ++ (bytes ++ (replicate 8 0 ++ rest))))

pub body-length : (generation : ℕ) (book : Book) → length (slot_bytes generation book) ≡ 24 + length (book_bytes book)
unfolding slot_bytes
body-length generation book =
    let a = length-append (little_bytes 8 generation) (little_bytes 4 (length (book_bytes book)) ++ (replicate 4 0 ++ (book_bytes book ++ replicate 8 0))) in
    let b = length-append (little_bytes 4 (length (book_bytes book))) (replicate 4 0 ++ (book_bytes book ++ replicate 8 0)) in
    let d = length-append (book_bytes book) (replicate 8 0) in
    omega (arith, a, b, d, little-length 8 generation, little-length 4 (length (book_bytes book)))

module _ (generation : ℕ) (book : Book) (slot : List ℕ) (begins : take (length (slot_bytes generation book)) slot ≡ slot_bytes generation book) where
  slot-is : slot ≡ whole generation (book_bytes book) (drop (length (slot_bytes generation book)) slot)
  unfolding slot_bytes
  slot-is =
      let r : List ℕ = drop (length (slot_bytes generation book)) slot in
      sym (take-append-drop (length (slot_bytes generation book)) slot)
      ∙ ap (λ (front : List ℕ). front ++ r) begins
      ∙ append_assoc (little_bytes 8 generation) (little_bytes 4 (length (book_bytes book)) ++ (replicate 4 0 ++ (book_bytes book ++ replicate 8 0))) r
      ∙ ap (λ (xs : List ℕ). little_bytes 8 generation ++ xs) (append_assoc (little_bytes 4 (length (book_bytes book))) (replicate 4 0 ++ (book_bytes book ++ replicate 8 0)) r
      ∙ ap (λ (xs : List ℕ). little_bytes 4 (length (book_bytes book)) ++ xs) (append_assoc (replicate 4 0) (book_bytes book ++ replicate 8 0) r
      ∙ ap (λ (xs : List ℕ). replicate 4 0 ++ xs) (append_assoc (book_bytes book) (replicate 8 0) r)))

  pub has-generation : generation < 2 ^ 64 → generation_of slot ≡ generation
  unfolding generation_of
  has-generation fits =
      let behind : List ℕ = little_bytes 4 (length (book_bytes book)) ++ (replicate 4 0 ++ (book_bytes book ++ (replicate 8 0 ++ drop (length (slot_bytes generation book)) slot))) in
      ap (λ (xs : List ℕ). little_number 8 xs) slot-is ∙ little_number-reads_back 8 generation behind fits

  length-at : HasRoom (length (book_bytes book)) → length_of slot ≡ length (book_bytes book)
  unfolding length_of
  length-at room =
      let behind : List ℕ = replicate 4 0 ++ (book_bytes book ++ (replicate 8 0 ++ drop (length (slot_bytes generation book)) slot)) in
      let there : drop 8 slot ≡ little_bytes 4 (length (book_bytes book)) ++ behind = ap (λ (xs : List ℕ). drop 8 xs) slot-is ∙ drop-by 8 (little_bytes 8 generation) (little_bytes 4 (length (book_bytes book)) ++ behind) (little-length 8 generation) in
      ap (λ (xs : List ℕ). little_number 4 xs) there ∙ little_number-reads_back 4 (length (book_bytes book)) behind (let f = room.fits in omega (arith, f))

  behind-head : drop 16 slot ≡ book_bytes book ++ (replicate 8 0 ++ drop (length (slot_bytes generation book)) slot)
  behind-head =
      let r : List ℕ = replicate 8 0 ++ drop (length (slot_bytes generation book)) slot in
      let numbers : List ℕ = little_bytes 4 (length (book_bytes book)) in
      let front : List ℕ = little_bytes 8 generation ++ (numbers ++ replicate 4 0) in
      let split : whole generation (book_bytes book) (drop (length (slot_bytes generation book)) slot) ≡ front ++ (book_bytes book ++ r) =
      ap (λ (xs : List ℕ). little_bytes 8 generation ++ xs) (sym (append_assoc numbers (replicate 4 0) (book_bytes book ++ r))) ∙ sym (append_assoc (little_bytes 8 generation) (numbers ++ replicate 4 0) (book_bytes book ++ r)) in
      let sixteen : length front ≡ 16 = sized in
      ap (λ (xs : List ℕ). drop 16 xs) (slot-is ∙ split) ∙ drop-by 16 front (book_bytes book ++ r) sixteen where
        sized : length (little_bytes 8 generation ++ (little_bytes 4 (length (book_bytes book)) ++ replicate 4 0)) ≡ 16
        sized = refl

  -- no amendment stands behind the book
  leads-to : (at : ℕ) → KeepsRules book → book.name ≡ default_name → book.epoch < 2 ^ 32 → LeadsTo at (drop 16 slot) (length (book_bytes book)) book (Some (at + length (book_bytes book) + 0))
  leads-to at rules default epoch =
      let bytes : List ℕ = book_bytes book in
      let behind : List ℕ = replicate 7 0 ++ drop (length (slot_bytes generation book)) slot in
      let spelled : Spells Several (take (length bytes) (drop 16 slot)) book = record { rules = rules; epoch = epoch; chosen = default; allowed = tt; is = ap (λ (xs : List ℕ). take (length bytes) xs) behind-head ∙ take-append_seam bytes _ } in
      let rest : drop (length bytes) (drop 16 slot) ≡ 0 ∷ behind = ap (λ (xs : List ℕ). drop (length bytes) xs) behind-head ∙ drop-append_seam bytes (0 ∷ behind) in
      record {
        more = Some 0;
        leads = (Several, book, 0, spelled, record { deltas = []; rest = 0 ∷ behind; follow = record { amends = refl; is = rest }; ended = closed (nat_lt (length (0 ∷ behind)) 8); size = refl }, refl);
        ends = refl;
      } where
        closed : (short : Bool) → (short || true) ≡ true
        closed true = refl
        closed false = refl

  pub has-book : (slot_is : Slot) → HasRoom (length (book_bytes book)) → KeepsRules book → book.name ≡ default_name → book.epoch < 2 ^ 32 → HasBook slot_is (Some (start_of slot_is + (length (slot_bytes generation book) - 8))) book slot
  has-book here room rules default epoch =
      let place : start_of here + 16 + length (book_bytes book) + 0 ≡ start_of here + (length (slot_bytes generation book) - 8) = omega (arith, body-length generation book) in
      record {
        may = ap may_be_length (length-at room) ∙ room-may (length (book_bytes book)) room;
        leads = subst (λ (k : ℕ). LeadsTo (start_of here + 16) (drop 16 slot) k book (Some (start_of here + (length (slot_bytes generation book) - 8)))) (sym (length-at room))
            (subst (λ (k : ℕ). LeadsTo (start_of here + 16) (drop 16 slot) (length (book_bytes book)) book (Some k)) place (leads-to (start_of here + 16) rules default epoch));
      }

-- the bytes of a slot, as they are put together
pub body-is : (generation : ℕ) (book : Book) (bytes front mid all : List ℕ) → bytes ≡ book_bytes book → front ≡ little_bytes 8 generation ++ (little_bytes 4 (length bytes) ++ replicate 4 0) → mid ≡ front ++ bytes → all ≡ mid ++ replicate 8 0 → all ≡ slot_bytes generation book
unfolding slot_bytes
body-is generation book bytes front mid all b f m a =
    let numbers : List ℕ = little_bytes 4 (length bytes) in
    let parts : (little_bytes 8 generation ++ (numbers ++ replicate 4 0)) ++ bytes ++ replicate 8 0 ≡ little_bytes 8 generation ++ (numbers ++ (replicate 4 0 ++ (bytes ++ replicate 8 0))) =
    append_assoc (little_bytes 8 generation ++ (numbers ++ replicate 4 0)) bytes (replicate 8 0) ∙ append_assoc (little_bytes 8 generation) (numbers ++ replicate 4 0) (bytes ++ replicate 8 0) ∙ ap (λ (xs : List ℕ). little_bytes 8 generation ++ xs) (append_assoc numbers (replicate 4 0) (bytes ++ replicate 8 0)) in
    a ∙ ap (λ (xs : List ℕ). xs ++ replicate 8 0) (m ∙ ap (λ (xs : List ℕ). xs ++ bytes) f) ∙ parts ∙ ap (λ (xs : List ℕ). little_bytes 8 generation ++ (little_bytes 4 (length xs) ++ (replicate 4 0 ++ (xs ++ replicate 8 0)))) b
