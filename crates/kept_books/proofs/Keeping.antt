-- The laws of the shelf.
use Rattle.std.proofs.Common.{◌≡◌, ◌≢◌, ℕ, zero, suc, ◌+◌, ◌≤◌, Bool, true, false, cond, not, ◌&&◌, List, [], ◌∷◌, ◌++◌, length, take, filter, refl, sym, ap, ap₂, ◌∙◌, arith}
use Rattle.std.specs.Str.{bytes_eq}
use Rattle.std.proofs.lemmas.List.{append-nil, length-take}
use Rattle.std.proofs.lemmas.List.Elements.{filter-append}
use lib.Pointwise.{bytes_decides, pointwise_decides}
use Rattle.checkpoint_records.specs.declared.records.Book.{Book}
use Rattle.checkpoint_changes.proofs.EqualLaws.{entry_decides}
use Rattle.kept_books.specs.Shelves.{differs, entries_at, kept_again, left_beside, newly_kept, not_of, of_session, same_for, top_epoch, top_number}
use Rattle.kept_books.specs.declared.shelves.Kept.{Kept}
use Rattle.kept_books.proofs.Sifting.{apart, apart_first, sifted, sifted_first, within}

abbrev is_of : List ℕ → Kept → Bool
is_of name kept = bytes_eq name kept.session

abbrev isn't_of : List ℕ → Kept → Bool
isn't_of name kept = not (bytes_eq name kept.session)

pub own_name : (name : List ℕ) → bytes_eq name name ≡ true
own_name name = (bytes_decides name name).1 refl

first_true : (a b : Bool) → (a && b) ≡ true → a ≡ true
first_true true b e = refl
first_true false b e = absurd (let t : false ≡ true = e in cc)

not_of_it : (name : List ℕ) (kept : Kept) → not (bytes_eq name kept.session) ≡ true → bytes_eq name kept.session ≡ false
not_of_it name kept = by (bytes_eq name kept.session)
  where
    by : (b : Bool) → not b ≡ true → b ≡ false
    by true e = absurd (let t : false ≡ true = e in cc)
    by false e = refl

turned : (b : Bool) → b ≡ true → not b ≡ false
turned true e = refl
turned false e = absurd cc

turned_back : (b : Bool) → not b ≡ false → b ≡ true
turned_back true e = refl
turned_back false e = absurd (let t : true ≡ false = e in cc)

false_first : (a b : Bool) → a ≡ false → (a && b) ≡ false
false_first true b e = absurd cc
false_first false b e = refl

-- one of another name
other_name : (name other session : List ℕ) → other ≢ name → bytes_eq name session ≡ true → bytes_eq other session ≡ false
other_name name other session differ same = by (bytes_eq other session) refl
  where
    by : (b : Bool) → bytes_eq other session ≡ b → bytes_eq other session ≡ false
    by true e = absurd (differ ((bytes_decides other session).0 e ∙ sym ((bytes_decides name session).0 same)))
    by false e = e

other_first : (name other : List ℕ) → other ≢ name → bytes_eq other name ≡ false
other_first name other differ = other_name name other name differ (own_name name)

-- ---- what is kept of which session

module _ (name : List ℕ) (book : Book) (shelf : List Kept) where
  abbrev left_own : List Kept
  left_own = take 4 (filter (differs name book) shelf)

  pub own_kept : of_session name (kept_again name book shelf) ≡ newly_kept name book shelf ∷ left_own
  own_kept =
      rw (own_name name) (
      ap (λ (l : List Kept). newly_kept name book shelf ∷ l) (
      filter-append (is_of name) left_own (not_of name shelf)
      ∙ (ap₂ (λ (a b : List Kept). a ++ b) (sifted_first (is_of name) (differs name book) (λ k e. first_true (bytes_eq name k.session) (not (same_for name k.book book)) e) 4 shelf) (apart (is_of name) (isn't_of name) (λ k e. not_of_it name k e) shelf)
      ∙ append-nil left_own)
      )
      )

  pub few_kept : length (of_session name (kept_again name book shelf)) ≤ 5
  few_kept = rw own_kept (omega (arith, length-take 4 (filter (differs name book) shelf)))

  pub others_kept : not_of name (kept_again name book shelf) ≡ not_of name shelf
  others_kept =
      rw (own_name name) (
      filter-append (isn't_of name) left_own (not_of name shelf)
      ∙ ap₂ (λ (a b : List Kept). a ++ b) (apart_first (isn't_of name) (differs name book) (λ k e. turned (bytes_eq name k.session) (first_true (bytes_eq name k.session) (not (same_for name k.book book)) e)) 4 shelf) (sifted (isn't_of name) (isn't_of name) (λ k e. e) shelf)
      )

  pub other_kept : (other : List ℕ) → other ≢ name → of_session other (kept_again name book shelf) ≡ of_session other shelf
  other_kept other differ =
      rw (other_first name other differ) (
      filter-append (is_of other) left_own (not_of name shelf)
      ∙ ap₂ (λ (a b : List Kept). a ++ b) (apart_first (is_of other) (differs name book) (λ k e. other_name name other k.session differ (first_true (bytes_eq name k.session) (not (same_for name k.book book)) e)) 4 shelf) (within (is_of other) (isn't_of name) (λ k e. other_name name other k.session differ (turned_back (bytes_eq name k.session) e)) shelf)
      )

-- ---- numbers and epochs

module _ (n : ℕ) where
  module _ (test : Kept → Bool) where
    pub sifted_numbers : (shelf : List Kept) → top_number shelf ≤ n → top_number (filter test shelf) ≤ n
    sifted_numbers [] h = h
    sifted_numbers (k ∷ shelf) h = by (test k) (sifted_numbers shelf (omega (arith, h)))
      where
        by : (b : Bool) → top_number (filter test shelf) ≤ n → top_number (cond b (k ∷ filter test shelf) (filter test shelf)) ≤ n
        by true rest = omega (arith, h)
        by false rest = rest

    pub sifted_epochs : (shelf : List Kept) → top_epoch shelf ≤ n → top_epoch (filter test shelf) ≤ n
    sifted_epochs [] h = h
    sifted_epochs (k ∷ shelf) h = by (test k) (sifted_epochs shelf (omega (arith, h)))
      where
        by : (b : Bool) → top_epoch (filter test shelf) ≤ n → top_epoch (cond b (k ∷ filter test shelf) (filter test shelf)) ≤ n
        by true rest = omega (arith, h)
        by false rest = rest

  pub first_numbers : (few : ℕ) (shelf : List Kept) → top_number shelf ≤ n → top_number (take few shelf) ≤ n
  first_numbers zero shelf h = omega arith
  first_numbers (suc few) [] h = h
  first_numbers (suc few) (k ∷ shelf) h = omega (arith, h, first_numbers few shelf (omega (arith, h)))

  pub first_epochs : (few : ℕ) (shelf : List Kept) → top_epoch shelf ≤ n → top_epoch (take few shelf) ≤ n
  first_epochs zero shelf h = omega arith
  first_epochs (suc few) [] h = h
  first_epochs (suc few) (k ∷ shelf) h = omega (arith, h, first_epochs few shelf (omega (arith, h)))

  pub numbers_of_both : (xs ys : List Kept) → top_number xs ≤ n → top_number ys ≤ n → top_number (xs ++ ys) ≤ n
  numbers_of_both [] ys h i = i
  numbers_of_both (k ∷ xs) ys h i = omega (arith, h, numbers_of_both xs ys (omega (arith, h)) i)

  pub epochs_of_both : (xs ys : List Kept) → top_epoch xs ≤ n → top_epoch ys ≤ n → top_epoch (xs ++ ys) ≤ n
  epochs_of_both [] ys h i = i
  epochs_of_both (k ∷ xs) ys h i = omega (arith, h, epochs_of_both xs ys (omega (arith, h)) i)

module _ (name : List ℕ) (book : Book) (shelf : List Kept) where
  -- what stays has no greater number and no greater epoch than the shelf
  pub numbers_left : top_number (left_beside name book shelf ++ not_of name shelf) ≤ top_number shelf
  numbers_left =
      let n : ℕ = top_number shelf in
      numbers_of_both n (left_beside name book shelf) (not_of name shelf) (first_numbers n 4 (filter (differs name book) shelf) (sifted_numbers n (differs name book) shelf (omega arith))) (sifted_numbers n (isn't_of name) shelf (omega arith))

  pub epochs_left : (n : ℕ) → top_epoch shelf ≤ n → top_epoch (left_beside name book shelf ++ not_of name shelf) ≤ n
  epochs_left n h = epochs_of_both n (left_beside name book shelf) (not_of name shelf) (first_epochs n 4 (filter (differs name book) shelf) (sifted_epochs n (differs name book) shelf h)) (sifted_epochs n (isn't_of name) shelf h)

  pub epoch_kept : top_epoch shelf ≤ book.epoch → top_epoch (kept_again name book shelf) ≡ book.epoch
  epoch_kept h = omega (arith, epochs_left book.epoch h)

  -- ---- once more

  same_own : same_for name book book ≡ true
  same_own = (pointwise_decides entry_decides (entries_at name book) (entries_at name book)).1 refl

  pub left_again : left_beside name book (kept_again name book shelf) ≡ left_beside name book shelf
  left_again =
      rw (own_name name, same_own) (
      ap (take 4) (
      filter-append (differs name book) (left_beside name book shelf) (not_of name shelf)
      ∙ ap₂ (λ (a b : List Kept). a ++ b) (sifted_first (differs name book) (differs name book) (λ k e. e) 4 shelf) (apart (differs name book) (isn't_of name) (λ k e. false_first (bytes_eq name k.session) (not (same_for name k.book book)) (not_of_it name k e)) shelf)
      ∙ append-nil (left_beside name book shelf)
      )
      ∙ taken_again 4 (filter (differs name book) shelf)
      )
    where
      taken_again : (n : ℕ) (xs : List Kept) → take n (take n xs) ≡ take n xs
      taken_again zero xs = refl
      taken_again (suc n) [] = refl
      taken_again (suc n) (x ∷ xs) = ap (λ (l : List Kept). x ∷ l) (taken_again n xs)
