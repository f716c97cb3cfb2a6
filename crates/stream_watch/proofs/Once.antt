-- Numbers of which none stands twice: one that stands at a place stands there first.
use Rattle.std.proofs.Common.{◌≡◌, ℕ, zero, suc, ◌+◌, Bool, true, false, List, [], ◌∷◌, ◌++◌, Option, Some, None, refl, sym, ap, ◌∙◌, subst, arith, slice_get, slice_set, slice_index_or, is_none}
use Rattle.std.specs.Prelude.{◌==◌, ◌&&◌, filter, position}
use Rattle.std.specs.List.{position_from}
use Rattle.std.proofs.lemmas.Bool.{and_parts, false≢true}
use Rattle.std.proofs.lemmas.Bool.Decides.{nat_tests}
use Rattle.std.proofs.lemmas.Iterator.Adapters.{position_from-zero}
use Rattle.std.proofs.Math.Seq.{map-set_same}
use Rattle.stream_watch.specs.Visiting.{AreOnce, IsAbsent, is_of, numbers}
use Rattle.stream_watch.specs.declared.visitor.Visitor.{Visitor}
use Rattle.stream_watch.proofs.Shown.{has}

-- ---- what is found

both_hold : (a b c : ℕ) → (a == c) ≡ true → (b == c) ≡ true → (b == a) ≡ true
both_hold a b c one other = grind (arith, nat_tests)

apart : (c n : ℕ) (rows : List Visitor) (k : ℕ) → IsAbsent n (numbers rows) → is_of c (slice_get rows k) ≡ true → (n == c) ≡ true → ⊥
apart c n [] k absent of is = absurd (false≢true of)
apart c n (row ∷ rows) zero absent of is = absurd (false≢true (sym absent.0 ∙ both_hold n row.conn c is of))
apart c n (row ∷ rows) (suc k) absent of is = apart c n rows k absent.1 of is

guessed_by : (c : ℕ) (row : Visitor) (rows : List Visitor) (k i : ℕ) → ((j : ℕ) → position_from (has c) j rows ≡ Some (j + k)) → (b : Bool) → (row.conn == c) ≡ b → ((row.conn == c) ≡ true → ⊥) → position_from (has c) i (row ∷ rows) ≡ Some (i + suc k)
guessed_by c row rows k i later true test never = absurd (never test)
guessed_by c row rows k i later false test never = rw test (later (i + 1) ∙ ap Some (omega arith))

guessed_from : (c : ℕ) (rows : List Visitor) (k i : ℕ) → AreOnce (numbers rows) → is_of c (slice_get rows k) ≡ true → position_from (has c) i rows ≡ Some (i + k)
guessed_from c [] k i once of = absurd (false≢true of)
guessed_from c (row ∷ rows) zero i once of = rw of (ap Some (omega arith))
guessed_from c (row ∷ rows) (suc k) i once of = guessed_by c row rows k i (λ j. guessed_from c rows k j once.1 of) (row.conn == c) refl (apart c row.conn rows k once.0 of)

pub guessed : (c : ℕ) (rows : List Visitor) (k : ℕ) → AreOnce (numbers rows) → is_of c (slice_get rows k) ≡ true → Some k ≡ position (has c) rows
guessed c rows k once of = sym (position_from-zero (has c) rows ∙ guessed_from c rows k 0 once of ∙ ap Some (omega arith))

-- ---- one more

some_is_not : (i : ℕ) → Some i ≡ None → ⊥
some_is_not i is = absurd cc

unfound_by : (c : ℕ) (row : Visitor) (rows : List Visitor) (i : ℕ) → ((j : ℕ) → position_from (has c) j rows ≡ None → IsAbsent c (numbers rows)) → (b : Bool) → (row.conn == c) ≡ b → position_from (has c) i (row ∷ rows) ≡ None → IsAbsent c (numbers (row ∷ rows))
unfound_by c row rows i later true test none = absurd (some_is_not i (rw test at none))
unfound_by c row rows i later false test none = (test, later (i + 1) (rw test at none))

unfound_from : (c : ℕ) (rows : List Visitor) (i : ℕ) → position_from (has c) i rows ≡ None → IsAbsent c (numbers rows)
unfound_from c [] i none = tt
unfound_from c (row ∷ rows) i none = unfound_by c row rows i (λ j here. unfound_from c rows j here) (row.conn == c) refl none

turned : (a b : ℕ) → (a == b) ≡ false → (b == a) ≡ false
turned a b is = grind (arith, nat_tests)

absent_more : (c n : ℕ) (ns : List ℕ) → IsAbsent c ns → (n == c) ≡ false → IsAbsent c (ns ++ n ∷ [])
absent_more c n [] absent other = (other, tt)
absent_more c n (k ∷ ns) absent other = (absent.0, absent_more c n ns absent.1 other)

once_more : (n : ℕ) (ns : List ℕ) → AreOnce ns → IsAbsent n ns → AreOnce (ns ++ n ∷ [])
once_more n [] once absent = (tt, tt)
once_more n (k ∷ ns) once absent = (absent_more k n ns once.0 (turned k n absent.0), once_more n ns once.1 absent.1)

numbers_more : (rows : List Visitor) (row : Visitor) → numbers (rows ++ row ∷ []) ≡ numbers rows ++ row.conn ∷ []
numbers_more [] row = refl
numbers_more (r ∷ rows) row = ap (λ (ns : List ℕ). r.conn ∷ ns) (numbers_more rows row)

none_by : (o : Option ℕ) → is_none o ≡ true → o ≡ None
none_by None is = refl
none_by (Some n) is = absurd (false≢true is)

pub joined : (each_once is_new : Bool) (rows : List Visitor) (row : Visitor) → is_new ≡ is_none (position (has row.conn) rows) → (each_once ≡ true → AreOnce (numbers rows)) → (each_once && is_new) ≡ true → AreOnce (numbers (rows ++ row ∷ []))
joined each_once is_new rows row new once is =
    let two = and_parts each_once is_new is in
    let none : position (has row.conn) rows ≡ None = none_by (position (has row.conn) rows) (sym new ∙ two.1) in
    let absent = unfound_from row.conn rows 0 (sym (position_from-zero (has row.conn) rows) ∙ none) in
    subst AreOnce (sym (numbers_more rows row)) (once_more row.conn (numbers rows) (once two.0) absent)

-- ---- some are left, or one changes

module _ (p : Visitor → Bool) where
  absent_by : (c : ℕ) (row : Visitor) (rows : List Visitor) → (row.conn == c) ≡ false → IsAbsent c (numbers (filter p rows)) → (b : Bool) → p row ≡ b → IsAbsent c (numbers (filter p (row ∷ rows)))
  absent_by c row rows other rest true test = rw test (other, rest)
  absent_by c row rows other rest false test = rw test rest

  absent_kept : (c : ℕ) (rows : List Visitor) → IsAbsent c (numbers rows) → IsAbsent c (numbers (filter p rows))
  absent_kept c [] absent = tt
  absent_kept c (row ∷ rows) absent = absent_by c row rows absent.0 (absent_kept c rows absent.1) (p row) refl

  once_by : (row : Visitor) (rows : List Visitor) → IsAbsent row.conn (numbers (filter p rows)) → AreOnce (numbers (filter p rows)) → (b : Bool) → p row ≡ b → AreOnce (numbers (filter p (row ∷ rows)))
  once_by row rows absent rest true test = rw test (absent, rest)
  once_by row rows absent rest false test = rw test rest

  pub once_kept : (rows : List Visitor) → AreOnce (numbers rows) → AreOnce (numbers (filter p rows))
  once_kept [] once = tt
  once_kept (row ∷ rows) once = once_by row rows (absent_kept row.conn rows once.0) (once_kept rows once.1) (p row) refl

pub once_changed : (rows : List Visitor) (k : ℕ) (row after : Visitor) → row ≡ slice_index_or rows k row → after.conn ≡ row.conn → AreOnce (numbers rows) → AreOnce (numbers (slice_set rows k after))
once_changed rows k row after is same once =
    subst AreOnce (sym (map-set_same (λ (r : Visitor). r.conn) rows k after row (same ∙ ap (λ (r : Visitor). r.conn) is))) once
