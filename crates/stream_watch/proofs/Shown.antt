-- The rows of the visitors, against the lines that they show.
use Rattle.std.proofs.Common.{◌≡◌, ℕ, suc, ◌+◌, ◌-◌, ◌<◌, Bool, true, false, List, [], ◌∷◌, ◌++◌, length, Option, Some, None, cond, not, refl, sym, ap, ap₂, ◌∙◌, subst, arith, slice_index_or, slice_set}
use Rattle.std.specs.Prelude.{◌==◌, ◌&&◌, ◌||◌, nat_le, nat_lt, filter, find, position, Result, Ok, Err, OnOk}
use Rattle.std.specs.List.{position_from}
use Rattle.std.proofs.lemmas.Iterator.Adapters.{position_from-zero}
use Rattle.stream_watch.specs.Visiting.{Line, Shows, ShowAll, sent_more, after_sent, is_stranger, strangers, is_strange, is_overdue, has_stayed, lingers, has_stayed_on, lingers_by, first_number, is_full, place_of_first}
use Rattle.stream_watch.specs.declared.visitor.Visitor.{Visitor}
use Rattle.stream_watch.specs.declared.visitors.Place.TheVariants.{Free, Of, Later}
use Rattle.owned_lists.specs.declared.failures.NoMemory.{NoMemory}

pub as_many : (rows : List Visitor) (ls : List Line) → ShowAll rows ls → length rows ≡ length ls
as_many [] [] shows = refl
as_many [] (l ∷ ls) shows = absurd shows
as_many (row ∷ rows) [] shows = absurd shows
as_many (row ∷ rows) (l ∷ ls) shows = ap suc (as_many rows ls shows.1)

pub one_more : (rows : List Visitor) (ls : List Line) (row : Visitor) (l : Line) → ShowAll rows ls → Shows row l → ShowAll (rows ++ row ∷ []) (ls ++ l ∷ [])
one_more [] [] row l shows here = (here, tt)
one_more [] (k ∷ ls) row l shows here = absurd shows
one_more (r ∷ rows) [] row l shows here = absurd shows
one_more (r ∷ rows) (k ∷ ls) row l shows here = (shows.0, one_more rows ls row l shows.1 here)

-- ---- those of whom a test holds

-- The first of the rows shows the first of the lines.
abbrev pub IsFirst : Option Visitor → List Line → Type 0
IsFirst None ls = ls ≡ []
IsFirst (Some row) ls = (l : Line) × (rest : List Line) × (ls ≡ l ∷ rest) × Shows row l

-- A test of rows and one of lines that agree.
abbrev pub Agree : (Visitor → Bool) → (Line → Bool) → Type 0
Agree p q = (row : Visitor) (l : Line) → Shows row l → p row ≡ q l

module _ (p : Visitor → Bool) (q : Line → Bool) (agree : Agree p q) where
  first_by : (row : Visitor) (rows : List Visitor) (l : Line) (ls : List Line) → Shows row l → IsFirst (find p rows) (filter q ls) → (b : Bool) → p row ≡ b → IsFirst (find p (row ∷ rows)) (filter q (l ∷ ls))
  first_by row rows l ls here later true test =
      let line : q l ≡ true = sym (agree row l here) ∙ test in
      rw (test, line) (l, filter q ls, refl, here)
  first_by row rows l ls here later false test =
      let line : q l ≡ false = sym (agree row l here) ∙ test in
      rw (test, line) later

  pub first_shows : (rows : List Visitor) (ls : List Line) → ShowAll rows ls → IsFirst (find p rows) (filter q ls)
  first_shows [] [] shows = refl
  first_shows [] (l ∷ ls) shows = absurd shows
  first_shows (row ∷ rows) [] shows = absurd shows
  first_shows (row ∷ rows) (l ∷ ls) shows = first_by row rows l ls shows.0 (first_shows rows ls shows.1) (p row) refl

  kept_by : (row : Visitor) (rows : List Visitor) (l : Line) (ls : List Line) → Shows row l → ShowAll (filter p rows) (filter q ls) → (b : Bool) → p row ≡ b → ShowAll (filter p (row ∷ rows)) (filter q (l ∷ ls))
  kept_by row rows l ls here later true test =
      let line : q l ≡ true = sym (agree row l here) ∙ test in
      rw (test, line) (here, later)
  kept_by row rows l ls here later false test =
      let line : q l ≡ false = sym (agree row l here) ∙ test in
      rw (test, line) later

  pub kept_show : (rows : List Visitor) (ls : List Line) → ShowAll rows ls → ShowAll (filter p rows) (filter q ls)
  kept_show [] [] shows = tt
  kept_show [] (l ∷ ls) shows = absurd shows
  kept_show (row ∷ rows) [] shows = absurd shows
  kept_show (row ∷ rows) (l ∷ ls) shows = kept_by row rows l ls shows.0 (kept_show rows ls shows.1) (p row) refl

  -- the number of the first
  pub first_is : (rows : List Visitor) (ls : List Line) (row : Visitor) → ShowAll rows ls → find p rows ≡ Some row → Some row.conn ≡ first_number (filter q ls)
  first_is rows ls row shows is =
      let first = subst (λ (o : Option Visitor). IsFirst o (filter q ls)) is (first_shows rows ls shows) in
      ap Some first.3.number ∙ sym (ap (λ (xs : List Line). first_number xs) first.2)

  pub none_is : (rows : List Visitor) (ls : List Line) → ShowAll rows ls → find p rows ≡ None → None ≡ first_number (filter q ls)
  none_is rows ls shows is =
      let none = subst (λ (o : Option Visitor). IsFirst o (filter q ls)) is (first_shows rows ls shows) in
      sym (ap (λ (xs : List Line). first_number xs) none)

pub strange_agree : Agree is_strange is_stranger
strange_agree row l shows = ap not shows.watch.let_in

pub overdue_agree : (now : ℕ) → Agree (has_stayed now) (is_overdue now)
overdue_agree now row l shows = ap₂ (λ (b : Bool) (t : ℕ). b && nat_le 10000 (now - t)) (strange_agree row l shows) shows.since

pub lingers_agree : (now wait : ℕ) → Agree (has_stayed_on now wait) (lingers now wait)
lingers_agree now wait row l shows = ap (lingers_by now wait) shows.told

pub others_agree : (c : ℕ) → Agree (λ row. not (row.conn == c)) (λ l. not (l.number == c))
others_agree c row l shows = ap (λ (n : ℕ). not (n == c)) shows.number

pub as_many_strange : (rows : List Visitor) (ls : List Line) → ShowAll rows ls → length (filter is_strange rows) ≡ length (strangers ls)
as_many_strange rows ls shows = as_many (filter is_strange rows) (strangers ls) (kept_show is_strange is_stranger strange_agree rows ls shows)

-- ---- who makes way

pub full_by : (n : ℕ) (ls : List Line) → n ≡ length (strangers ls) → nat_le 32 n ≡ true → nat_le 32 n ≡ is_full ls
full_by n ls is big =
    let there : nat_le 32 (length (strangers ls)) ≡ true = sym (ap (nat_le 32) is) ∙ big in
    big ∙ sym (ap (λ (b : Bool). b || nat_le 64 (length ls)) there)

pub full_by_all : (n k : ℕ) (ls : List Line) → n ≡ length (strangers ls) → nat_le 32 n ≡ false → k ≡ length ls → nat_le 64 k ≡ is_full ls
full_by_all n k ls is small all =
    let there : nat_le 32 (length (strangers ls)) ≡ false = sym (ap (nat_le 32) is) ∙ small in
    ap (nat_le 64) all ∙ sym (ap (λ (b : Bool). b || nat_le 64 (length ls)) there)

module _ (now : ℕ) (rows : List Visitor) (ls : List Line) (shows : ShowAll rows ls) where
  of_first : (l : Line) (rest : List Line) (b : Bool) → strangers ls ≡ l ∷ rest → nat_lt (now - l.since) 250 ≡ b → place_of_first now (strangers ls) ≡ cond b Later (Of l.number)
  of_first l rest b is test = ap (λ (xs : List Line). place_of_first now xs) is ∙ ap (λ (t : Bool). cond t Later (Of l.number)) test

  pub just_came : (row : Visitor) → find is_strange rows ≡ Some row → nat_lt (now - row.since) 250 ≡ true → Later ≡ place_of_first now (strangers ls)
  just_came row is test =
      let first = subst (λ (o : Option Visitor). IsFirst o (strangers ls)) is (first_shows is_strange is_stranger strange_agree rows ls shows) in
      sym (of_first first.0 first.1 true first.2 (ap (λ (s : ℕ). nat_lt (now - s) 250) (sym first.3.since) ∙ test))

  pub had_its_time : (row : Visitor) → find is_strange rows ≡ Some row → nat_lt (now - row.since) 250 ≡ false → Of row.conn ≡ place_of_first now (strangers ls)
  had_its_time row is test =
      let first = subst (λ (o : Option Visitor). IsFirst o (strangers ls)) is (first_shows is_strange is_stranger strange_agree rows ls shows) in
      ap Of first.3.number ∙ sym (of_first first.0 first.1 false first.2 (ap (λ (s : ℕ). nat_lt (now - s) 250) (sym first.3.since) ∙ test))

  pub nobody : find is_strange rows ≡ None → Free ≡ place_of_first now (strangers ls)
  nobody is =
      let none = subst (λ (o : Option Visitor). IsFirst o (strangers ls)) is (first_shows is_strange is_stranger strange_agree rows ls shows) in
      sym (ap (λ (xs : List Line). place_of_first now xs) none)

-- ---- the row of a connection

abbrev pub has : ℕ → Visitor → Bool
has c row = row.conn == c

-- the row at this place is that of the connection
pub record FoundAt (c : ℕ) (rows : List Visitor) (ls : List Line) (k : ℕ) : Type 0 where
  pub inside : k < length rows
  pub line : Line
  pub shows : (d : Visitor) → Shows (slice_index_or rows k d) line
  pub grows : (now : ℕ) (bytes : List ℕ) (after : Visitor) → Shows after (sent_more now bytes line) → ShowAll (slice_set rows k after) (after_sent c now bytes ls)

some_is : (i n : ℕ) → Some i ≡ Some n → n ≡ i
some_is i n is = cc

some_not_none : (i : ℕ) → Some i ≡ None → ⊥
some_not_none i is = absurd cc

zero_more : (k : ℕ) → 0 + k ≡ k
zero_more k = omega arith

abbrev Found : ℕ → List Visitor → List Line → ℕ → ℕ → Type 0
Found c rows ls i n = (k : ℕ) × (n ≡ i + k) × FoundAt c rows ls k

found_by : (c : ℕ) (row : Visitor) (rows : List Visitor) (l : Line) (ls : List Line) (i n : ℕ) → ((j : ℕ) → position_from (has c) j rows ≡ Some n → Found c rows ls j n) → (b : Bool) → (row.conn == c) ≡ b → ShowAll (row ∷ rows) (l ∷ ls) → position_from (has c) i (row ∷ rows) ≡ Some n → Found c (row ∷ rows) (l ∷ ls) i n
found_by c row rows l ls i n later true test shows is =
    let line : (l.number == c) ≡ true = ap (λ (m : ℕ). m == c) (sym shows.0.number) ∙ test in
    let at : n ≡ i = some_is i n (rw test at is) in (
      0,
      omega (arith, at),
      record {
        inside = omega arith;
        line = l;
        shows = λ d. shows.0;
        grows = λ now bytes after h. rw line (h, shows.1);
      },
    )
found_by c row rows l ls i n later false test shows is =
    let line : (l.number == c) ≡ false = ap (λ (m : ℕ). m == c) (sym shows.0.number) ∙ test in
    let rest = later (i + 1) (rw test at is) in (
      suc rest.0,
      omega (arith, rest.1),
      record {
        inside = omega (arith, rest.2.inside);
        line = rest.2.line;
        shows = λ d. rest.2.shows d;
        grows = λ now bytes after h. rw line (shows.0, rest.2.grows now bytes after h);
      },
    )

found : (c : ℕ) (rows : List Visitor) (ls : List Line) (i n : ℕ) → ShowAll rows ls → position_from (has c) i rows ≡ Some n → Found c rows ls i n
found c [] ls i n shows is = absurd cc
found c (row ∷ rows) [] i n shows is = absurd shows
found c (row ∷ rows) (l ∷ ls) i n shows is = found_by c row rows l ls i n (λ j here. found c rows ls j n shows.1 here) (row.conn == c) refl shows is

nowhere_by : (c now : ℕ) (bytes : List ℕ) (row : Visitor) (rows : List Visitor) (l : Line) (ls : List Line) (i : ℕ) → ((j : ℕ) → position_from (has c) j rows ≡ None → ShowAll rows (after_sent c now bytes ls)) → (b : Bool) → (row.conn == c) ≡ b → ShowAll (row ∷ rows) (l ∷ ls) → position_from (has c) i (row ∷ rows) ≡ None → ShowAll (row ∷ rows) (after_sent c now bytes (l ∷ ls))
nowhere_by c now bytes row rows l ls i later true test shows is = absurd (some_not_none i (rw test at is))
nowhere_by c now bytes row rows l ls i later false test shows is =
    let line : (l.number == c) ≡ false = ap (λ (m : ℕ). m == c) (sym shows.0.number) ∙ test in
    rw line (shows.0, later (i + 1) (rw test at is))

nowhere : (c now : ℕ) (bytes : List ℕ) (rows : List Visitor) (ls : List Line) (i : ℕ) → ShowAll rows ls → position_from (has c) i rows ≡ None → ShowAll rows (after_sent c now bytes ls)
nowhere c now bytes [] [] i shows is = tt
nowhere c now bytes [] (l ∷ ls) i shows is = absurd shows
nowhere c now bytes (row ∷ rows) [] i shows is = absurd shows
nowhere c now bytes (row ∷ rows) (l ∷ ls) i shows is = nowhere_by c now bytes row rows l ls i (λ j here. nowhere c now bytes rows ls j shows.1 here) (row.conn == c) refl shows is

-- by the place that the code finds
pub placed : (c : ℕ) (rows : List Visitor) (ls : List Line) (n : ℕ) → ShowAll rows ls → position (has c) rows ≡ Some n → FoundAt c rows ls n
placed c rows ls n shows is =
    let at = found c rows ls 0 n shows (sym (position_from-zero (has c) rows) ∙ is) in
    subst (FoundAt c rows ls) (sym (at.1 ∙ zero_more at.0)) at.2

pub unplaced : (c now : ℕ) (bytes : List ℕ) (rows : List Visitor) (ls : List Line) → ShowAll rows ls → position (has c) rows ≡ None → ShowAll rows (after_sent c now bytes ls)
unplaced c now bytes rows ls shows is = nowhere c now bytes rows ls 0 shows (sym (position_from-zero (has c) rows) ∙ is)

-- ---- more is sent on a connection

module _ (c now : ℕ) (bytes : List ℕ) (rows : List Visitor) (place : ℕ) (row after : Visitor) (is : position (has c) rows ≡ Some place) (is_row : row ≡ slice_index_or rows place row) where
  abbrev Grows : Type 0
  Grows = (l : Line) → Shows row l → Shows after (sent_more now bytes l)

  abbrev GrowsAll : Type 0
  GrowsAll = (ls : List Line) → ShowAll rows ls → ShowAll (slice_set rows place after) (after_sent c now bytes ls)

  grown : Grows → GrowsAll
  grown grows = λ ls shows.
      let at = placed c rows ls place shows is in
      at.grows now bytes after (grows at.line (subst (λ (r : Visitor). Shows r at.line) (sym is_row) (at.shows row)))

  pub grown_on_ok : (r : Result (Unit {0}) NoMemory) → OnOk r Grows → OnOk r GrowsAll
  grown_on_ok (Ok x) grows = grown grows
  grown_on_ok (Err e) grows = tt
