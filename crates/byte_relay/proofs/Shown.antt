-- The rows of a relay, against the lines that they show.
use Rattle.std.proofs.Common.{◌≡◌, ℕ, suc, ◌+◌, ◌<◌, ◌≤◌, Bool, true, false, List, [], ◌∷◌, ◌++◌, length, Some, None, cond, not, refl, sym, ap, ap₂, ◌∙◌, subst, arith, slice_index_or, slice_set}
use Rattle.std.specs.Prelude.{◌==◌, ◌&&◌, ◌||◌, position}
use Rattle.std.specs.List.{position_from}
use Rattle.std.proofs.lemmas.Bool.{eqb-true, eq-eqb}
use Rattle.std.proofs.lemmas.Iterator.Adapters.{position_from-zero}
use Rattle.ice_framing.specs.Frames.{fed, cut, beginning, units, unit_limit, standing_of, Standing}
use Rattle.ice_framing.specs.Parts.{Part, parts_at, parts_of, new_parts}
use Rattle.ice_framing.proofs.Parts.{parts_of-append, new_parts-is, parts_at-partial}
use Rattle.ice_framing.proofs.Streams.{standing_of-append}
use Rattle.ice_values.specs.declared.numbers.Endian.{Endian}
use Rattle.byte_relay.specs.Relaying.{Line, partner, stream_of, is_live, parted, fed_on, are_none, is_fresh, passed}
use Rattle.byte_relay.specs.Rows.{Shows, ShowAll, parted_rows, Grows, passed_on}
use Rattle.byte_relay.specs.declared.row.Row.{Row}
use Rattle.byte_relay.proofs.Framed.{settled}

abbrev pub has : ℕ → Row → Bool
has c row = row.conn == c

pub as_many : (rows : List Row) (ls : List Line) → ShowAll rows ls → length rows ≡ length ls
as_many [] [] shows = refl
as_many [] (l ∷ ls) shows = absurd shows
as_many (row ∷ rows) [] shows = absurd shows
as_many (row ∷ rows) (l ∷ ls) shows = ap suc (as_many rows ls shows.1)

pub one_more : (rows : List Row) (ls : List Line) (row : Row) (l : Line) → ShowAll rows ls → Shows row l → ShowAll (rows ++ row ∷ []) (ls ++ l ∷ [])
one_more [] [] row l shows here = (here, tt)
one_more [] (k ∷ ls) row l shows here = absurd shows
one_more (r ∷ rows) [] row l shows here = absurd shows
one_more (r ∷ rows) (k ∷ ls) row l shows here = (shows.0, one_more rows ls row l shows.1 here)

-- the row at this place is that of the connection
pub record FoundAt (c : ℕ) (rows : List Row) (ls : List Line) (k : ℕ) : Type 0 where
  pub inside : k < length rows
  pub number : (d : Row) → (slice_index_or rows k d).conn ≡ c
  pub stream : List ℕ
  pub is : stream_of c ls ≡ Some stream
  pub shows : (d : Row) → Shows (slice_index_or rows k d) (record { number = c; stream = stream })
  pub grows : (bytes : List ℕ) (after : Row) → Shows after (record { number = c; stream = stream ++ bytes }) → ShowAll (slice_set rows k after) (fed_on c bytes ls)
  pub gone : (after : Row) → after.conn ≡ c → parted_rows c (slice_set rows k after) ≡ parted_rows c rows

some_is : (i n : ℕ) → Some i ≡ Some n → n ≡ i
some_is i n is = cc

some_not_none : (i : ℕ) → Some i ≡ None → ⊥
some_not_none i is = absurd cc

zero_more : (k : ℕ) → 0 + k ≡ k
zero_more k = omega arith

drops : (c : ℕ) (row : Row) (rows : List Row) → (row.conn == c) ≡ true → parted_rows c (row ∷ rows) ≡ parted_rows c rows
drops c row rows test = rw test refl

abbrev Found : ℕ → List Row → List Line → ℕ → ℕ → Type 0
Found c rows ls i n = (k : ℕ) × (n ≡ i + k) × FoundAt c rows ls k

found_by : (c : ℕ) (row : Row) (rows : List Row) (l : Line) (ls : List Line) (i n : ℕ) → ((j : ℕ) → position_from (has c) j rows ≡ Some n → Found c rows ls j n) → (b : Bool) → (row.conn == c) ≡ b → ShowAll (row ∷ rows) (l ∷ ls) → position_from (has c) i (row ∷ rows) ≡ Some n → Found c (row ∷ rows) (l ∷ ls) i n
found_by c row rows l ls i n later true test shows is =
    let same : row.conn ≡ c = eqb-true row.conn c test in
    let line : (l.number == c) ≡ true = ap (λ (m : ℕ). m == c) (sym shows.0.number) ∙ test in
    let at : n ≡ i = some_is i n (rw test at is) in (
      0,
      omega (arith, at),
      record {
        inside = omega arith;
        number = λ d. same;
        stream = l.stream;
        is = rw line refl;
        shows = λ d. record { number = same; splitter = shows.0.splitter; fresh = shows.0.fresh };
        grows = λ bytes after h. rw line (record { number = h.number ∙ (sym same ∙ shows.0.number); splitter = h.splitter; fresh = h.fresh }, shows.1);
        gone = λ after here. drops c after rows (eq-eqb after.conn c here) ∙ sym (drops c row rows test);
      },
    )
found_by c row rows l ls i n later false test shows is =
    let line : (l.number == c) ≡ false = ap (λ (m : ℕ). m == c) (sym shows.0.number) ∙ test in
    let rest = later (i + 1) (rw test at is) in (
      suc rest.0,
      omega (arith, rest.1),
      record {
        inside = omega (arith, rest.2.inside);
        number = λ d. rest.2.number d;
        stream = rest.2.stream;
        is = rw line rest.2.is;
        shows = λ d. rest.2.shows d;
        grows = λ bytes after h. rw line (shows.0, rest.2.grows bytes after h);
        gone = λ after here. ap (λ (xs : List Row). cond (not (row.conn == c || row.conn == partner c)) (row ∷ xs) xs) (rest.2.gone after here);
      },
    )

found : (c : ℕ) (rows : List Row) (ls : List Line) (i n : ℕ) → ShowAll rows ls → position_from (has c) i rows ≡ Some n → Found c rows ls i n
found c [] ls i n shows is = absurd cc
found c (row ∷ rows) [] i n shows is = absurd shows
found c (row ∷ rows) (l ∷ ls) i n shows is = found_by c row rows l ls i n (λ j here. found c rows ls j n shows.1 here) (row.conn == c) refl shows is

nowhere_by : (c : ℕ) (row : Row) (rows : List Row) (l : Line) (ls : List Line) (i : ℕ) → ((j : ℕ) → position_from (has c) j rows ≡ None → stream_of c ls ≡ None) → (b : Bool) → (row.conn == c) ≡ b → ShowAll (row ∷ rows) (l ∷ ls) → position_from (has c) i (row ∷ rows) ≡ None → stream_of c (l ∷ ls) ≡ None
nowhere_by c row rows l ls i later true test shows is = absurd (some_not_none i (rw test at is))
nowhere_by c row rows l ls i later false test shows is =
    let line : (l.number == c) ≡ false = ap (λ (m : ℕ). m == c) (sym shows.0.number) ∙ test in
    rw line (later (i + 1) (rw test at is))

nowhere : (c : ℕ) (rows : List Row) (ls : List Line) (i : ℕ) → ShowAll rows ls → position_from (has c) i rows ≡ None → stream_of c ls ≡ None
nowhere c [] [] i shows is = refl
nowhere c [] (l ∷ ls) i shows is = absurd shows
nowhere c (row ∷ rows) [] i shows is = absurd shows
nowhere c (row ∷ rows) (l ∷ ls) i shows is = nowhere_by c row rows l ls i (λ j here. nowhere c rows ls j shows.1 here) (row.conn == c) refl shows is

-- by the place that the code finds
pub placed : (c : ℕ) (rows : List Row) (ls : List Line) (n : ℕ) → ShowAll rows ls → position (has c) rows ≡ Some n → FoundAt c rows ls n
placed c rows ls n shows is =
    let at = found c rows ls 0 n shows (sym (position_from-zero (has c) rows) ∙ is) in
    subst (FoundAt c rows ls) (sym (at.1 ∙ zero_more at.0)) at.2

pub is_placed : (c : ℕ) (rows : List Row) (ls : List Line) (n : ℕ) → FoundAt c rows ls n → true ≡ is_live c ls
is_placed c rows ls n at = rw at.is refl

pub unplaced : (c : ℕ) (rows : List Row) (ls : List Line) → ShowAll rows ls → position (has c) rows ≡ None → stream_of c ls ≡ None
unplaced c rows ls shows is = nowhere c rows ls 0 shows (sym (position_from-zero (has c) rows) ∙ is)

parted_by : (c : ℕ) (row : Row) (rows : List Row) (l : Line) (ls : List Line) → ShowAll (parted_rows c rows) (parted c ls) → (b : Bool) → not (row.conn == c || row.conn == partner c) ≡ b → ShowAll (row ∷ rows) (l ∷ ls) → ShowAll (parted_rows c (row ∷ rows)) (parted c (l ∷ ls))
parted_by c row rows l ls rest true test shows =
    let line : not (l.number == c || l.number == partner c) ≡ true = ap (λ (m : ℕ). not (m == c || m == partner c)) (sym shows.0.number) ∙ test in
    rw (test, line) (shows.0, rest)
parted_by c row rows l ls rest false test shows =
    let line : not (l.number == c || l.number == partner c) ≡ false = ap (λ (m : ℕ). not (m == c || m == partner c)) (sym shows.0.number) ∙ test in
    rw (test, line) rest

pub parted_shows : (c : ℕ) (rows : List Row) (ls : List Line) → ShowAll rows ls → ShowAll (parted_rows c rows) (parted c ls)
parted_shows c [] [] shows = tt
parted_shows c [] (l ∷ ls) shows = absurd shows
parted_shows c (row ∷ rows) [] shows = absurd shows
parted_shows c (row ∷ rows) (l ∷ ls) shows = parted_by c row rows l ls (parted_shows c rows ls shows.1) (not (row.conn == c || row.conn == partner c)) refl shows

-- a connection on which nothing came
pub shows_new : (row : Row) (c : ℕ) → row.conn ≡ c → row.fresh ≡ true → row.splitter ≡ beginning → Shows row (record { number = c; stream = [] })
shows_new row c number fresh splitter = record {
  number = number;
  splitter = splitter ∙ sym (settled beginning (omega arith) (omega arith));
  fresh = fresh ∙ sym (ap are_none (parts_at-partial beginning (omega arith) (omega arith)));
}

-- ---- a piece on a connection

none_of_both : (xs ys : List Part) → are_none (xs ++ ys) ≡ (are_none xs && are_none ys)
none_of_both [] ys = refl
none_of_both (x ∷ xs) ys = refl

module _ (row : Row) (c : ℕ) (stream piece : List ℕ) (shows : Shows row (record { number = c; stream = stream })) where
  within : units (standing_of stream) ≤ unit_limit
  within = subst (λ (at : Standing). units at ≤ unit_limit) shows.splitter row.within

  new_is : parts_at (fed row.splitter piece) ≡ new_parts stream piece
  new_is = ap (λ (at : Standing). parts_at (fed at piece)) shows.splitter ∙ sym (new_parts-is stream piece within)

  pub passed_is : (to : Endian) → passed_on to row piece ≡ passed to (is_fresh stream) (new_parts stream piece)
  passed_is to = ap₂ (passed to) shows.fresh new_is

  pub grown_shows : (after : Row) → after.conn ≡ row.conn → Grows row piece after → Shows after (record { number = c; stream = stream ++ piece })
  grown_shows after same grows = record {
    number = same ∙ shows.number;
    splitter = grows.splitter ∙ (ap (λ (at : Standing). (cut (fed at piece)).standing) shows.splitter ∙ sym (standing_of-append stream piece));
    fresh = grows.fresh
        ∙ (ap₂ (λ (b : Bool) (at : Standing). b && are_none (parts_at (fed at piece))) shows.fresh shows.splitter
        ∙ (sym (none_of_both (parts_of stream) (parts_at (fed (standing_of stream) piece))) ∙ ap are_none (sym (parts_of-append stream piece within))));
  }
