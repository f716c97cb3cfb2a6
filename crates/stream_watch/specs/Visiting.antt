-- Who is at the door, said over all that the manager sent on each connection; and who makes way for others. Times are in milliseconds.
use Rattle.std.specs.Prelude.{◌≡◌, ℕ, ◌-◌, Bool, true, false, not, ◌&&◌, ◌||◌, ◌==◌, nat_le, nat_lt, List, [], ◌∷◌, ◌++◌, length, map, filter, Option, Some, None, if◌then◌else◌}
use Rattle.stream_watch.specs.Watching.{is_let_in, is_told_to_die, Follows}
use Rattle.stream_watch.specs.declared.visitor.Visitor.{Visitor}
use Rattle.stream_watch.specs.declared.visitors.Place.{Place}
use Rattle.stream_watch.specs.declared.visitors.Place.TheVariants.{Free, Of, Later}

-- a live connection: its number, when it came, all that was sent on it, and when Die first was
pub record Line : Type 0 where
  pub number : ℕ
  pub since : ℕ
  pub sent : List ℕ
  pub told : Option ℕ

-- ---- what happens, to those who are live, in the order in which they came

abbrev pub told_by : Option ℕ → ℕ → Bool → Option ℕ
told_by (Some then_) now is_told = Some then_
told_by None now true = Some now
told_by None now false = None

-- more was sent on it
abbrev pub sent_more : ℕ → List ℕ → Line → Line
sent_more now bytes l = record { number = l.number; since = l.since; sent = l.sent ++ bytes; told = told_by l.told now (is_told_to_die (l.sent ++ bytes)) }

abbrev pub after_sent : ℕ → ℕ → List ℕ → List Line → List Line
after_sent c now bytes [] = []
after_sent c now bytes (l ∷ ls) = if l.number == c then sent_more now bytes l ∷ ls else l ∷ after_sent c now bytes ls

-- it is closed
abbrev pub without : ℕ → List Line → List Line
without c ls = filter (λ (l : Line). not (l.number == c)) ls

-- ---- who makes way

-- a connection to which no ConnectionReply was sent
abbrev pub is_stranger : Line → Bool
is_stranger l = not (is_let_in l.sent)

abbrev pub strangers : List Line → List Line
strangers ls = filter is_stranger ls

-- 32 strangers are there, or 64 connections
abbrev pub is_full : List Line → Bool
is_full ls = nat_le 32 (length (strangers ls)) || nat_le 64 (length ls)

-- The stranger that came first makes way, once it has had 250 milliseconds.
abbrev pub place_of_first : ℕ → List Line → Place
place_of_first now [] = Free
place_of_first now (l ∷ ls) = if nat_lt (now - l.since) 250 then Later else Of l.number

abbrev pub place_for_one_more : ℕ → List Line → Place
place_for_one_more now ls = if is_full ls then place_of_first now (strangers ls) else Free

abbrev pub first_number : List Line → Option ℕ
first_number [] = None
first_number (l ∷ ls) = Some l.number

-- a stranger of ten seconds
abbrev pub is_overdue : ℕ → Line → Bool
is_overdue now l = is_stranger l && nat_le 10000 (now - l.since)

abbrev pub overdue : ℕ → List Line → Option ℕ
overdue now ls = first_number (filter (is_overdue now) ls)

-- Die was sent so long ago
abbrev pub lingers_by : ℕ → ℕ → Option ℕ → Bool
lingers_by now wait None = false
lingers_by now wait (Some told) = nat_le wait (now - told)

abbrev pub lingers : ℕ → ℕ → Line → Bool
lingers now wait l = lingers_by now wait l.told

abbrev pub lingering : ℕ → ℕ → List Line → Option ℕ
lingering now wait ls = first_number (filter (lingers now wait) ls)

-- ---- what is kept of each connection

pub record Shows (row : Visitor) (l : Line) : Type 0 where
  pub number : row.conn ≡ l.number
  pub since : row.since ≡ l.since
  pub told : row.told ≡ l.told
  pub watch : Follows l.sent row.watch

-- each in its place
abbrev pub ShowAll : List Visitor → List Line → Type 0
ShowAll [] [] = Unit {0}
ShowAll [] (l ∷ ls) = ⊥
ShowAll (row ∷ rows) [] = ⊥
ShowAll (row ∷ rows) (l ∷ ls) = Shows row l × ShowAll rows ls

-- a row, where there is one, is of this connection
abbrev pub is_of : ℕ → Option Visitor → Bool
is_of c None = false
is_of c (Some row) = row.conn == c

abbrev pub numbers : List Visitor → List ℕ
numbers rows = map (λ (row : Visitor). row.conn) rows

-- a number isn't among these
abbrev pub IsAbsent : ℕ → List ℕ → Type 0
IsAbsent c [] = Unit {0}
IsAbsent c (n ∷ ns) = ((n == c) ≡ false) × IsAbsent c ns

-- none stands twice
abbrev pub AreOnce : List ℕ → Type 0
AreOnce [] = Unit {0}
AreOnce (n ∷ ns) = IsAbsent n ns × AreOnce ns

abbrev pub is_strange : Visitor → Bool
is_strange row = not row.watch.let_in

abbrev pub has_stayed : ℕ → Visitor → Bool
has_stayed now row = is_strange row && nat_le 10000 (now - row.since)

abbrev pub has_stayed_on : ℕ → ℕ → Visitor → Bool
has_stayed_on now wait row = lingers_by now wait row.told
