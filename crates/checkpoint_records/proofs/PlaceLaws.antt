-- Sessions by their places.
use Rattle.std.proofs.Common.{◌≡◌, ℕ, zero, suc, ◌+◌, ◌<◌, ◌≤◌, Bool, true, false, cond, ◌||◌, List, [], ◌∷◌, ◌++◌, length, take, drop, slice_index_or, refl, sym, ap, ap₂, ◌∙◌, append_assoc, arith, length-append}
use Rattle.std.specs.Prelude.{HoldsAt, insert, min, remove}
use Rattle.std.specs.List.{AllWithin, list_any}
use Rattle.std.specs.Str.{bytes_eq}
use Rattle.std.proofs.lemmas.Grind.{flat_map-append}
use Rattle.std.proofs.lemmas.List.{append-nil, drop_all, take_all, take_more}
use Rattle.std.proofs.lemmas.List.Folds.{list_any-append}
use Rattle.owned_lists.specs.declared.commands.Command.{Command}
use Rattle.checkpoint_records.specs.Books.{discards, entries_in, entries_of, is_before, others_than, stored, with_session}
use Rattle.checkpoint_records.specs.declared.records.Entry.{Entry}
use Rattle.checkpoint_records.specs.declared.records.Named.{Named}
use Rattle.checkpoint_records.proofs.ChoiceLaws.{discards_append}

abbrev pub ComesBefore : List ℕ → Named → Type 0
ComesBefore name session = is_before name session.name ≡ true

abbrev pub StandsBehind : List ℕ → Named → Type 0
StandsBehind name session = is_before name session.name ≡ false

pub placed : (s : Named) (all : List Named) (i : ℕ) → i < length all → HoldsAt (ComesBefore s.name) all i → AllWithin (StandsBehind s.name) all 0 i → with_session s all ≡ insert all i s
placed s [] i lt has lacks = absurd (omega (arith, lt))
placed s (x ∷ all) zero lt has lacks = (let first : is_before s.name x.name ≡ true = has x in rw first refl)
placed s (x ∷ all) (suc i) lt has lacks =
    let first : is_before s.name x.name ≡ false = lacks 0 x (omega arith) (omega arith) in
    let rest = placed s all i (omega (arith, lt)) has (λ k d low high. lacks (suc k) d (omega arith) (omega arith)) in
    rw (first, rest) refl

pub placed_last : (s : Named) (all : List Named) → AllWithin (StandsBehind s.name) all 0 (length all) → with_session s all ≡ insert all (length all) s
placed_last s [] lacks = refl
placed_last s (x ∷ all) lacks =
    let first : is_before s.name x.name ≡ false = lacks 0 x (omega arith) (omega arith) in
    let rest = placed_last s all (λ k d low high. lacks (suc k) d (omega arith) (omega arith)) in
    rw (first, rest) refl

abbrev pub IsCalled : List ℕ → Named → Type 0
IsCalled name session = bytes_eq name session.name ≡ true

abbrev pub IsCalledElse : List ℕ → Named → Type 0
IsCalledElse name session = bytes_eq name session.name ≡ false

pub entries_found : (name : List ℕ) (all : List Named) (i : ℕ) (x : Named) → i < length all → HoldsAt (IsCalled name) all i → AllWithin (IsCalledElse name) all 0 i → x ≡ slice_index_or all i x → entries_of name all ≡ x.entries
entries_found name [] i x lt has lacks is = absurd (omega (arith, lt))
entries_found name (s ∷ all) zero x lt has lacks is = (let first : bytes_eq name s.name ≡ true = has s in rw first (ap (λ (n : Named). n.entries) (sym is)))
entries_found name (s ∷ all) (suc i) x lt has lacks is =
    let first : bytes_eq name s.name ≡ false = lacks 0 s (omega arith) (omega arith) in
    rw first (entries_found name all i x (omega (arith, lt)) has (λ k d low high. lacks (suc k) d (omega arith) (omega arith)) is)

pub others_found : (name : List ℕ) (all : List Named) (i : ℕ) → i < length all → HoldsAt (IsCalled name) all i → AllWithin (IsCalledElse name) all 0 i → others_than name all ≡ remove all i
others_found name [] i lt has lacks = absurd (omega (arith, lt))
others_found name (s ∷ all) zero lt has lacks = (let first : bytes_eq name s.name ≡ true = has s in rw first refl)
others_found name (s ∷ all) (suc i) lt has lacks =
    let first : bytes_eq name s.name ≡ false = lacks 0 s (omega arith) (omega arith) in
    let rest = others_found name all i (omega (arith, lt)) has (λ k d low high. lacks (suc k) d (omega arith) (omega arith)) in
    rw (first, rest) refl

pub entries_nowhere : (name : List ℕ) (all : List Named) → AllWithin (IsCalledElse name) all 0 (length all) → entries_of name all ≡ []
entries_nowhere name [] lacks = refl
entries_nowhere name (s ∷ all) lacks =
    let first : bytes_eq name s.name ≡ false = lacks 0 s (omega arith) (omega arith) in
    rw first (entries_nowhere name all (λ k d low high. lacks (suc k) d (omega arith) (omega arith)))

pub others_nowhere : (name : List ℕ) (all : List Named) → AllWithin (IsCalledElse name) all 0 (length all) → others_than name all ≡ all
others_nowhere name [] lacks = refl
others_nowhere name (s ∷ all) lacks =
    let first : bytes_eq name s.name ≡ false = lacks 0 s (omega arith) (omega arith) in
    let rest = others_nowhere name all (λ k d low high. lacks (suc k) d (omega arith) (omega arith)) in
    rw (first, rest) refl

-- ---- all sessions, where one is chosen

with-length : (s : Named) (others : List Named) → length (with_session s others) ≡ length others + 1
with-length s [] = refl
with-length s (o ∷ others) = by (is_before s.name o.name) (with-length s others)
  where
    by : (b : Bool) → length (with_session s others) ≡ length others + 1 → length (cond b (s ∷ o ∷ others) (o ∷ with_session s others)) ≡ length (o ∷ others) + 1
    by true rest = omega arith
    by false rest = omega (arith, rest)

abbrev named : List ℕ → List Entry → Named
named name entries = record { name = name; entries = entries }

pub some_stored : (name : List ℕ) (entries : List Entry) (others : List Named) → ¬ (length entries ≡ 0) → stored name entries others ≡ with_session (named name entries) others
some_stored name [] others some = absurd (some refl)
some_stored name (e ∷ entries) others some = refl

pub one_counted : (name : List ℕ) (entries items : List Entry) (others rest : List Named) → items ≡ entries → rest ≡ others → ¬ (length items ≡ 0) → length rest + 1 ≡ length (stored name entries others)
one_counted name entries items others rest is_items is_rest some =
    sym (with-length (named name items) rest) ∙ ap length (sym (some_stored name items rest some) ∙ ap₂ (λ (es : List Entry) (os : List Named). stored name es os) is_items is_rest)

pub all_placed : (name : List ℕ) (entries items : List Entry) (others rest before behind : List Named) (place : ℕ) → items ≡ entries → rest ≡ others → ¬ (length items ≡ 0) → before ≡ take place rest → behind ≡ drop place rest
    → with_session (named name items) rest ≡ take place rest ++ named name items ∷ drop place rest → stored name entries others ≡ before ++ named name items ∷ behind
all_placed name entries items others rest before behind place is_items is_rest some front back is =
    ap₂ (λ (es : List Entry) (os : List Named). stored name es os) (sym is_items) (sym is_rest) ∙ some_stored name items rest some ∙ is
    ∙ ap₂ (λ (xs ys : List Named). xs ++ named name items ∷ ys) (sym front) (sym back)

-- ---- how many there are

pub counted_more : (all : List Named) (i : ℕ) (x : Named) → i < length all → x ≡ slice_index_or all i x → length (entries_in (take (i + 1) all)) ≡ length (entries_in (take i all)) + length x.entries
counted_more all i x lt is =
    let grown : take (i + 1) all ≡ take i all ++ x ∷ [] = take_more all i x lt ∙ ap (λ (y : Named). take i all ++ y ∷ []) (sym is) in
    ap (λ (l : List Named). length (entries_in l)) grown ∙ ap length (flat_map-append (λ (s : Named). s.entries) (take i all) (x ∷ [])) ∙ length-append (entries_in (take i all)) (x.entries ++ [])
    ∙ ap (λ (l : List Entry). length (entries_in (take i all)) + length l) (append-nil x.entries)

pub all_counted : (entries : List Entry) (all others : List Named) (i total : ℕ) → all ≡ others → length all ≤ i → total ≡ min (length entries + length (entries_in (take i all))) 18446744073709551615 → total ≡ min (length (entries ++ entries_in others)) 18446744073709551615
all_counted entries all others i total is past so_far =
    so_far ∙ ap (λ (l : List Named). min (length entries + length (entries_in l)) 18446744073709551615) (take_all i all past ∙ is) ∙ ap (λ (n : ℕ). min n 18446744073709551615) (sym (length-append entries (entries_in others)))

empty_stored : (name : List ℕ) (entries : List Entry) (others : List Named) → length entries ≡ 0 → stored name entries others ≡ others
empty_stored name [] others e = refl
empty_stored name (x ∷ entries) others e = absurd (omega (arith, e))

-- the chosen session has no entries
pub others_counted : (name : List ℕ) (entries items : List Entry) (others rest : List Named) → items ≡ entries → rest ≡ others → length items ≡ 0 → length rest ≡ length (stored name entries others)
others_counted name entries items others rest is_items is_rest none = ap length (is_rest ∙ sym (empty_stored name entries others (ap length (sym is_items) ∙ none)))

-- ---- the entries and commands of sessions one after the other

pub next_of : {A : Type 0} (xs : List A) (i : ℕ) (x : A) → i < length xs → x ≡ slice_index_or xs i x → drop i xs ≡ x ∷ drop (i + 1) xs
next_of [] i x lt is = absurd (omega (arith, lt))
next_of {A} (y ∷ ys) zero x lt is = ap (λ (z : A). z ∷ ys) (sym is)
next_of {A} (y ∷ ys) (suc i) x lt is =
    let same : suc (i + 1) ≡ suc i + 1 = omega arith in
    next_of ys i x (omega (arith, lt)) is ∙ ap (λ (n : ℕ). x ∷ drop n (y ∷ ys)) same

pub discards_of_next : (all : List Named) (i : ℕ) (x : Named) → i < length all → x ≡ slice_index_or all i x → discards (entries_in (drop i all)) ≡ discards x.entries ++ discards (entries_in (drop (i + 1) all))
discards_of_next all i x lt is = ap (λ (l : List Named). discards (entries_in l)) (next_of all i x lt is) ∙ discards_append x.entries (entries_in (drop (i + 1) all))

pub discards_walked : (all : List Named) (i : ℕ) (x : Named) (items : List Entry) (old new : List Command) → i < length all → x ≡ slice_index_or all i x → items ≡ x.entries → new ≡ old ++ discards items
    → old ++ discards (entries_in (drop i all)) ≡ discards (entries_in all) → new ++ discards (entries_in (drop (i + 1) all)) ≡ discards (entries_in all)
discards_walked all i x items old new lt is is_items more so_far =
    let left = discards (entries_in (drop (i + 1) all)) in
    ap (λ (l : List Command). l ++ left) (more ∙ ap (λ (es : List Entry). old ++ discards es) is_items) ∙ append_assoc old (discards x.entries) left
    ∙ ap (λ (l : List Command). old ++ l) (sym (discards_of_next all i x lt is)) ∙ so_far

-- ---- the commands that a book names

pub discards_first : (entries items : List Entry) (others rest : List Named) (start commands : List Command) → start ≡ [] → items ≡ entries → rest ≡ others → commands ≡ start ++ discards items → commands ++ discards (entries_in rest) ≡ discards (entries ++ entries_in others)
discards_first entries items others rest start commands is_start is_items is_rest is =
    ap (λ (l : List Command). l ++ discards (entries_in rest)) (is ∙ ap (λ (l : List Command). l ++ discards items) is_start) ∙ ap₂ (λ (es : List Entry) (os : List Named). discards es ++ discards (entries_in os)) is_items is_rest ∙ sym (discards_append entries (entries_in others))

pub discards_more : (all : List Named) (i : ℕ) (x : Named) (items : List Entry) (old new whole : List Command) → i < length all → x ≡ slice_index_or all i x → items ≡ x.entries → new ≡ old ++ discards items → old ++ discards (entries_in (drop i all)) ≡ whole → new ++ discards (entries_in (drop (i + 1) all)) ≡ whole
discards_more all i x items old new whole lt is is_items more so_far =
    let left = discards (entries_in (drop (i + 1) all)) in
    ap (λ (l : List Command). l ++ left) (more ∙ ap (λ (es : List Entry). old ++ discards es) is_items) ∙ append_assoc old (discards x.entries) left ∙ ap (λ (l : List Command). old ++ l) (sym (discards_of_next all i x lt is)) ∙ so_far

pub discards_all : (all : List Named) (i : ℕ) (commands whole : List Command) → length all ≤ i → commands ++ discards (entries_in (drop i all)) ≡ whole → commands ≡ whole
discards_all all i commands whole past so_far = sym (append-nil commands) ∙ ap (λ (l : List Named). commands ++ discards (entries_in l)) (sym (drop_all i all past)) ∙ so_far

-- ---- whether one of the entries is such a one

pub any_in_each : (test : Entry → Bool) (all : List Named) → list_any (λ (s : Named). list_any test s.entries) all ≡ list_any test (entries_in all)
any_in_each test [] = refl
any_in_each test (x ∷ all) = ap (λ (b : Bool). list_any test x.entries || b) (any_in_each test all) ∙ sym (list_any-append test x.entries (entries_in all))

pub any_in_book : (test : Entry → Bool) (entries items : List Entry) (others rest : List Named) → items ≡ entries → rest ≡ others → (list_any test items || list_any (λ (s : Named). list_any test s.entries) rest) ≡ list_any test (entries ++ entries_in others)
any_in_book test entries items others rest is_items is_rest =
    ap (λ (b : Bool). list_any test items || b) (any_in_each test rest) ∙ ap₂ (λ (es : List Entry) (os : List Named). list_any test es || list_any test (entries_in os)) is_items is_rest ∙ sym (list_any-append test entries (entries_in others))

-- ---- whether one is named

either : (a b : Bool) → a ≡ false → (a || b) ≡ b
either true b e = absurd (let t : true ≡ false = e in cc)
either false b e = refl

any_of_next : (test : Command → Bool) (all : List Named) (i : ℕ) (x : Named) → i < length all → x ≡ slice_index_or all i x
    → list_any test (discards (entries_in (drop i all))) ≡ (list_any test (discards x.entries) || list_any test (discards (entries_in (drop (i + 1) all))))
any_of_next test all i x lt is = ap (list_any test) (discards_of_next all i x lt is) ∙ list_any-append test (discards x.entries) (discards (entries_in (drop (i + 1) all)))

module _ (test : Command → Bool) where
  -- it is none of those of the first entries, so it is one of all where it is one of the others'
  pub none_chosen : (entries items : List Entry) (others all : List Named) → items ≡ entries → all ≡ others → list_any test (discards items) ≡ false
      → list_any test (discards (entries_in all)) ≡ list_any test (discards (entries ++ entries_in others))
  none_chosen entries items others all is_items is_all none =
      sym (either (list_any test (discards items)) (list_any test (discards (entries_in all))) none) ∙ sym (list_any-append test (discards items) (discards (entries_in all)))
      ∙ ap (list_any test) (sym (discards_append items (entries_in all))) ∙ ap₂ (λ (es : List Entry) (os : List Named). list_any test (discards (es ++ entries_in os))) is_items is_all

  pub some_chosen : (entries items : List Entry) (others : List Named) → items ≡ entries → list_any test (discards items) ≡ true → true ≡ list_any test (discards (entries ++ entries_in others))
  some_chosen entries items others is_items some =
      let front = ap (λ (b : Bool). b || list_any test (discards (entries_in others))) (sym some ∙ ap (λ (es : List Entry). list_any test (discards es)) is_items) in
      front ∙ sym (list_any-append test (discards entries) (discards (entries_in others))) ∙ ap (list_any test) (sym (discards_append entries (entries_in others)))

  pub none_further : (all : List Named) (i : ℕ) (x : Named) (items : List Entry) → i < length all → x ≡ slice_index_or all i x → items ≡ x.entries → list_any test (discards items) ≡ false
      → list_any test (discards (entries_in (drop (i + 1) all))) ≡ list_any test (discards (entries_in (drop i all)))
  none_further all i x items lt is is_items none =
      sym (any_of_next test all i x lt is ∙ either (list_any test (discards x.entries)) (list_any test (discards (entries_in (drop (i + 1) all)))) (ap (λ (es : List Entry). list_any test (discards es)) (sym is_items) ∙ none))

  pub some_further : (all : List Named) (i : ℕ) (x : Named) (items : List Entry) → i < length all → x ≡ slice_index_or all i x → items ≡ x.entries → list_any test (discards items) ≡ true
      → true ≡ list_any test (discards (entries_in (drop i all)))
  some_further all i x items lt is is_items some =
      ap (λ (b : Bool). b || list_any test (discards (entries_in (drop (i + 1) all)))) (sym some ∙ ap (λ (es : List Entry). list_any test (discards es)) is_items) ∙ sym (any_of_next test all i x lt is)
