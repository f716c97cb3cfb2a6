-- A trace that is read line by line, and that a text has one reading at most.
use Rattle.std.proofs.Common.{◌≡◌, ◌⊎◌, inl, inr, true, false, ℕ, ◌+◌, ◌<◌, ◌≤◌, ◌==◌, List, [], ◌∷◌, ◌++◌, length, drop, take, Option, Some, None, refl, sym, ◌∙◌, ap, subst, arith, append_assoc, length-append}
use Rattle.std.proofs.lemmas.Bool.{cases_lt, false≢true}
use Rattle.std.proofs.lemmas.Bool.Decides.{Decides-eqb}
use Rattle.std.proofs.lemmas.List.{append-nil}
use Rattle.std.proofs.lemmas.Grind.{flat_map-append}
use Rattle.std.specs.List.{AllByRecursion}
use Rattle.sm_world.specs.Events.{HasPieceSize}
use Rattle.sm_world.specs.declared.events.Event.{Event}
use Rattle.sm_world.specs.declared.events.Event.TheVariants.{Joined, Piece, Gone, Operator, Tick, End as AtEnd}
use Rattle.control_lines.specs.Script.{Says}
use Rattle.ice_framing.proofs.Cuts.{cond-both}
use Rattle.control_lines.specs.Laws.{MeansOne}
use Rattle.control_lines.specs.Lines.{before_lines, lines_of}
use Rattle.trace_replay.specs.Grammar.{SaysLine, SayLines}
use Rattle.trace_replay.specs.Openings.{HasRoom, Open, behind_opening, count_of, line_of_book, size_of}
use Rattle.trace_replay.specs.Traces.{IsFirstBad, IsMalformed, IsNone, IsTrace, ReadsAs, SaysTrace, event_in, events_in}
use Rattle.trace_replay.specs.declared.lines.TraceLine.{TraceLine}
use Rattle.trace_replay.specs.declared.lines.TraceLine.TheVariants.{Heard, End, Sent, Shut, Started, Printed}
use Rattle.trace_replay.specs.declared.opening.Opening.{Opening}
use Rattle.trace_replay.specs.declared.reading.Reading.TheVariants.{Whole}
use Rattle.trace_replay.proofs.OpeningLemmas.{one_opening, open_cut, open_front, opening_length, opening_parts, same_head, same_tail}

-- ---- lines and what they say

pub say_one_more : (lines : List (List ℕ)) (said : List TraceLine) (line : List ℕ) (one : TraceLine) → SayLines lines said → SaysLine line one → SayLines (lines ++ line ∷ []) (said ++ one ∷ [])
say_one_more [] [] line one say says = (says, tt)
say_one_more [] (first ∷ said) line one say says = elim say [ ]
say_one_more (first ∷ lines) [] line one say says = elim say [ ]
say_one_more (first ∷ lines) (meant ∷ said) line one say says = (say.0, say_one_more lines said line one say.1 says)

-- the last of some lines says something
last_says : (lines : List (List ℕ)) (line : List ℕ) (said : List TraceLine) → SayLines (lines ++ line ∷ []) said → (meaning : TraceLine) × SaysLine line meaning
last_says [] line [] say = elim say [ ]
last_says [] line (meaning ∷ said) say = (meaning, say.0)
last_says (first ∷ lines) line [] say = elim say [ ]
last_says (first ∷ lines) line (meaning ∷ said) say = last_says lines line said say.1

-- the first of some lines say something
first_say : (lines others : List (List ℕ)) (said : List TraceLine) → SayLines (lines ++ others) said → (less : List TraceLine) × SayLines lines less
first_say [] others said say = ([], tt)
first_say (line ∷ lines) others [] say = elim say [ ]
first_say (line ∷ lines) others (meaning ∷ said) say = let less = first_say lines others said say.1 in (meaning ∷ less.0, (say.0, less.1))

-- ---- parts of lists

same_back : (xs ys zs : List (List ℕ)) → xs ++ zs ≡ ys ++ zs → xs ≡ ys
same_back [] [] zs e = refl
same_back [] (y ∷ ys) zs e = absurd (omega (arith, ap length e, length-append ys zs))
same_back (x ∷ xs) [] zs e = absurd (omega (arith, ap length e, length-append xs zs))
same_back (x ∷ xs) (y ∷ ys) zs e = ap (λ (first : List ℕ). first ∷ xs) (same_head x y (xs ++ zs) (ys ++ zs) e) ∙ ap (λ others. y ∷ others) (same_back xs ys zs (same_tail x y (xs ++ zs) (ys ++ zs) e))

-- of two fronts of one list the longer begins with the shorter and the item behind it
longer : (xs : List (List ℕ)) (x : List ℕ) (xs' ys ys' : List (List ℕ)) → xs ++ x ∷ xs' ≡ ys ++ ys' → length xs < length ys → (more : List (List ℕ)) × (ys ≡ (xs ++ x ∷ []) ++ more)
longer xs x xs' [] ys' e short = absurd (omega (arith, short))
longer [] x xs' (y ∷ ys) ys' e short = (ys, ap (λ (first : List ℕ). first ∷ ys) (sym (same_head x y xs' (ys ++ ys') e)))
longer (z ∷ xs) x xs' (y ∷ ys) ys' e short =
    let rest = longer xs x xs' ys ys' (same_tail z y (xs ++ x ∷ xs') (ys ++ ys') e) (omega (arith, short)) in
    (rest.0, ap (λ others. y ∷ others) rest.1 ∙ ap (λ (first : List ℕ). first ∷ (xs ++ x ∷ []) ++ rest.0) (sym (same_head z y (xs ++ x ∷ xs') (ys ++ ys') e)))

-- the last of some items
last_of : (x : List ℕ) (xs : List (List ℕ)) → (front : List (List ℕ)) × ((last : List ℕ) × (x ∷ xs ≡ front ++ last ∷ []))
last_of x [] = ([], (x, refl))
last_of x (y ∷ xs) = let rest = last_of y xs in (x ∷ rest.0, (rest.1.0, ap (λ others. x ∷ others) rest.1.1))

length-before : (b : ℕ) (lines : List (List ℕ)) → length (before_lines b lines) ≤ 1 + length lines
length-before b [] = omega arith
length-before b (line ∷ lines) = omega arith

-- a text has no more lines than bytes
pub length-lines_of : (text : List ℕ) → length (lines_of text) ≤ length text
length-lines_of [] = omega arith
length-lines_of (b ∷ bytes) =
    cond-both (λ (lines : List (List ℕ)). length lines ≤ length (b ∷ bytes)) (b == 10) ([] ∷ lines_of bytes) (before_lines b (lines_of bytes))
    (λ newline. omega (arith, length-lines_of bytes))
    (λ other. omega (arith, length-lines_of bytes, length-before b (lines_of bytes)))

-- a text with a byte has a line
some_line : (b : ℕ) (bytes : List ℕ) → (line : List ℕ) × ((others : List (List ℕ)) × (lines_of (b ∷ bytes) ≡ line ∷ others))
some_line b bytes =
    cond-both (λ (lines : List (List ℕ)). (line : List ℕ) × ((others : List (List ℕ)) × (lines ≡ line ∷ others))) (b == 10) ([] ∷ lines_of bytes) (before_lines b (lines_of bytes))
    (λ newline. ([], (lines_of bytes, refl)))
    (λ other. before (lines_of bytes))
  where
    before : (lines : List (List ℕ)) → (line : List ℕ) × ((others : List (List ℕ)) × (before_lines b lines ≡ line ∷ others))
    before [] = (b ∷ [], ([], refl))
    before (line ∷ lines) = (b ∷ line, (lines, refl))

-- ---- fronts of a trace

-- each front of a trace is one
pub trace_front : (lines others : List (List ℕ)) (opening : Opening) (said : List TraceLine) → IsTrace (lines ++ others) opening said → (less : Opening) × ((few : List TraceLine) × IsTrace lines less few)
trace_front lines others opening said trace =
    let cut = open_cut lines others opening trace.opens in
    let less = first_say (behind_opening cut.less lines) cut.others said (subst (λ (ls : List (List ℕ)). SayLines ls said) cut.behind trace.say) in
    (cut.less, (less.0, record { opens = cut.opens; say = less.1 }))

-- ---- in the middle of a text

-- All lines before what is left are a trace that says this; so many lines they are.
pub record ReadTo (limit : ℕ) (text left : List ℕ) (opening : Opening) (n : ℕ) (said : List TraceLine) : Type 0 where
  pub opens : Open (lines_of text) opening
  pub front : List (List ℕ)
  pub sized : size_of opening ≤ length front
  pub lines : lines_of text ≡ front ++ lines_of left
  pub body : List (List ℕ)
  pub behind : behind_opening opening (lines_of text) ≡ body ++ lines_of left
  pub say : SayLines body said
  pub number : n ≡ length front
  pub within : left ≡ [] → length text ≤ limit
  pub room : HasRoom opening

-- the book of a text has room for its session, if that of one opening of it has
pub roomy : (text : List ℕ) (opening : Opening) → Open (lines_of text) opening → HasRoom opening → (other : Opening) → Open (lines_of text) other → HasRoom other
roomy text opening opens room other opens' = subst (λ (o : Opening). HasRoom o) (one_opening (lines_of text) opening other opens opens') room

-- behind the opening
pub begins : (limit : ℕ) (text left : List ℕ) (opening : Opening) (n : ℕ) → Open (lines_of text) opening → lines_of left ≡ behind_opening opening (lines_of text) → n ≡ size_of opening → (left ≡ [] → length text ≤ limit) → HasRoom opening → ReadTo limit text left opening n []
begins limit text left opening n opens behind number within room =
    let size = opening_length opening (lines_of text) opens in
    record {
      opens = opens;
      front = take (size_of opening) (lines_of text);
      sized = omega (arith, size);
      lines = opening_parts opening (lines_of text) ∙ ap (λ lines. take (size_of opening) (lines_of text) ++ lines) (sym behind);
      body = [];
      behind = sym behind;
      say = tt;
      number = number ∙ sym size;
      within = within;
      room = room;
    }

-- one more line was read
unfoldable pub goes_on : (limit : ℕ) (text left line rest : List ℕ) (opening : Opening) (n : ℕ) (said : List TraceLine) (one : TraceLine) → ReadTo limit text left opening n said → lines_of left ≡ line ∷ lines_of rest → SaysLine line one → (rest ≡ [] → length text ≤ limit) → ReadTo limit text rest opening (n + 1) (said ++ one ∷ [])
goes_on limit text left line rest opening n said one read first says within = record {
  opens = read.opens;
  front = read.front ++ line ∷ [];
  sized = omega (arith, read.sized, length-append read.front (line ∷ []));
  lines = read.lines ∙ (ap (λ lines. read.front ++ lines) first ∙ sym (append_assoc read.front (line ∷ []) (lines_of rest)));
  body = read.body ++ line ∷ [];
  behind = read.behind ∙ (ap (λ lines. read.body ++ lines) first ∙ sym (append_assoc read.body (line ∷ []) (lines_of rest)));
  say = say_one_more read.body said line one read.say says;
  number = omega (arith, read.number, length-append read.front (line ∷ []));
  within = within;
  room = read.room;
}

-- there is a number for the next line
pub counts : (limit : ℕ) (text left line rest : List ℕ) (opening : Opening) (n : ℕ) (said : List TraceLine) → ReadTo limit text left opening n said → lines_of left ≡ line ∷ lines_of rest → n + 1 ≤ length text
counts limit text left line rest opening n said read first =
    omega (arith, read.number, ap length read.lines, ap length first, length-append read.front (lines_of left), length-lines_of text)

-- the text is at its end
pub ends : (limit : ℕ) (text left : List ℕ) (opening : Opening) (n : ℕ) (said : List TraceLine) → ReadTo limit text left opening n said → left ≡ [] → SaysTrace limit text opening said
ends limit text left opening n said read none =
    let all : behind_opening opening (lines_of text) ≡ read.body = read.behind ∙ (ap (λ (bytes : List ℕ). read.body ++ lines_of bytes) none ∙ append-nil read.body) in
    record { within = read.within none; all = record { opens = read.opens; say = subst (λ (ls : List (List ℕ)). SayLines ls said) (sym all) read.say }; room = read.room }

-- the lines that were read are a trace, and so it is known what stands behind their opening and one line more
front_is : (limit : ℕ) (text left : List ℕ) (opening : Opening) (n : ℕ) (said : List TraceLine) → (read : ReadTo limit text left opening n said) → IsTrace read.front opening said
front_is limit text left opening n said read =
    let stays = open_front read.front (lines_of left) opening (subst (λ (ls : List (List ℕ)). Open ls opening) read.lines read.opens) read.sized in
    let same : behind_opening opening read.front ≡ read.body = same_back (behind_opening opening read.front) read.body (lines_of left) (sym stays.behind ∙ (ap (behind_opening opening) (sym read.lines) ∙ read.behind)) in
    record { opens = stays.opens; say = subst (λ (ls : List (List ℕ)). SayLines ls said) (sym same) read.say }

-- a line that says nothing there
pub says_none : (limit : ℕ) (text left line rest : List ℕ) (opening : Opening) (n : ℕ) (said : List TraceLine) → ReadTo limit text left opening n said → lines_of left ≡ line ∷ lines_of rest → ((meaning : TraceLine) → SaysLine line meaning → ⊥) → IsMalformed limit text (n + 1)
says_none limit text left line rest opening n said read first none =
    let good = front_is limit text left opening n said read in
    let more : List (List ℕ) = read.front ++ line ∷ [] in
    let all : lines_of text ≡ more ++ lines_of rest = read.lines ∙ (ap (λ lines. read.front ++ lines) first ∙ sym (append_assoc read.front (line ∷ []) (lines_of rest))) in
    let stays = open_front more (lines_of rest) opening (subst (λ (ls : List (List ℕ)). Open ls opening) all read.opens) (omega (arith, read.sized, length-append read.front (line ∷ []))) in
    let same : behind_opening opening more ≡ read.body ++ line ∷ [] =
    same_back (behind_opening opening more) (read.body ++ line ∷ []) (lines_of rest)
    (sym stays.behind ∙ (ap (behind_opening opening) (sym all) ∙ (read.behind ∙ (ap (λ lines. read.body ++ lines) first ∙ sym (append_assoc read.body (line ∷ []) (lines_of rest)))))) in
    inr (
      roomy text opening read.opens read.room,
      record {
        good = read.front;
        line = line;
        others = lines_of rest;
        lines = read.lines ∙ ap (λ lines. read.front ++ lines) first;
        number = ap (λ k. k + 1) read.number;
        opening = opening;
        said = said;
        all_good = good;
        bad = inl (λ other others trace.
            let is : other ≡ opening = one_opening more other opening trace.opens stays.opens in
            let says = last_says read.body line others (subst (λ (ls : List (List ℕ)). SayLines ls others) (ap (λ o. behind_opening o more) is ∙ same) trace.say) in
            none says.0 says.1);
      },
    )

-- the last line of a text that is too long
pub too_long : (limit : ℕ) (text left line rest : List ℕ) (opening : Opening) (n : ℕ) (said : List TraceLine) → ReadTo limit text left opening n said → lines_of left ≡ line ∷ lines_of rest → rest ≡ [] → limit < length text → IsMalformed limit text (n + 1)
too_long limit text left line rest opening n said read first none long = inr (
  roomy text opening read.opens read.room,
  record {
    good = read.front;
    line = line;
    others = lines_of rest;
    lines = read.lines ∙ ap (λ lines. read.front ++ lines) first;
    number = ap (λ k. k + 1) read.number;
    opening = opening;
    said = said;
    all_good = front_is limit text left opening n said read;
    bad = inr (long, ap lines_of none);
  },
)

-- the same where that line belongs to the opening
pub opens_too_long : (limit : ℕ) (text left : List ℕ) (opening : Opening) (n : ℕ) → Open (lines_of text) opening → lines_of left ≡ behind_opening opening (lines_of text) → n ≡ size_of opening → left ≡ [] → limit < length text → HasRoom opening → IsMalformed limit text n
opens_too_long limit [] left opening n opens behind number none long room = absurd (omega (arith, long))
opens_too_long limit (b ∷ bytes) left opening n opens behind number none long room =
    let lines = lines_of (b ∷ bytes) in
    let some = some_line b bytes in
    let last = last_of some.0 some.1.0 in
    let parts : lines ≡ last.0 ++ last.1.0 ∷ [] = some.1.1 ∙ last.1.1 in
    let all : lines ≡ take (size_of opening) lines = opening_parts opening lines ∙ (ap (λ ls. take (size_of opening) lines ++ ls) (sym behind ∙ ap lines_of none) ∙ append-nil (take (size_of opening) lines)) in
    let count : length lines ≡ size_of opening = ap length all ∙ opening_length opening lines opens in
    let silent : IsTrace lines opening [] = record { opens = opens; say = subst (λ (ls : List (List ℕ)). SayLines ls []) (ap lines_of (sym none) ∙ behind) tt } in
    let less = trace_front last.0 (last.1.0 ∷ []) opening [] (subst (λ (ls : List (List ℕ)). IsTrace ls opening []) parts silent) in
    inr (
      roomy (b ∷ bytes) opening opens room,
      record {
        good = last.0;
        line = last.1.0;
        others = [];
        lines = parts;
        number = omega (arith, number, count, ap length parts, length-append last.0 (last.1.0 ∷ []));
        opening = less.0;
        said = less.1.0;
        all_good = less.1.1;
        bad = inr (long, refl);
      },
    )

-- the book has no room
pub crowds : (limit : ℕ) (text : List ℕ) (opening : Opening) (n : ℕ) → Open (lines_of text) opening → ¬ (HasRoom opening) → n ≡ line_of_book opening → IsMalformed limit text n
crowds limit text opening n opens full number = inl (record { opening = opening; opens = opens; full = full; number = number })

-- ---- one reading

-- no line before the first that isn't of the grammar is another such
none_before : (limit : ℕ) (text : List ℕ) (n k : ℕ) → (one : IsFirstBad limit text n) → (other : IsFirstBad limit text k) → length one.good < length other.good → ⊥
none_before limit text n k one other short =
    let same : one.good ++ one.line ∷ one.others ≡ other.good ++ other.line ∷ other.others = sym one.lines ∙ other.lines in
    let more = longer one.good one.line one.others other.good (other.line ∷ other.others) same short in
    elim one.bad [
      | inl none ↦ let front = trace_front (one.good ++ one.line ∷ []) more.0 other.opening other.said (subst (λ (ls : List (List ℕ)). IsTrace ls other.opening other.said) more.1 other.all_good) in none front.0 front.1.0 front.1.1
      | inr last ↦ omega (arith, ap length same, length-append one.good (one.line ∷ one.others), length-append other.good (other.line ∷ other.others), ap length last.1, short)
    ]

same_first : (limit : ℕ) (text : List ℕ) (n k : ℕ) → IsFirstBad limit text n → IsFirstBad limit text k → n ≡ k
same_first limit text n k one other = elim (cases_lt (length one.good) (length other.good)) [
  | inl h ↦ absurd (none_before limit text n k one other h)
  | inr h ↦ elim (cases_lt (length other.good) (length one.good)) [
    | inl h' ↦ absurd (none_before limit text k n other one h')
    | inr h' ↦ omega (arith, one.number, other.number)
  ]
]

pub same_place : (limit : ℕ) (text : List ℕ) (n k : ℕ) → IsMalformed limit text n → IsMalformed limit text k → n ≡ k
same_place limit text n k (inl one) (inl other) =
    one.number ∙ ap line_of_book (one_opening (lines_of text) one.opening other.opening one.opens other.opens) ∙ sym other.number
same_place limit text n k (inl one) (inr other) = absurd (one.full (other.0 one.opening one.opens))
same_place limit text n k (inr one) (inl other) = absurd (other.full (one.0 other.opening other.opens))
same_place limit text n k (inr one) (inr other) = same_first limit text n k one.1 other.1

-- a text that is a trace has no line that isn't of the grammar
never_bad : (limit : ℕ) (text : List ℕ) (n : ℕ) (opening : Opening) (said : List TraceLine) → SaysTrace limit text opening said → IsFirstBad limit text n → ⊥
never_bad limit text n opening said says bad = elim bad.bad [
  | inl none ↦
      let parts : lines_of text ≡ (bad.good ++ bad.line ∷ []) ++ bad.others = bad.lines ∙ sym (append_assoc bad.good (bad.line ∷ []) bad.others) in
      let front = trace_front (bad.good ++ bad.line ∷ []) bad.others opening said (subst (λ (ls : List (List ℕ)). IsTrace ls opening said) parts says.all) in
      none front.0 front.1.0 front.1.1
  | inr last ↦ omega (arith, last.0, says.within)
]

-- and isn't malformed
pub never_both : (limit : ℕ) (text : List ℕ) (n : ℕ) (opening : Opening) (said : List TraceLine) → SaysTrace limit text opening said → IsMalformed limit text n → ⊥
never_both limit text n opening said says (inl bad) = bad.full (roomy text opening says.all.opens says.room bad.opening bad.opens)
never_both limit text n opening said says (inr bad) = never_bad limit text n opening said says bad.1

-- ---- the events

heard_sized : (line : List ℕ) (event : Event) → Says line event → HasPieceSize event
heard_sized line (Joined n) says = tt
heard_sized line (Piece n bytes) (fields, begins, says) = (says.said.hex.some, says.within)
heard_sized line (Gone n) says = tt
heard_sized line (Operator order) says = tt
heard_sized line (Tick milliseconds) says = tt
heard_sized line AtEnd says = tt

line_sized : (line : List ℕ) (one : TraceLine) (events : List Event) → SaysLine line one → AllByRecursion HasPieceSize events → AllByRecursion HasPieceSize (event_in one ++ events)
line_sized line (Heard event) events says others = (heard_sized line event says, others)
line_sized line End events says others = (tt, others)
line_sized line (Sent n bytes) events says others = others
line_sized line (Shut n) events says others = others
line_sized line (Started succeeded text) events says others = others
line_sized line (Printed text) events says others = others

all_sized : (lines : List (List ℕ)) (said : List TraceLine) → SayLines lines said → AllByRecursion HasPieceSize (events_in said)
all_sized [] [] say = tt
all_sized [] (one ∷ said) say = elim say [ ]
all_sized (line ∷ lines) [] say = elim say [ ]
all_sized (line ∷ lines) (one ∷ said) say = line_sized line one (events_in said) say.0 (all_sized lines said say.1)

pub sized : (limit : ℕ) (text : List ℕ) (opening : Opening) (said : List TraceLine) → SaysTrace limit text opening said → AllByRecursion HasPieceSize (events_in said)
sized limit text opening said says = all_sized (behind_opening opening (lines_of text)) said says.all.say

-- ---- what the code tests

pub empty_by : (text : List ℕ) → true ≡ (length text == 0) → text ≡ []
empty_by [] e = refl
empty_by (b ∷ text) e = absurd (omega (arith, (Decides-eqb (length (b ∷ text)) 0).0 (sym e)))

pub empty_of : (text : List ℕ) → length text ≡ 0 → text ≡ []
empty_of [] e = refl
empty_of (b ∷ text) e = absurd (omega (arith, e))

-- another line is left, or the text isn't too long
pub within_by : (limit : ℕ) (text rest : List ℕ) → (false ≡ (length rest == 0)) ⊎ (length text ≤ limit) → rest ≡ [] → length text ≤ limit
within_by limit text rest (inl some) none = absurd (false≢true (rw none at some))
within_by limit text rest (inr short) none = short
