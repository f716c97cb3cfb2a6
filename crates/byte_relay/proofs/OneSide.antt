-- What one side of a pair gets is a front of what comes from the other.
use Rattle.std.proofs.Common.{◌≡◌, ◌≢◌, ◌⊎◌, inl, inr, ℕ, ◌+◌, ◌-◌, ◌<◌, ◌%◌, Bool, true, false, List, [], ◌∷◌, ◌++◌, length, map, drop, Option, Some, None, refl, sym, ap, ap₂, ◌∙◌, subst, arith, append_assoc, if◌then◌else◌}
use Rattle.std.specs.Prelude.{◌||◌, ◌&&◌, ◌==◌, min, max, is_some, option_map}
use Rattle.std.proofs.Math.Seq.{drop-append_seam}
use Rattle.std.proofs.lemmas.Bool.{eqb-true, eqb-false, eq-eqb, ne_eqb, false≢true}
use Rattle.std.proofs.lemmas.Grind.{flat_map-append}
use Rattle.std.proofs.lemmas.List.{append-nil, map-append}
use Rattle.sm_world.specs.declared.effects.Effect.{Effect}
use Rattle.sm_world.specs.declared.effects.Effect.TheVariants.{Sent, Shut}
use Rattle.sm_world.specs.declared.events.Event.{Event}
use Rattle.sm_world.specs.declared.events.Event.TheVariants.{Joined, Piece, Gone, Operator, Tick, End}
use Rattle.heard_events.specs.Brought.{IsPrefix}
use Rattle.ice_framing.specs.Frames.{Standing, beginning, cut, fed, frames_of, is_oversize, standing_of}
use Rattle.ice_framing.specs.Parts.{Part, Whole, new_parts, oversize_part, parts_at, parts_of}
use Rattle.ice_framing.specs.declared.cutting.WholeFrame.{WholeFrame}
use Rattle.ice_framing.proofs.Cuts.{fed-fed, is_oversize-false, is_oversize-true}
use Rattle.ice_framing.proofs.Parts.{parts_at-ended, parts_at-more}
use Rattle.ice_values.specs.declared.numbers.Endian.{Endian}
use Rattle.byte_relay.specs.Orders.{is_byte_order}
use Rattle.byte_relay.specs.Relaying.{Begins, Breaks, Brings, Line, Passed, Passes, Step, are_none, brings, fed_on, gone, greetings, is_end, is_fresh, is_live, is_refused, joined, joining, parted, partner, passed, passed_by, passing, piece_for, run_from, shuts, stays, step, stream_of}
use Rattle.byte_relay.specs.Respelling.{respelled}
use Rattle.byte_relay.specs.Sides.{NeverJoins, came, came_of, IsForOther, gets, got_of, is_join}
use Rattle.byte_relay.proofs.InOrder.{by_test, given}
use Rattle.byte_relay.proofs.Stepping.{breaks_off, goes_on, piece_open}

-- ---- the numbers of a pair

own_by : (a b : Bool) (n c : ℕ) → (n % 2 == 1) ≡ a → (c % 2 == 1) ≡ b → 0 < c → (if a then n + 1 else n - 1) ≡ (if b then c + 1 else c - 1) → n ≡ c
own_by true true n c one two some same = omega (arith, same)
own_by true false n c one two some same = omega (arith, same, some, eqb-true (n % 2) 1 one, eqb-false (c % 2) 1 two)
own_by false true n c one two some same = omega (arith, same, some, eqb-false (n % 2) 1 one, eqb-true (c % 2) 1 two)
own_by false false n c one two some same = omega (arith, same, some, eqb-false (n % 2) 1 one, eqb-false (c % 2) 1 two)

-- no other connection leads to the other one of a pair
leads_elsewhere : (n c : ℕ) → 0 < c → (n == c) ≡ false → (partner n == partner c) ≡ false
leads_elsewhere n c some other = ne_eqb (partner n) (partner c) (λ same. eqb-false n c other (own_by (n % 2 == 1) (c % 2 == 1) n c refl refl some same))

-- ---- the lines

abbrev pub is_of : ℕ → ℕ → Bool
is_of n c = c == n || c == partner n

parted_by : (c n : ℕ) (l : Line) (ls : List Line) (own out : Bool) → (l.number == c) ≡ own → is_of n l.number ≡ out → stream_of c (parted n ls) ≡ (if is_of n c then None else stream_of c ls) → stream_of c (parted n (l ∷ ls)) ≡ (if is_of n c then None else stream_of c (l ∷ ls))
parted_by c n l ls true true own out later =
    let is : is_of n c ≡ true = ap (is_of n) (sym (eqb-true l.number c own)) ∙ out in
    rw (out, is) (rw is at later)
parted_by c n l ls true false own out later =
    let is : is_of n c ≡ false = ap (is_of n) (sym (eqb-true l.number c own)) ∙ out in
    rw (out, is, own) refl
parted_by c n l ls false true own out later = rw (out, own) later
parted_by c n l ls false false own out later = rw (out, own) later

abbrev nothing : Option (List ℕ)
nothing = None

if_none : (b : Bool) → nothing ≡ (if b then nothing else nothing)
if_none true = refl
if_none false = refl

pub if_dead : (b : Bool) (s : Option (List ℕ)) → is_some s ≡ false → is_some (if b then None else s) ≡ false
if_dead true s dead = refl
if_dead false s dead = dead

pub stream_parted : (c n : ℕ) (ls : List Line) → stream_of c (parted n ls) ≡ (if is_of n c then None else stream_of c ls)
stream_parted c n [] = if_none (is_of n c)
stream_parted c n (l ∷ ls) = parted_by c n l ls (l.number == c) (is_of n l.number) refl refl (stream_parted c n ls)

fed_by : (c n : ℕ) (bytes : List ℕ) (l : Line) (ls : List Line) (fits : Bool) → (l.number == n) ≡ fits → (n == c) ≡ false → stream_of c (fed_on n bytes ls) ≡ stream_of c ls → stream_of c (fed_on n bytes (l ∷ ls)) ≡ stream_of c (l ∷ ls)
fed_by c n bytes l ls true fits other later = rw (fits, ap (λ (m : ℕ). m == c) (eqb-true l.number n fits) ∙ other) refl
fed_by c n bytes l ls false fits other later = rw fits (ap (λ (s : Option (List ℕ)). if l.number == c then Some l.stream else s) later)

stream_fed : (c n : ℕ) (bytes : List ℕ) (ls : List Line) → (n == c) ≡ false → stream_of c (fed_on n bytes ls) ≡ stream_of c ls
stream_fed c n bytes [] other = refl
stream_fed c n bytes (l ∷ ls) other = fed_by c n bytes l ls (l.number == n) refl other (stream_fed c n bytes ls other)

grown_by : (c : ℕ) (bytes stream : List ℕ) (l : Line) (ls : List Line) (own : Bool) → (l.number == c) ≡ own → stream_of c (l ∷ ls) ≡ Some stream → (stream_of c ls ≡ Some stream → stream_of c (fed_on c bytes ls) ≡ Some (stream ++ bytes)) → stream_of c (fed_on c bytes (l ∷ ls)) ≡ Some (stream ++ bytes)
grown_by c bytes stream l ls true own is later = rw (own, own) (ap (option_map (λ (s : List ℕ). s ++ bytes)) (rw own at is))
grown_by c bytes stream l ls false own is later = rw (own, own) (later (rw own at is))

stream_grown : (c : ℕ) (bytes stream : List ℕ) (ls : List Line) → stream_of c ls ≡ Some stream → stream_of c (fed_on c bytes ls) ≡ Some (stream ++ bytes)
stream_grown c bytes stream [] is = absurd cc
stream_grown c bytes stream (l ∷ ls) is = grown_by c bytes stream l ls (l.number == c) refl is (stream_grown c bytes stream ls)

live_by : (d n : ℕ) (bytes : List ℕ) (l : Line) (ls : List Line) (fits own : Bool) → (l.number == n) ≡ fits → (l.number == d) ≡ own → is_live d (fed_on n bytes ls) ≡ is_live d ls → is_live d (fed_on n bytes (l ∷ ls)) ≡ is_live d (l ∷ ls)
live_by d n bytes l ls true true fits own later = rw (fits, own) refl
live_by d n bytes l ls true false fits own later = rw (fits, own) refl
live_by d n bytes l ls false true fits own later = rw (fits, own) refl
live_by d n bytes l ls false false fits own later = rw (fits, own) later

-- more bytes end no connection and begin none
pub live_fed : (d n : ℕ) (bytes : List ℕ) (ls : List Line) → is_live d (fed_on n bytes ls) ≡ is_live d ls
live_fed d n bytes [] = refl
live_fed d n bytes (l ∷ ls) = live_by d n bytes l ls (l.number == n) (l.number == d) refl refl (live_fed d n bytes ls)

pub stream_more : (c n : ℕ) (ls : List Line) → (n == c) ≡ false → stream_of c (ls ++ record { number = n; stream = [] } ∷ []) ≡ stream_of c ls
stream_more c n [] other = rw other refl
stream_more c n (l ∷ ls) other = ap (λ (s : Option (List ℕ)). if l.number == c then Some l.stream else s) (stream_more c n ls other)

-- ---- what is sent

sent_own : (d m : ℕ) (messages : List (List ℕ)) → (m == d) ≡ true → gets d (map (Sent m) messages) ≡ messages
sent_own d m [] own = refl
sent_own d m (message ∷ messages) own = rw own (ap (λ (ms : List (List ℕ)). message ∷ ms) (sent_own d m messages own))

sent_other : (d m : ℕ) (messages : List (List ℕ)) → (m == d) ≡ false → gets d (map (Sent m) messages) ≡ []
sent_other d m [] other = refl
sent_other d m (message ∷ messages) other = rw other (sent_other d m messages other)

greeted_other : (to : Endian) (d n : ℕ) → (n == d) ≡ false → (partner n == d) ≡ false → gets d (greetings to n) ≡ []
greeted_other to d n one two =
    let low : (min n (partner n) == d) ≡ false = ne_eqb (min n (partner n)) d (λ same. omega (arith, same, eqb-false n d one, eqb-false (partner n) d two)) in
    let high : (max n (partner n) == d) ≡ false = ne_eqb (max n (partner n)) d (λ same. omega (arith, same, eqb-false n d one, eqb-false (partner n) d two)) in
    rw (low, high) refl

-- ---- what is passed on of a stream that goes on

parts_more : (stream bytes : List ℕ) → (more : List Part) × (parts_of (stream ++ bytes) ≡ parts_of stream ++ more)
parts_more stream bytes = by (is_oversize (standing_of stream)) refl
  where
    at : Standing
    at = fed beginning stream

    by : (much : Bool) → is_oversize (standing_of stream) ≡ much → (more : List Part) × (parts_of (stream ++ bytes) ≡ parts_of stream ++ more)
    by true is = ([], ap parts_at (sym (fed-fed beginning stream bytes)) ∙ (parts_at-ended (fed beginning stream) bytes (is_oversize-true (standing_of stream) is) ∙ sym (append-nil (parts_of stream))))
    by false is = (parts_at (fed (standing_of stream) bytes), ap parts_at (sym (fed-fed beginning stream bytes)) ∙ parts_at-more (fed beginning stream) bytes (is_oversize-false (standing_of stream) is))

new_are : (stream bytes : List ℕ) → parts_of (stream ++ bytes) ≡ parts_of stream ++ new_parts stream bytes
new_are stream bytes =
    let more = parts_more stream bytes in
    more.1 ∙ ap (λ (ps : List Part). parts_of stream ++ ps) (sym (ap (drop (length (parts_of stream))) more.1 ∙ drop-append_seam (parts_of stream) more.0))

-- what these parts and those behind them bring, where these don't break the pair
abbrev both_passed : Passed → Passed → Passed
both_passed one two = record { messages = one.messages ++ two.messages; broken = two.broken }

passed_both_by : (b : Brings) (one two all : Passed) → (one.broken ≡ false → all ≡ both_passed one two) → (passed_by b one).broken ≡ false → passed_by b all ≡ both_passed (passed_by b one) two
passed_both_by Begins one two all later goes = later goes
passed_both_by (Passes bytes) one two all later goes = ap (λ (p : Passed). record p { messages = bytes ∷ p.messages }) (later goes)
passed_both_by Breaks one two all later goes = absurd cc

passed_both : (to : Endian) (first : Bool) (front back : List Part) → (passed to first front).broken ≡ false → passed to first (front ++ back) ≡ both_passed (passed to first front) (passed to (first && are_none front) back)
passed_both to true [] back goes = refl
passed_both to false [] back goes = refl
passed_both to true (part ∷ front) back goes = passed_both_by (brings to true part) (passed to false front) (passed to false back) (passed to false (front ++ back)) (passed_both to false front back) goes
passed_both to false (part ∷ front) back goes = passed_both_by (brings to false part) (passed to false front) (passed to false back) (passed to false (front ++ back)) (passed_both to false front back) goes

broken_by : (b : Brings) (one all : Passed) → (one.broken ≡ true → all.messages ≡ one.messages) → (passed_by b one).broken ≡ true → (passed_by b all).messages ≡ (passed_by b one).messages
broken_by Begins one all later breaks = later breaks
broken_by (Passes bytes) one all later breaks = ap (λ (ms : List (List ℕ)). bytes ∷ ms) (later breaks)
broken_by Breaks one all later breaks = refl

passed_broken : (to : Endian) (first : Bool) (front back : List Part) → (passed to first front).broken ≡ true → (passed to first (front ++ back)).messages ≡ (passed to first front).messages
passed_broken to first [] back breaks = absurd cc
passed_broken to first (part ∷ front) back breaks = broken_by (brings to first part) (passed to false front) (passed to false (front ++ back)) (passed_broken to false front back) breaks

module _ (to : Endian) where
  abbrev whole : List ℕ → Passed
  whole stream = passed to true (parts_of stream)

  grown : (stream bytes : List ℕ) → (whole stream).broken ≡ false → whole (stream ++ bytes) ≡ both_passed (whole stream) (passed to (is_fresh stream) (new_parts stream bytes))
  grown stream bytes goes = ap (passed to true) (new_are stream bytes) ∙ passed_both to true (parts_of stream) (new_parts stream bytes) goes

  front_by : (stream bytes : List ℕ) (broken : Bool) → (whole stream).broken ≡ broken → (rest : List (List ℕ)) × ((whole stream).messages ++ rest ≡ (whole (stream ++ bytes)).messages)
  front_by stream bytes false goes = ((passed to (is_fresh stream) (new_parts stream bytes)).messages, sym (ap (λ (p : Passed). p.messages) (grown stream bytes goes)))
  front_by stream bytes true breaks = ([], append-nil (whole stream).messages ∙ sym (ap (λ (ps : List Part). (passed to true ps).messages) (new_are stream bytes) ∙ passed_broken to true (parts_of stream) (new_parts stream bytes) breaks))

  -- what was passed on stays in front
  front_of : (stream bytes : List ℕ) → (rest : List (List ℕ)) × ((whole stream).messages ++ rest ≡ (whole (stream ++ bytes)).messages)
  front_of stream bytes = front_by stream bytes (whole stream).broken refl

  -- ---- what is passed on is a front of the messages

  none_then : (at : Standing) (b : Bool) → is_oversize at ≡ b → (passed to false (oversize_part at)).messages ≡ []
  none_then at true is = rw is refl
  none_then at false is = rw is refl

  none_first : (at : Standing) (b : Bool) → is_oversize at ≡ b → (passed to true (oversize_part at)).messages ≡ []
  none_first at true is = rw is refl
  none_first at false is = rw is refl

  abbrev spelled_all : List WholeFrame → List (Option (List ℕ))
  spelled_all frames = map (λ (frame : WholeFrame). respelled frame.endian to frame.bytes) frames

  later_in_order : (frames : List WholeFrame) (tail : List Part) → (passed to false tail).messages ≡ [] → IsPrefix (given (passed to false (map Whole frames ++ tail))) (spelled_all frames)
  later_in_order [] tail none = ([], append-nil (given (passed to false tail)) ∙ ap (map Some) none)
  later_in_order (frame ∷ frames) tail none = by_test (is_byte_order frame.endian frame.bytes) (respelled frame.endian to frame.bytes) (passed to false (map Whole frames ++ tail)) (spelled_all frames) (later_in_order frames tail none)

  first_by : (order : Bool) (later : Passed) (rest : List (Option (List ℕ))) → IsPrefix (given later) rest → IsPrefix (given (passed_by (if order then Begins else Breaks) later)) rest
  first_by true later rest front = front
  first_by false later rest front = (rest, refl)

  all_in_order : (frames : List WholeFrame) (tail : List Part) → (passed to false tail).messages ≡ [] → (passed to true tail).messages ≡ [] → IsPrefix (given (passed to true (map Whole frames ++ tail))) (spelled_all (drop 1 frames))
  all_in_order [] tail later first = ([], append-nil (given (passed to true tail)) ∙ ap (map Some) first)
  all_in_order (frame ∷ frames) tail later first = first_by (is_byte_order frame.endian frame.bytes) (passed to false (map Whole frames ++ tail)) (spelled_all frames) (later_in_order frames tail later)

  in_order_of : (stream : List ℕ) → IsForOther to stream (whole stream).messages
  in_order_of stream = all_in_order (frames_of stream) (oversize_part (standing_of stream)) (none_then (standing_of stream) (is_oversize (standing_of stream)) refl) (none_first (standing_of stream) (is_oversize (standing_of stream)) refl)

-- ---- one event

pub if_step : (P : Step → Type 0) (b : Bool) (s t : Step) → P s → P t → P (if b then s else t)
if_step P true s t one two = one
if_step P false s t one two = two

pub if_lines : (Q : List Line → Type 0) (b : Bool) (ls ms : List Line) → Q ls → Q ms → Q (if b then ls else ms)
if_lines Q true ls ms one two = one
if_lines Q false ls ms one two = two

pub if_silent : (d : ℕ) (b : Bool) (es : List Effect) → gets d es ≡ [] → gets d (if b then es else []) ≡ []
if_silent d true es silent = silent
if_silent d false es silent = refl

module _ (to : Endian) (c : ℕ) (some : 0 < c) where
  abbrev pub d : ℕ
  d = partner c

  -- the pair is open, and this came on the one connection
  abbrev IsOpen : List ℕ → List Line → Type 0
  IsOpen stream ls = (stream_of c ls ≡ Some stream) × (is_live d ls ≡ true)

  -- it isn't open
  abbrev pub IsOver : List Line → Type 0
  IsOver ls = (is_live c ls ≡ false) ⊎ (is_live d ls ≡ false)

  abbrev MayBeOpen : List ℕ → List Line → Type 0
  MayBeOpen stream ls = IsOpen stream ls ⊎ IsOver ls

  over_parted : (n : ℕ) (ls : List Line) → IsOver ls → IsOver (parted n ls)
  over_parted n ls (inl dead) = inl (ap is_some (stream_parted c n ls) ∙ if_dead (is_of n c) (stream_of c ls) dead)
  over_parted n ls (inr dead) = inr (ap is_some (stream_parted d n ls) ∙ if_dead (is_of n d) (stream_of d ls) dead)

  parted_open : (n : ℕ) (ls : List Line) (stream : List ℕ) (one two : Bool) → is_of n c ≡ one → is_of n d ≡ two → IsOpen stream ls → MayBeOpen stream (parted n ls)
  parted_open n ls stream true two first second here = inr (inl (ap is_some (stream_parted c n ls) ∙ rw first refl))
  parted_open n ls stream false true first second here = inr (inr (ap is_some (stream_parted d n ls) ∙ rw second refl))
  parted_open n ls stream false false first second here = inl (stream_parted c n ls ∙ rw first here.0, ap is_some (stream_parted d n ls) ∙ rw second here.1)

  may_parted : (n : ℕ) (ls : List Line) (stream : List ℕ) → IsOpen stream ls → MayBeOpen stream (parted n ls)
  may_parted n ls stream here = parted_open n ls stream (is_of n c) (is_of n d) refl refl here

  over_more : (n : ℕ) (ls : List Line) → (n == c) ≡ false → (n == d) ≡ false → IsOver ls → IsOver (ls ++ record { number = n; stream = [] } ∷ [])
  over_more n ls one two (inl dead) = inl (ap is_some (stream_more c n ls one) ∙ dead)
  over_more n ls one two (inr dead) = inr (ap is_some (stream_more d n ls two) ∙ dead)

  over_fed : (n : ℕ) (bytes : List ℕ) (ls : List Line) → IsOver ls → IsOver (fed_on n bytes ls)
  over_fed n bytes ls (inl dead) = inl (live_fed c n bytes ls ∙ dead)
  over_fed n bytes ls (inr dead) = inr (live_fed d n bytes ls ∙ dead)

  -- nothing is sent to the other one, and this holds of the lines then
  abbrev pub IsQuiet : (List Line → Type 0) → Step → Type 0
  IsQuiet Q s = (gets d s.line ≡ []) × Q s.next

  quiet_joined : (Q : List Line → Type 0) (n : ℕ) (ls : List Line) → (n == c) ≡ false → (n == d) ≡ false → Q ls → Q (ls ++ record { number = n; stream = [] } ∷ []) → IsQuiet Q (joined to n ls)
  quiet_joined Q n ls one two same more =
      if_step (IsQuiet Q) (is_live n ls) (stays ls) (if is_refused n ls then record { line = Shut n ∷ []; next = ls } else joining to n ls) (refl, same)
      (if_step (IsQuiet Q) (is_refused n ls) (record { line = Shut n ∷ []; next = ls }) (joining to n ls) (refl, same) (if_silent d (is_live (partner n) ls) (greetings to n) (greeted_other to d n two (leads_elsewhere n c some one)), more))

  quiet_gone : (Q : List Line → Type 0) (n : ℕ) (ls : List Line) → Q ls → Q (parted n ls) → IsQuiet Q (gone n ls)
  quiet_gone Q n ls same less = if_step (IsQuiet Q) (is_live n ls) (record { line = if is_live (partner n) ls then Shut (partner n) ∷ [] else []; next = parted n ls }) (stays ls) (if_silent d (is_live (partner n) ls) (Shut (partner n) ∷ []) refl, less) (refl, same)

  quiet_passing : (Q : List Line → Type 0) (n : ℕ) (bytes : List ℕ) (p : Passed) (ls : List Line) → (n == c) ≡ false → Q (parted n ls) → Q (fed_on n bytes ls) → IsQuiet Q (passing to n bytes p ls)
  quiet_passing Q n bytes p ls other less grown_on = (
    flat_map-append (got_of d) (map (Sent (partner n)) p.messages) (if p.broken then shuts n else []) ∙ ap₂ (λ (xs ys : List (List ℕ)). xs ++ ys) (sent_other d (partner n) p.messages (leads_elsewhere n c some other)) (if_silent d p.broken (shuts n) refl),
    if_lines Q p.broken (parted n ls) (fed_on n bytes ls) less grown_on,
  )

  quiet_piece : (Q : List Line → Type 0) (n : ℕ) (bytes : List ℕ) (stream : Option (List ℕ)) (ls : List Line) → (n == c) ≡ false → Q ls → Q (parted n ls) → Q (fed_on n bytes ls) → IsQuiet Q (piece_for to n bytes stream ls)
  quiet_piece Q n bytes None ls other same less grown_on = (refl, same)
  quiet_piece Q n bytes (Some stream) ls other same less grown_on =
      if_step (IsQuiet Q) (is_live (partner n) ls) (passing to n bytes (passed to (is_fresh stream) (new_parts stream bytes)) ls) (record { line = Shut n ∷ []; next = parted n ls })
      (quiet_passing Q n bytes (passed to (is_fresh stream) (new_parts stream bytes)) ls other less grown_on) (refl, less)

  -- ---- where the pair isn't open

  dead_piece : (bytes : List ℕ) (ls : List Line) (stream : Option (List ℕ)) → stream_of c ls ≡ stream → IsOver ls → IsQuiet IsOver (piece_for to c bytes stream ls)
  dead_piece bytes ls None is over = (refl, over)
  dead_piece bytes ls (Some stream) is (inl dead) = absurd (false≢true (sym dead ∙ ap is_some is))
  dead_piece bytes ls (Some stream) is (inr dead) = rw dead (refl, over_parted c ls (inr dead))

  over_piece : (n : ℕ) (bytes : List ℕ) (ls : List Line) (own : Bool) → (n == c) ≡ own → IsOver ls → IsQuiet IsOver (piece_for to n bytes (stream_of n ls) ls)
  over_piece n bytes ls true own over = subst (λ (m : ℕ). IsQuiet IsOver (piece_for to m bytes (stream_of m ls) ls)) (sym (eqb-true n c own)) (dead_piece bytes ls (stream_of c ls) refl over)
  over_piece n bytes ls false other over = quiet_piece IsOver n bytes (stream_of n ls) ls other over (over_parted n ls over) (over_fed n bytes ls over)

  pub over_step : (ls : List Line) (event : Event) → is_join c event ≡ false → is_join d event ≡ false → IsOver ls → IsQuiet IsOver (step to ls event)
  over_step ls (Joined n) one two over = quiet_joined IsOver n ls one two over (over_more n ls one two over)
  over_step ls (Piece n bytes) one two over = over_piece n bytes ls (n == c) refl over
  over_step ls (Gone n) one two over = quiet_gone IsOver n ls over (over_parted n ls over)
  over_step ls (Operator order) one two over = (refl, over)
  over_step ls (Tick milliseconds) one two over = (refl, over)
  over_step ls End one two over = (refl, over)

  -- ---- where it is

  -- What an event brings on the one connection is passed on to the other.
  record Goes (stream : List ℕ) (event : Event) (s : Step) : Type 0 where
    all : (whole to stream).messages ++ gets d s.line ≡ (whole to (stream ++ came_of c event)).messages
    next : (IsOpen (stream ++ came_of c event) s.next × ((whole to (stream ++ came_of c event)).broken ≡ false)) ⊎ IsOver s.next

  next_as : (stream more : List ℕ) (ls : List Line) → more ≡ stream → (whole to stream).broken ≡ false → MayBeOpen stream ls → (IsOpen more ls × ((whole to more).broken ≡ false)) ⊎ IsOver ls
  next_as stream more ls same goes (inl here) = inl (subst (λ (bytes : List ℕ). IsOpen bytes ls) (sym same) here, ap (λ (bytes : List ℕ). (whole to bytes).broken) same ∙ goes)
  next_as stream more ls same goes (inr over) = inr over

  idle : (stream : List ℕ) (event : Event) (s : Step) → came_of c event ≡ [] → (whole to stream).broken ≡ false → IsQuiet (MayBeOpen stream) s → Goes stream event s
  idle stream event s none goes quiet =
      let same : stream ++ came_of c event ≡ stream = ap (λ (bytes : List ℕ). stream ++ bytes) none ∙ append-nil stream in
      record {
        all = ap (λ (ms : List (List ℕ)). (whole to stream).messages ++ ms) quiet.0 ∙ (append-nil (whole to stream).messages ∙ sym (ap (λ (bytes : List ℕ). (whole to bytes).messages) same));
        next = next_as stream (stream ++ came_of c event) s.next same goes quiet.1;
      }

  own_bytes : (bytes : List ℕ) → came_of c (Piece c bytes) ≡ bytes
  own_bytes bytes = rw (eq-eqb c c refl) refl

  module _ (stream bytes : List ℕ) (ls : List Line) (goes : (whole to stream).broken ≡ false) (here : IsOpen stream ls) where
    abbrev p : Passed
    p = passed to (is_fresh stream) (new_parts stream bytes)

    abbrev more : List ℕ
    more = stream ++ came_of c (Piece c bytes)

    grows : whole to more ≡ both_passed (whole to stream) p
    grows = ap (λ (bs : List ℕ). whole to (stream ++ bs)) (own_bytes bytes) ∙ grown to stream bytes goes

    passes_on : gets d (map (Sent d) p.messages) ≡ p.messages
    passes_on = sent_own d d p.messages (eq-eqb d d refl)

    goes_by : (broken : Bool) → p.broken ≡ broken → Goes stream (Piece c bytes) (passing to c bytes p ls)
    goes_by false is = subst (Goes stream (Piece c bytes)) (sym (goes_on to c ls bytes p (sym is))) (record {
      all = ap (λ (ms : List (List ℕ)). (whole to stream).messages ++ ms) passes_on ∙ sym (ap (λ (q : Passed). q.messages) grows);
      next = inl ((stream_grown c bytes stream ls here.0 ∙ ap (λ (bs : List ℕ). Some (stream ++ bs)) (sym (own_bytes bytes)), live_fed d c bytes ls ∙ here.1), ap (λ (q : Passed). q.broken) grows ∙ is);
    })
    goes_by true is = subst (Goes stream (Piece c bytes)) (sym (breaks_off to c ls bytes p (sym is))) (record {
      all = ap (λ (ms : List (List ℕ)). (whole to stream).messages ++ ms) (flat_map-append (got_of d) (map (Sent d) p.messages) (shuts c) ∙ (append-nil (gets d (map (Sent d) p.messages)) ∙ passes_on)) ∙ sym (ap (λ (q : Passed). q.messages) grows);
      next = inr (inl (ap is_some (stream_parted c c ls) ∙ rw (eq-eqb c c refl) refl));
    })

    own_piece : Goes stream (Piece c bytes) (piece_for to c bytes (stream_of c ls) ls)
    own_piece = subst (Goes stream (Piece c bytes)) (sym (piece_open to c ls bytes stream p here.0 here.1 refl)) (goes_by p.broken refl)

  other_piece : (n : ℕ) (bytes stream : List ℕ) (ls : List Line) → (n == c) ≡ false → (whole to stream).broken ≡ false → IsOpen stream ls → Goes stream (Piece n bytes) (piece_for to n bytes (stream_of n ls) ls)
  other_piece n bytes stream ls other goes here =
      idle stream (Piece n bytes) (piece_for to n bytes (stream_of n ls) ls) (rw other refl) goes
      (quiet_piece (MayBeOpen stream) n bytes (stream_of n ls) ls other (inl here) (may_parted n ls stream here) (inl (stream_fed c n bytes ls other ∙ here.0, live_fed d n bytes ls ∙ here.1)))

  open_piece : (n : ℕ) (bytes stream : List ℕ) (ls : List Line) (own : Bool) → (n == c) ≡ own → (whole to stream).broken ≡ false → IsOpen stream ls → Goes stream (Piece n bytes) (piece_for to n bytes (stream_of n ls) ls)
  open_piece n bytes stream ls true own goes here = subst (λ (m : ℕ). Goes stream (Piece m bytes) (piece_for to m bytes (stream_of m ls) ls)) (sym (eqb-true n c own)) (own_piece stream bytes ls goes here)
  open_piece n bytes stream ls false other goes here = other_piece n bytes stream ls other goes here

  open_step : (ls : List Line) (event : Event) (stream : List ℕ) → is_join c event ≡ false → is_join d event ≡ false → (whole to stream).broken ≡ false → IsOpen stream ls → Goes stream event (step to ls event)
  open_step ls (Joined n) stream one two goes here =
      idle stream (Joined n) (joined to n ls) refl goes (quiet_joined (MayBeOpen stream) n ls one two (inl here) (inl (stream_more c n ls one ∙ here.0, ap is_some (stream_more d n ls two) ∙ here.1)))
  open_step ls (Piece n bytes) stream one two goes here = open_piece n bytes stream ls (n == c) refl goes here
  open_step ls (Gone n) stream one two goes here = idle stream (Gone n) (gone n ls) refl goes (quiet_gone (MayBeOpen stream) n ls (inl here) (may_parted n ls stream here))
  open_step ls (Operator order) stream one two goes here = idle stream (Operator order) (stays ls) refl goes (refl, inl here)
  open_step ls (Tick milliseconds) stream one two goes here = idle stream (Tick milliseconds) (stays ls) refl goes (refl, inl here)
  open_step ls End stream one two goes here = idle stream End (stays ls) refl goes (refl, inl here)

  -- ---- all events

  -- what follows an event, where it isn't the last
  abbrev later : List Line → Event → List Event → List Effect
  later ls event events = if is_end event then [] else run_from to (step to ls event).next events

  pub over_run : (ls : List Line) (events : List Event) → NeverJoins c events → NeverJoins d events → IsOver ls → gets d (run_from to ls events) ≡ []
  over_run ls [] one two over = refl
  over_run ls (event ∷ events) one two over =
      let quiet = over_step ls event one.0 two.0 over in
      flat_map-append (got_of d) (step to ls event).line (later ls event events)
      ∙ ap₂ (λ (xs ys : List (List ℕ)). xs ++ ys) quiet.0 (ended (is_end event) (run_from to (step to ls event).next events) (over_run (step to ls event).next events one.1 two.1 quiet.1))
    where
      ended : (b : Bool) (es : List Effect) → gets d es ≡ [] → gets d (if b then [] else es) ≡ []
      ended true es silent = refl
      ended false es silent = silent

  -- what is sent behind a stream that was passed on so far goes on with it
  abbrev GoesOn : List ℕ → List ℕ → List Effect → Type 0
  GoesOn stream bytes es = (rest : List (List ℕ)) × (((whole to stream).messages ++ gets d es) ++ rest ≡ (whole to (stream ++ bytes)).messages)

  silent_on : (stream bytes : List ℕ) (es : List Effect) → gets d es ≡ [] → GoesOn stream bytes es
  silent_on stream bytes es silent =
      let front = front_of to stream bytes in
      (front.0, ap (λ (ms : List (List ℕ)). ((whole to stream).messages ++ ms) ++ front.0) silent ∙ (ap (λ (ms : List (List ℕ)). ms ++ front.0) (append-nil (whole to stream).messages) ∙ front.1))

  ends_on : (stream bytes : List ℕ) (b : Bool) (es : List Effect) → GoesOn stream bytes es → GoesOn stream bytes (if b then [] else es)
  ends_on stream bytes true es on = silent_on stream bytes [] refl
  ends_on stream bytes false es on = on

  event_on : (stream came_now bytes : List ℕ) (es ds : List Effect) → (whole to stream).messages ++ gets d es ≡ (whole to (stream ++ came_now)).messages → GoesOn (stream ++ came_now) bytes ds → GoesOn stream (came_now ++ bytes) (es ++ ds)
  event_on stream came_now bytes es ds all on = (
    on.0,
    ap (λ (ms : List (List ℕ)). ((whole to stream).messages ++ ms) ++ on.0) (flat_map-append (got_of d) es ds)
        ∙ (ap (λ (ms : List (List ℕ)). ms ++ on.0) (sym (append_assoc (whole to stream).messages (gets d es) (gets d ds)) ∙ ap (λ (ms : List (List ℕ)). ms ++ gets d ds) all)
        ∙ (on.1 ∙ ap (λ (bs : List ℕ). (whole to bs).messages) (append_assoc stream came_now bytes))),
  )

  next_on : (ls : List Line) (events : List Event) (stream : List ℕ) → NeverJoins c events → NeverJoins d events → (IsOpen stream ls × ((whole to stream).broken ≡ false)) ⊎ IsOver ls → (IsOpen stream ls → (whole to stream).broken ≡ false → GoesOn stream (came c events) (run_from to ls events)) → GoesOn stream (came c events) (run_from to ls events)
  next_on ls events stream one two (inl here) run = run here.0 here.1
  next_on ls events stream one two (inr over) run = silent_on stream (came c events) (run_from to ls events) (over_run ls events one two over)

  open_run : (ls : List Line) (events : List Event) (stream : List ℕ) → NeverJoins c events → NeverJoins d events → (whole to stream).broken ≡ false → IsOpen stream ls → GoesOn stream (came c events) (run_from to ls events)
  open_run ls [] stream one two goes here = silent_on stream [] [] refl
  open_run ls (event ∷ events) stream one two goes here =
      let on = open_step ls event stream one.0 two.0 goes here in
      event_on stream (came_of c event) (came c events) (step to ls event).line (later ls event events) on.all
      (ends_on (stream ++ came_of c event) (came c events) (is_end event) (run_from to (step to ls event).next events) (next_on (step to ls event).next events (stream ++ came_of c event) one.1 two.1 on.next (λ then_open goes_then. open_run (step to ls event).next events (stream ++ came_of c event) one.1 two.1 goes_then then_open)))

  front_then : (xs ys : List (List ℕ)) (zs : List (Option (List ℕ))) → IsPrefix xs ys → IsPrefix (map Some ys) zs → IsPrefix (map Some xs) zs
  front_then xs ys zs one two = (map Some one.0 ++ two.0, sym (append_assoc (map Some xs) (map Some one.0) two.0) ∙ (ap (λ (os : List (Option (List ℕ))). os ++ two.0) (sym (map-append Some xs one.0) ∙ ap (map Some) one.1) ∙ two.1))

  pub one_side : (ls : List Line) (events : List Event) → stream_of c ls ≡ Some [] → is_live d ls ≡ true → NeverJoins c events → NeverJoins d events → IsForOther to (came c events) (gets d (run_from to ls events))
  unfolding cut
  one_side ls events is live one two =
      front_then (gets d (run_from to ls events)) (whole to (came c events)).messages (spelled_all to (drop 1 (frames_of (came c events)))) (open_run ls events [] one two refl (is, live)) (in_order_of to (came c events))
