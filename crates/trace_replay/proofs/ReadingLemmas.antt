-- The lines of a trace, one after the other.
use Rattle.std.proofs.Common.{◌≡◌, ℕ, ◌+◌, ◌<◌, ◌≤◌, ◌^◌, ◌==◌, nat_eq, List, [], ◌∷◌, ◌++◌, length, codes, refl, sym, ◌∙◌, ap, arith, append_assoc, length-append}
use Rattle.std.proofs.lemmas.List.{append-nil}
use Rattle.sm_world.specs.declared.events.Event.TheVariants.{Joined, Piece, Gone, Operator, Tick, End as AtEnd}
use Rattle.ice_framing.proofs.Cuts.{cond-both}
use Rattle.control_lines.specs.Lines.{before_lines, lines_of}
use Rattle.trace_replay.specs.Grammar.{SaysLine}
use Rattle.trace_replay.specs.Shown.{Streams, shown, silence, replaced, after_line, line_shown, shown_from}
use Rattle.trace_replay.specs.Shows.{IsShown}
use Rattle.trace_replay.specs.Watches.{Shows, FollowsLine}
use Rattle.trace_replay.specs.declared.lines.TraceLine.{TraceLine}
use Rattle.trace_replay.specs.declared.lines.TraceLine.TheVariants.{Heard, End, Sent, Shut, Started, Printed}
use Rattle.trace_replay.specs.declared.watch.Watch.{Watch}
use Rattle.trace_replay.specs.declared.opening.Opening.{Opening}
use Rattle.trace_replay.proofs.LineLemmas.{bytes_within}
use Rattle.trace_replay.proofs.TraceLemmas.{ReadTo, ends, goes_on}

-- the streams after some lines
abbrev pub after_lines : Streams → List TraceLine → Streams
after_lines streams [] = streams
after_lines streams (said ∷ others) = after_lines (after_line streams said) others

-- how many bytes some lines have, without their newlines
abbrev pub total : List (List ℕ) → ℕ
total [] = 0
total (line ∷ lines) = length line + total lines

total-append : (lines others : List (List ℕ)) → total (lines ++ others) ≡ total lines + total others
total-append [] others = omega arith
total-append (line ∷ lines) others = omega (arith, total-append lines others)

total-before : (b : ℕ) (lines : List (List ℕ)) → total (before_lines b lines) ≡ 1 + total lines
total-before b [] = refl
total-before b (line ∷ lines) = omega arith

total-lines_of : (text : List ℕ) → total (lines_of text) ≤ length text
total-lines_of [] = omega arith
total-lines_of (b ∷ bytes) =
    cond-both (λ (lines : List (List ℕ)). total lines ≤ length (b ∷ bytes)) (b == 10) ([] ∷ lines_of bytes) (before_lines b (lines_of bytes))
    (λ newline. omega (arith, total-lines_of bytes))
    (λ other. omega (arith, total-lines_of bytes, total-before b (lines_of bytes)))

-- no stream has more bytes than this
pub record AreWithin (bound : ℕ) (streams : Streams) : Type 0 where
  pub came : (q : ℕ) → length (streams.came q) ≤ bound
  pub went : (q : ℕ) → length (streams.went q) ≤ bound

replaced_within : (bound : ℕ) (streams : ℕ → List ℕ) (n : ℕ) (stream : List ℕ) → ((q : ℕ) → length (streams q) ≤ bound) → length stream ≤ bound → (q : ℕ) → length (replaced streams n stream q) ≤ bound
replaced_within bound streams n stream all one q = cond-both (λ (s : List ℕ). length s ≤ bound) (nat_eq q n) stream (streams q) (λ here. one) (λ apart. all q)

looser : (bound more : ℕ) (streams : Streams) → AreWithin bound streams → AreWithin (bound + more) streams
looser bound more streams within = record { came = λ q. omega (arith, within.came q); went = λ q. omega (arith, within.went q) }

-- a line adds no more bytes to a stream than it has
after_within : (bound : ℕ) (line : List ℕ) (streams : Streams) (said : TraceLine) → SaysLine line said → AreWithin bound streams → AreWithin (bound + length line) (after_line streams said)
after_within bound line streams (Heard (Joined n)) says within = let loose = looser bound (length line) streams within in record {
  came = replaced_within (bound + length line) streams.came n [] loose.came (omega arith);
  went = replaced_within (bound + length line) streams.went n [] loose.went (omega arith);
}
after_within bound line streams (Heard (Piece n bytes)) says within = let loose = looser bound (length line) streams within in record {
  came = replaced_within (bound + length line) streams.came n (streams.came n ++ bytes) loose.came (omega (arith, within.came n, length-append (streams.came n) bytes, ap length says.1, bytes_within (codes "piece ") says.0 n bytes says.2.said));
  went = loose.went;
}
after_within bound line streams (Heard (Gone n)) says within = looser bound (length line) streams within
after_within bound line streams (Heard (Operator order)) says within = looser bound (length line) streams within
after_within bound line streams (Heard (Tick milliseconds)) says within = looser bound (length line) streams within
after_within bound line streams (Heard AtEnd) says within = looser bound (length line) streams within
after_within bound line streams End says within = looser bound (length line) streams within
after_within bound line streams (Sent n bytes) says within = let loose = looser bound (length line) streams within in record {
  came = loose.came;
  went = replaced_within (bound + length line) streams.went n (streams.went n ++ bytes) loose.went (omega (arith, within.went n, length-append (streams.went n) bytes, ap length says.1, bytes_within (codes "sent ") says.0 n bytes says.2));
}
after_within bound line streams (Shut n) says within = looser bound (length line) streams within
after_within bound line streams (Started succeeded text) says within = looser bound (length line) streams within
after_within bound line streams (Printed text) says within = looser bound (length line) streams within

-- one more line
after_one_more : (streams : Streams) (said : List TraceLine) (one : TraceLine) → after_lines streams (said ++ one ∷ []) ≡ after_line (after_lines streams said) one
after_one_more streams [] one = refl
after_one_more streams (first ∷ said) one = after_one_more (after_line streams first) said one

shown_one_more : (streams : Streams) (said : List TraceLine) (one : TraceLine) → shown_from streams (said ++ one ∷ []) ≡ shown_from streams said ++ line_shown (after_lines streams said) one
shown_one_more streams [] one = append-nil (line_shown streams one)
shown_one_more streams (first ∷ said) one =
    ap (λ (lines : List ℕ). line_shown streams first ++ lines) (shown_one_more (after_line streams first) said one)
    ∙ sym (append_assoc (line_shown streams first) (shown_from (after_line streams first) said) (line_shown (after_lines (after_line streams first) said) one))

-- In the middle of a trace: what was shown so far is what is shown of the lines so far.
pub record Showing (limit : ℕ) (trace left : List ℕ) (opening : Opening) (watch : Watch) (text : List ℕ) (n : ℕ) : Type 0 where
  pub said : List TraceLine
  pub read : ReadTo limit trace left opening n said
  pub text_is : text ≡ shown said
  pub shows : Shows (after_lines silence said) watch
  pub small : AreWithin (total read.front) (after_lines silence said)
  pub fits : length trace < 2 ^ 64

-- behind the opening
pub shows_none : (limit : ℕ) (trace left : List ℕ) (opening : Opening) (watch : Watch) (text : List ℕ) (n : ℕ) → ReadTo limit trace left opening n [] → text ≡ [] → Shows silence watch → length trace < 2 ^ 64 → Showing limit trace left opening watch text n
shows_none limit trace left opening watch text n read none shows fits = record {
  said = [];
  read = read;
  text_is = none;
  shows = shows;
  small = record { came = λ q. omega arith; went = λ q. omega arith };
  fits = fits;
}

-- one more line was read
pub shows_on : (limit : ℕ) (trace left line rest : List ℕ) (opening : Opening) (watch after : Watch) (text more : List ℕ) (n : ℕ) (one : TraceLine) → Showing limit trace left opening watch text n → lines_of left ≡ line ∷ lines_of rest → SaysLine line one → FollowsLine one watch after text more → (rest ≡ [] → length trace ≤ limit) → Showing limit trace rest opening after more (n + 1)
unfolding goes_on
shows_on limit trace left line rest opening watch after text more n one showing first says follows within =
    let streams : Streams = after_lines silence showing.said in
    let front : List (List ℕ) = showing.read.front in
    let next : AreWithin (total front + length line) (after_line streams one) = after_within (total front) line streams one says showing.small in
    let lines : lines_of trace ≡ front ++ (line ∷ lines_of rest) = showing.read.lines ∙ ap (λ ls. front ++ ls) first in
    let bytes : total front + (length line + total (lines_of rest)) ≤ length trace = omega (arith, ap total lines, total-append front (line ∷ lines_of rest), total-lines_of trace) in
    let followed = follows streams showing.shows (record { came = λ q. omega (arith, next.came q, bytes, showing.fits); went = λ q. omega (arith, next.went q, bytes, showing.fits) }) in
    let streams_are : after_lines silence (showing.said ++ one ∷ []) ≡ after_line streams one = after_one_more silence showing.said one in
    record {
      said = showing.said ++ one ∷ [];
      read = goes_on limit trace left line rest opening n showing.said one showing.read first says within;
      text_is = followed.lines ∙ ap (λ (front : List ℕ). front ++ line_shown streams one) showing.text_is ∙ sym (shown_one_more silence showing.said one);
      shows = rw streams_are followed.shows;
      small = record { came = λ q. rw streams_are (omega (arith, next.came q, total-append front (line ∷ []))); went = λ q. rw streams_are (omega (arith, next.went q, total-append front (line ∷ []))) };
      fits = showing.fits;
    }

-- the trace is at its end
pub shows_all : (limit : ℕ) (trace left : List ℕ) (opening : Opening) (watch : Watch) (text : List ℕ) (n : ℕ) → Showing limit trace left opening watch text n → left ≡ [] → IsShown limit trace text
shows_all limit trace left opening watch text n showing none = record {
  opening = opening;
  said = showing.said;
  says = ends limit trace left opening n showing.said showing.read none;
  text_is = showing.text_is;
}
