-- A line of a trace says one thing at most, and so a trace has one answer.
use Rattle.std.proofs.Common.{◌≡◌, Bool, true, false, ℕ, zero, suc, ◌<◌, ◌≤◌, ◌^◌, ◌==◌, List, [], ◌∷◌, ◌++◌, length, get_or, Some, refl, sym, ◌∙◌, ap, subst, arith, codes, if◌then◌else◌}
use Rattle.std.specs.Fmt.{decimal}
use Rattle.sm_world.specs.declared.events.Event.{Event}
use Rattle.sm_world.specs.declared.events.Event.TheVariants.{Joined, Piece, Gone, Operator, Tick, End as AtEnd}
use Rattle.control_lines.specs.Fields.{SaysBytes}
use Rattle.control_lines.specs.Laws.{MeansOne}
use Rattle.control_lines.specs.Lines.{lines_of}
use Rattle.control_lines.specs.Script.{Says}
use Rattle.control_lines.proofs.Meanings.{one_given, same_bytes}
use Rattle.control_lines.proofs.Splitting.{before, before_is, decimal_without}
use Rattle.trace_replay.specs.Grammar.{BeginsCommand, SaysLine, SayLines}
use Rattle.trace_replay.specs.Openings.{behind_opening}
use Rattle.trace_replay.specs.Traces.{IsTrace}
use Rattle.trace_replay.specs.Shown.{shown}
use Rattle.trace_replay.specs.Shows.{ShowsWithin}
use Rattle.trace_replay.specs.declared.lines.TraceLine.{TraceLine}
use Rattle.trace_replay.specs.declared.lines.TraceLine.TheVariants.{Heard, End, Sent, Shut, Started, Printed}
use Rattle.trace_replay.specs.declared.showing.ShowAnswer.TheVariants.{Text, Malformed}
use Rattle.trace_replay.specs.declared.opening.Opening.{Opening}
use Rattle.trace_replay.proofs.OpeningLemmas.{one_opening, same_field}
use Rattle.trace_replay.proofs.TraceLemmas.{never_both, same_place}

-- ---- numbers and bytes

gone_is : (n k : ℕ) → Some (Gone n) ≡ Some (Gone k) → n ≡ k
gone_is n k e = cc

same_number : (n k : ℕ) → n < 2 ^ 32 → k < 2 ^ 32 → decimal n ≡ decimal k → n ≡ k
same_number n k small other_small e =
    gone_is n k (one_given (codes "gone " ++ decimal n) (Some (Gone n)) (Some (Gone k)) (refl, small) (ap (λ digits. codes "gone " ++ digits) e, other_small))

front_is : (fields : List ℕ) (n : ℕ) (bytes : List ℕ) → SaysBytes fields n bytes → before 32 fields ≡ decimal n
front_is fields n bytes says = ap (before 32) says.fields_are ∙ before_is 32 (decimal n) says.text (decimal_without n says.number)

same_conn : (fields : List ℕ) (n k : ℕ) (bytes others : List ℕ) → SaysBytes fields n bytes → SaysBytes fields k others → n ≡ k
same_conn fields n k bytes others one other =
    same_number n k one.number other.number (sym (front_is fields n bytes one) ∙ front_is fields k others other)

-- ---- the kind of a line

data Kind : Type 0 where
  AnEvent : Kind
  TheEnd : Kind
  ASent : Kind
  AShut : Kind
  AStarted : Kind
  APrinted : Kind

abbrev kind_of : TraceLine → Kind
kind_of (Heard event) = AnEvent
kind_of End = TheEnd
kind_of (Sent n bytes) = ASent
kind_of (Shut n) = AShut
kind_of (Started succeeded text) = AStarted
kind_of (Printed text) = APrinted

-- The first two bytes tell the kinds apart.
abbrev kind_by : ℕ → ℕ → Kind
kind_by first second =
    if first == 101 then TheEnd
    else if first == 117 then AStarted
    else if first == 115 then (if second == 101 then ASent else if second == 104 then AShut else AStarted)
    else if first == 112 then (if second == 114 then APrinted else AnEvent)
    else AnEvent

abbrev kind_in : List ℕ → Kind
kind_in line = kind_by (get_or line 0 0) (get_or line 1 0)

kind_back : (line : List ℕ) (said : TraceLine) → SaysLine line said → kind_in line ≡ kind_of said
kind_back line (Heard (Joined n)) says = ap kind_in says.0
kind_back line (Heard (Piece n bytes)) (fields, begins, says) = ap kind_in begins
kind_back line (Heard (Gone n)) says = ap kind_in says.0
kind_back line (Heard (Operator order)) (rest, begins, says) = ap kind_in begins
kind_back line (Heard (Tick n)) says = ap kind_in says.0
kind_back line (Heard AtEnd) says = elim says [ ]
kind_back line End says = ap kind_in says
kind_back line (Sent n bytes) (fields, begins, says) = ap kind_in begins
kind_back line (Shut n) says = ap kind_in says.0
kind_back line (Started true text) says = ap kind_in says.0
kind_back line (Started false text) says = ap kind_in says.0
kind_back line (Printed text) says = ap kind_in says

same_kind : (line : List ℕ) (one other : TraceLine) → SaysLine line one → SaysLine line other → kind_of other ≡ kind_of one
same_kind line one other means_one means_other = sym (kind_back line other means_other) ∙ kind_back line one means_one

is_heard : (said : TraceLine) → kind_of said ≡ AnEvent → (event : Event) × (said ≡ Heard event)
is_heard (Heard event) e = (event, refl)
is_heard End e = absurd cc
is_heard (Sent n bytes) e = absurd cc
is_heard (Shut n) e = absurd cc
is_heard (Started succeeded text) e = absurd cc
is_heard (Printed text) e = absurd cc

is_end : (said : TraceLine) → kind_of said ≡ TheEnd → said ≡ End
is_end (Heard event) e = absurd cc
is_end End e = refl
is_end (Sent n bytes) e = absurd cc
is_end (Shut n) e = absurd cc
is_end (Started succeeded text) e = absurd cc
is_end (Printed text) e = absurd cc

is_sent : (said : TraceLine) → kind_of said ≡ ASent → (n : ℕ) × (bytes : List ℕ) × (said ≡ Sent n bytes)
is_sent (Heard event) e = absurd cc
is_sent End e = absurd cc
is_sent (Sent n bytes) e = (n, bytes, refl)
is_sent (Shut n) e = absurd cc
is_sent (Started succeeded text) e = absurd cc
is_sent (Printed text) e = absurd cc

is_shut : (said : TraceLine) → kind_of said ≡ AShut → (n : ℕ) × (said ≡ Shut n)
is_shut (Heard event) e = absurd cc
is_shut End e = absurd cc
is_shut (Sent n bytes) e = absurd cc
is_shut (Shut n) e = (n, refl)
is_shut (Started succeeded text) e = absurd cc
is_shut (Printed text) e = absurd cc

is_started : (said : TraceLine) → kind_of said ≡ AStarted → (succeeded : Bool) × ((text : List ℕ) × (said ≡ Started succeeded text))
is_started (Heard event) e = absurd cc
is_started End e = absurd cc
is_started (Sent n bytes) e = absurd cc
is_started (Shut n) e = absurd cc
is_started (Started succeeded text) e = (succeeded, (text, refl))
is_started (Printed text) e = absurd cc

is_printed : (said : TraceLine) → kind_of said ≡ APrinted → (text : List ℕ) × (said ≡ Printed text)
is_printed (Heard event) e = absurd cc
is_printed End e = absurd cc
is_printed (Sent n bytes) e = absurd cc
is_printed (Shut n) e = absurd cc
is_printed (Started succeeded text) e = absurd cc
is_printed (Printed text) e = (text, refl)

-- ---- one meaning

same_event : (event other : Event) → Some event ≡ Some other → event ≡ other
same_event event other e = cc

same_heard : (line : List ℕ) (event other : Event) → Says line event → Says line other → Heard event ≡ Heard other
same_heard line event other one two = ap Heard (same_event event other (one_given line (Some event) (Some other) one two))

same_sent : (line : List ℕ) (n k : ℕ) (bytes others : List ℕ) → SaysLine line (Sent n bytes) → SaysLine line (Sent k others) → Sent n bytes ≡ Sent k others
same_sent line n k bytes others (fields, begins, says) (fields', begins', says') =
    let same : fields' ≡ fields = same_field (codes "sent ") fields' fields (sym begins' ∙ begins) in
    let also : SaysBytes fields k others = subst (λ (text : List ℕ). SaysBytes text k others) same says' in
    ap (λ c. Sent c bytes) (same_conn fields n k bytes others says also) ∙ ap (Sent k) (same_bytes fields n k bytes others says also)

same_shut : (line : List ℕ) (n k : ℕ) → SaysLine line (Shut n) → SaysLine line (Shut k) → Shut n ≡ Shut k
same_shut line n k one other = ap Shut (same_number n k one.1 other.1 (same_field (codes "shut ") (decimal n) (decimal k) (sym one.0 ∙ other.0)))

first_of : (one other : List ℕ) → one ≡ other → get_or one 0 0 ≡ get_or other 0 0
first_of one other e = ap (λ bytes. get_or bytes 0 0) e

same_started : (line : List ℕ) (did did' : Bool) (text text' : List ℕ) → BeginsCommand line did text → BeginsCommand line did' text' → Started did text ≡ Started did' text'
same_started line true true text text' one other = ap (Started true) (same_field (codes "started ") text text' (sym one ∙ other))
same_started line false false text text' one other = ap (Started false) (same_field (codes "unstarted ") text text' (sym one ∙ other))
same_started line true false text text' one other = absurd (omega (arith, first_of _ _ (sym one ∙ other)))
same_started line false true text text' one other = absurd (omega (arith, first_of _ _ (sym one ∙ other)))

one_line : (line : List ℕ) → MeansOne (SaysLine line)
one_line line (Heard event) other one two =
    let h = is_heard other (same_kind line (Heard event) other one two) in
    same_heard line event h.0 one (subst (SaysLine line) h.1 two) ∙ sym h.1
one_line line End other one two = sym (is_end other (same_kind line End other one two))
one_line line (Sent n bytes) other one two =
    let h = is_sent other (same_kind line (Sent n bytes) other one two) in
    same_sent line n h.0 bytes h.1 one (subst (SaysLine line) h.2 two) ∙ sym h.2
one_line line (Shut n) other one two =
    let h = is_shut other (same_kind line (Shut n) other one two) in
    same_shut line n h.0 one (subst (SaysLine line) h.1 two) ∙ sym h.1
one_line line (Started succeeded text) other one two =
    let h = is_started other (same_kind line (Started succeeded text) other one two) in
    same_started line succeeded h.0 text h.1.0 one.0 (subst (SaysLine line) h.1.1 two).0 ∙ sym h.1.1
one_line line (Printed text) other one two =
    let h = is_printed other (same_kind line (Printed text) other one two) in
    ap Printed (same_field (codes "printed ") text h.0 (sym one ∙ subst (SaysLine line) h.1 two)) ∙ sym h.1

one_list : (lines : List (List ℕ)) → MeansOne (SayLines lines)
one_list [] [] [] one two = refl
one_list [] [] (said ∷ others) one two = elim two [ ]
one_list [] (said ∷ others) other one two = elim one [ ]
one_list (line ∷ lines) [] other one two = elim one [ ]
one_list (line ∷ lines) (said ∷ others) [] one two = elim two [ ]
one_list (line ∷ lines) (said ∷ others) (said' ∷ others') one two =
    ap (λ first. first ∷ others) (one_line line said said' one.0 two.0) ∙ ap (λ rest. said' ∷ rest) (one_list lines others others' one.1 two.1)

-- lines are a trace with one opening and one list of meanings
pub one_trace : (lines : List (List ℕ)) (opening other : Opening) (said others : List TraceLine) → IsTrace lines opening said → IsTrace lines other others → (opening ≡ other) × (said ≡ others)
one_trace lines opening other said others one two =
    let is : opening ≡ other = one_opening lines opening other one.opens two.opens in
    (is, one_list (behind_opening opening lines) said others one.say (subst (λ (o : Opening). SayLines (behind_opening o lines) others) (sym is) two.say))

-- ---- one answer

pub one_answer : (limit : ℕ) (trace : List ℕ) → MeansOne (ShowsWithin limit trace)
one_answer limit trace (Text text) (Text other) one two =
    ap Text (one.text_is ∙ (ap shown (one_trace (lines_of trace) one.opening two.opening one.said two.said one.says.all two.says.all).1 ∙ sym two.text_is))
one_answer limit trace (Text text) (Malformed at) one two = absurd (never_both limit trace at one.opening one.said one.says two)
one_answer limit trace (Malformed at) (Text text) one two = absurd (never_both limit trace at two.opening two.said two.says one)
one_answer limit trace (Malformed at) (Malformed other) one two = ap Malformed (same_place limit trace at other one two)
