-- A line has one meaning at most: what it can say is read back from it.
use Rattle.std.proofs.Common.{◌≡◌, inl, inr, ℕ, ◌<◌, ◌^◌, ◌==◌, List, [], ◌∷◌, ◌++◌, drop, get_or, Option, Some, None, Result, Ok, Err, refl, sym, ◌∙◌, ap, arith, codes, if◌then◌else◌}
use Rattle.std.proofs.lemmas.Fmt.{decimal_is_IsNumeral}
use Rattle.std.specs.Fmt.{decimal}
use Rattle.std.specs.Str.Parse.{digits_value}
use Rattle.hex.specs.Hex.{decode_of}
use Rattle.sm_world.specs.declared.events.Event.{Event}
use Rattle.sm_world.specs.declared.events.Event.TheVariants.{Joined, Piece, Gone, Operator, Tick, End}
use Rattle.sm_world.specs.declared.events.Order.{Order}
use Rattle.sm_world.specs.declared.events.Order.TheVariants.{Checkpoint, Shutdown, Cancel, Status, DropConn, Forget}
use Rattle.control_lines.specs.Fields.{SaysBytes}
use Rattle.control_lines.specs.Laws.{MeansOne}
use Rattle.control_lines.specs.Orders.{SaysOrder}
use Rattle.control_lines.specs.Script.{SayAll, Gives}
use Rattle.control_lines.proofs.Splitting.{before, behind, before_is, behind_is, decimal_without}

-- what is read back is the only meaning
one_meaning : {Meaning : Type 0} (Means : Meaning → Type 0) (back : Meaning) → ((meaning : Meaning) → Means meaning → back ≡ meaning) → MeansOne Means
one_meaning Means back is_back one other means_one means_other = sym (is_back one means_one) ∙ is_back other means_other

-- the number behind a word
abbrev pub number_in : List ℕ → ℕ
number_in digits = digits_value 10 digits

number_back : (n : ℕ) → n < 2 ^ 64 → number_in (decimal n) ≡ n
number_back n small = (decimal_is_IsNumeral n small).1

-- The third byte tells the orders apart.
abbrev pub order_by : ℕ → List ℕ → Order
order_by third line =
    if third == 101 then Checkpoint
    else if third == 117 then Shutdown
    else if third == 110 then Cancel
    else if third == 97 then Status
    else if third == 111 then DropConn (number_in (drop 5 line))
    else Forget (drop 7 line)

abbrev pub order_in : List ℕ → Order
order_in line = order_by (get_or line 2 0) line

order_back : (line : List ℕ) (order : Order) → SaysOrder line order → order_in line ≡ order
order_back line Checkpoint says = ap order_in says.0
order_back line Shutdown says = ap order_in says.0
order_back line Cancel says = ap order_in says.0
order_back line Status says = ap order_in says.0
order_back line (DropConn n) says = ap order_in says.0 ∙ ap DropConn (number_back n (omega (arith, says.1)))
order_back line (Forget id) says = ap order_in says.0 ∙ order_by_other id
  where
    order_by_other : (id : List ℕ) → order_in (codes "forget " ++ id) ≡ Forget id
    order_by_other id = refl

pub one_order : (line : List ℕ) → MeansOne (SaysOrder line)
one_order line = one_meaning (SaysOrder line) (order_in line) (order_back line)

abbrev pub bytes_in : {E : Type 0} → Result (List ℕ) E → List ℕ
bytes_in (Ok bytes) = bytes
bytes_in (Err e) = []

abbrev pub piece_in : List ℕ → Event
piece_in fields = Piece (number_in (before 32 fields)) (bytes_in (decode_of (behind 32 fields)))

piece_back : (fields : List ℕ) (n : ℕ) (bytes : List ℕ) → SaysBytes fields n bytes → piece_in fields ≡ Piece n bytes
piece_back fields n bytes says =
    let apart = decimal_without n says.number in
    let front : before 32 fields ≡ decimal n = ap (before 32) says.fields_are ∙ before_is 32 (decimal n) says.text apart in
    let back : behind 32 fields ≡ says.text = ap (behind 32) says.fields_are ∙ behind_is 32 (decimal n) says.text apart in
    let number : number_in (before 32 fields) ≡ n = ap number_in front ∙ number_back n (omega (arith, says.number)) in
    let spelled : bytes_in (decode_of (behind 32 fields)) ≡ bytes = ap (λ text. bytes_in (decode_of text)) back ∙ ap bytes_in says.hex.spells in
    ap (λ k. Piece k (bytes_in (decode_of (behind 32 fields)))) number ∙ ap (Piece n) spelled

pub same_bytes : (fields : List ℕ) (n k : ℕ) (bytes others : List ℕ) → SaysBytes fields n bytes → SaysBytes fields k others → bytes ≡ others
same_bytes fields n k bytes others one other =
    let same : Piece n bytes ≡ Piece k others = sym (piece_back fields n bytes one) ∙ piece_back fields k others other in cc

-- The first byte tells the lines of a script apart.
abbrev pub given_by : ℕ → List ℕ → Option Event
given_by first line =
    if first == 106 then Some (Joined (number_in (drop 5 line)))
    else if first == 103 then Some (Gone (number_in (drop 5 line)))
    else if first == 116 then Some (Tick (number_in (drop 5 line)))
    else if first == 111 then Some (Operator (order_in (drop 6 line)))
    else if first == 112 then Some (piece_in (drop 6 line))
    else None

abbrev pub given_in : List ℕ → Option Event
given_in line = given_by (get_or line 0 0) line

given_back : (line : List ℕ) (given : Option Event) → Gives line given → given_in line ≡ given
given_back line (Some (Joined n)) gives = ap given_in gives.0 ∙ ap (λ k. Some (Joined k)) (number_back n (omega (arith, gives.1)))
given_back line (Some (Gone n)) gives = ap given_in gives.0 ∙ ap (λ k. Some (Gone k)) (number_back n (omega (arith, gives.1)))
given_back line (Some (Tick n)) gives = ap given_in gives.0 ∙ ap (λ k. Some (Tick k)) (number_back n gives.1)
given_back line (Some (Operator order)) (rest, begins, says) = ap given_in begins ∙ ap (λ o. Some (Operator o)) (order_back rest order says)
given_back line (Some (Piece n bytes)) (fields, begins, says) = ap given_in begins ∙ ap Some (piece_back fields n bytes says.said)
given_back line (Some End) gives = elim gives [ ]
given_back [] None gives = refl
given_back (b ∷ line) None gives = ap (λ first. given_by first (b ∷ line)) gives

pub one_given : (line : List ℕ) → MeansOne (Gives line)
one_given line = one_meaning (Gives line) (given_in line) (given_back line)

-- an event, where there is one, before others
abbrev pub before_events : Option Event → List Event → List Event
before_events None events = events
before_events (Some event) events = event ∷ events

abbrev pub events_in : List (List ℕ) → List Event
events_in [] = []
events_in (line ∷ lines) = before_events (given_in line) (events_in lines)

events_back : (lines : List (List ℕ)) (events : List Event) → SayAll lines events → events_in lines ≡ events
events_back [] events all = sym all
events_back (line ∷ lines) events (inl skipped) =
    ap (λ given. before_events given (events_in lines)) (given_back line None skipped.0) ∙ events_back lines events skipped.1
events_back (line ∷ lines) [] (inr says) = elim says [ ]
events_back (line ∷ lines) (event ∷ events) (inr says) =
    ap (λ given. before_events given (events_in lines)) (given_back line (Some event) says.0) ∙ ap (λ es. event ∷ es) (events_back lines events says.1)

pub one_list : (lines : List (List ℕ)) → MeansOne (SayAll lines)
one_list lines = one_meaning (SayAll lines) (events_in lines) (events_back lines)
